use Rattle.std.proofs.Common.{◌≡◌, Some}
use Rattle.app_edit.proofs.Made.{known, other-kept}
use Rattle.app_edit.specs.Places.{places_of}
use Rattle.app_edit.specs.declared.places.Places.{Places}
use Rattle.app_edit.proofs.laws.edit_keeps_other_bytes.Goals as goal

pub returns : goal.returns
returns c p is beside header transport =
    let o = c.args.offload in
    let e = c.args.edit.now in
    let xs = c.args.frame.now in
    let ys = c.make-done.new.frame in
    let all = λ (p : Places) (is : places_of xs ≡ Some p).
    known o e xs ys p c.of.result c.of-2.result c.of.ensures.value c.of.ensures.holds c.of-2.ensures.value c.of-2.ensures.holds c.make-done.ensures.places
    c.bytes_fit.ensures c.bytes_fit-2.ensures c.make-done.ensures.address c.make-done.ensures.bytes is in
    other-kept o e xs ys p c.args.i (all p is) beside header transport
