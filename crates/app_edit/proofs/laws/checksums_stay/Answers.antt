use Rattle.std.proofs.Common.{◌≡◌, Some}
use Rattle.app_edit.proofs.Made.{header-kept, known, left-kept, valid-kept, wrong-kept}
use Rattle.app_edit.specs.Places.{places_of}
use Rattle.app_edit.specs.declared.places.Places.{Places}
use Rattle.app_edit.proofs.laws.checksums_stay.Goals as goal

pub returns : goal.returns
returns c =
    let o = c.args.offload in
    let e = c.args.edit.now in
    let xs = c.args.frame.now in
    let ys = c.make-done.new.frame in
    let all = λ (p : Places) (is : places_of xs ≡ Some p).
    known o e xs ys p c.of.result c.of-2.result c.of.ensures.value c.of.ensures.holds c.of-2.ensures.value c.of-2.ensures.holds c.make-done.ensures.places
    c.bytes_fit.ensures c.bytes_fit-2.ensures c.make-done.ensures.address c.make-done.ensures.bytes is in
    record {
      header = λ p is four. header-kept o e xs ys p (all p is) four;
      valid = λ p s is one told some valid. valid-kept o e xs ys p s (all p is) one told some valid;
      wrong = λ p s is one here some valid. wrong-kept o e xs ys p s (all p is) one here some valid;
      left = λ p s is one left said. left-kept o e xs ys p s (all p is) one left said;
    }
