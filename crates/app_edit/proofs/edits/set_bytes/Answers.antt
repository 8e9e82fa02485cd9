use Rattle.std.proofs.Common.{◌≡◌, ◌≤◌, ◌∙◌, ◌+◌, Some, ap, length, rules, sym, true}
use Rattle.app_edit.proofs.Kept.{found}
use Rattle.app_edit.proofs.PlacesStay.{places-stay}
use Rattle.app_edit.proofs.edits.set_bytes.Goals as goal
use Rattle.app_edit.specs.Edited.{allows}
use Rattle.app_edit.specs.Places.{places_of}

pub returns-clause-places : goal.returns-clause-places
returns-clause-places c =
    let xs = c.args.frame.now in
    let p = c.in-Some.places in
    let bytes = c.args.bytes.now in
    let at = c.args.at in
    let is : places_of xs ≡ Some p = sym c.inlined.ensures.value ∙ c.in-Some.is in
    let room : at + length bytes ≤ length xs = search rules in
    let allowed : allows p at (at + length bytes) ≡ true = search rules in
    ap places_of c.replace.ensures
    ∙ places-stay c.args.offload p xs bytes at (found c.inlined.result xs p c.inlined.ensures.value c.inlined.ensures.holds is) is room allowed ∙ sym is
