use Rattle.std.proofs.Common.{◌≡◌, ◌∙◌, Some, ap, rules, sym, true}
use Rattle.app_edit.proofs.Kept.{found}
use Rattle.app_edit.proofs.PlacesStay.{address-places}
use Rattle.app_edit.proofs.edits.set_addr.Goals as goal
use Rattle.app_edit.specs.Edited.{takes_address}
use Rattle.app_edit.specs.Places.{places_of}

pub returns-clause-places : goal.returns-clause-places
returns-clause-places c =
    let xs = c.args.frame.now in
    let p = c.in-Some.places in
    let is : places_of xs ≡ Some p = sym c.inlined.ensures.value ∙ c.in-Some.is in
    let takes : takes_address p c.args.addr.now ≡ true = search rules in
    ap places_of c.write_address.ensures.bytes
    ∙ address-places c.args.offload p xs c.args.side c.args.addr.now (found c.inlined.result xs p c.inlined.ensures.value c.inlined.ensures.holds is) is takes c.write_address.ensures.octets
    ∙ sym is
