use Rattle.std.proofs.Common.{◌≡◌, ◌∙◌, Some, ap, sym}
use Rattle.app_edit.proofs.Kept.{found}
use Rattle.app_edit.proofs.PlacesStay.{port-places}
use Rattle.app_edit.proofs.edits.set_port.Goals as goal
use Rattle.app_edit.specs.Edited.{port_place}
use Rattle.app_edit.specs.Places.{places_of}

pub returns-in-Some-port_place-clause-places : goal.returns-in-Some-port_place-clause-places
returns-in-Some-port_place-clause-places c =
    let xs = c.args.frame.now in
    let p = c.in-Some.places in
    let at = c.in-Some-port_place.at in
    let is : places_of xs ≡ Some p = sym c.inlined.ensures.value ∙ c.in-Some.is in
    let here : port_place c.args.side p.carried ≡ Some at = sym c.port_place.ensures ∙ c.in-Some-port_place.is in
    ap places_of c.replace_port.ensures
    ∙ port-places c.args.offload p xs c.args.side at c.args.port (found c.inlined.result xs p c.inlined.ensures.value c.inlined.ensures.holds is) is here ∙ sym is
