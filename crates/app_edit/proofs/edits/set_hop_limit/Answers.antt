use Rattle.std.proofs.Common.{◌≡◌, ◌∙◌, [], ◌∷◌, Some, ap, sym}
use Rattle.app_edit.proofs.Kept.{found}
use Rattle.app_edit.proofs.PlacesStay.{hop_limit-places}
use Rattle.app_edit.proofs.edits.set_hop_limit.Goals as goal
use Rattle.app_edit.specs.Edited.{edited}
use Rattle.app_edit.specs.Places.{places_of}
use Rattle.app_edit.specs.declared.replace.Offload.TheVariants.{Complete}

pub returns-clause-places : goal.returns-clause-places
returns-clause-places c =
    let xs = c.args.frame.now in
    let p = c.in-Some.places in
    let n = c.args.hop_limit in
    let is : places_of xs ≡ Some p = sym c.inlined.ensures.value ∙ c.in-Some.is in
    ap places_of (c.replace_before_addresses.ensures ∙ ap (λ at. edited Complete p xs at (n ∷ [])) c.hop_limit_place-at.ensures.value)
    ∙ hop_limit-places Complete p xs n (found c.inlined.result xs p c.inlined.ensures.value c.inlined.ensures.holds is) is ∙ sym is
