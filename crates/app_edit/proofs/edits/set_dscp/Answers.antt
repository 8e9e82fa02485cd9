use Rattle.std.proofs.Common.{◌≡◌, ◌∙◌, Some, ap, rules, slice_range, sym}
use Rattle.app_edit.proofs.Kept.{found}
use Rattle.app_edit.proofs.PlacesStay.{dscp-places}
use Rattle.app_edit.proofs.edits.set_dscp.Goals as goal
use Rattle.app_edit.specs.Edited.{edited, with_dscp}
use Rattle.app_edit.specs.Places.{places_of}
use Rattle.app_edit.specs.declared.replace.Offload.TheVariants.{Complete}

pub returns-clause-places : goal.returns-clause-places
returns-clause-places c =
    let xs = c.args.frame.now in
    let p = c.in-Some.places in
    let n = c.args.dscp in
    let is : places_of xs ≡ Some p = sym c.inlined.ensures.value ∙ c.in-Some.is in
    let written : c.write_dscp.new.bytes ≡ with_dscp p.version (slice_range xs 14 16) n = search rules in
    ap places_of (c.replace_before_addresses.ensures ∙ ap (λ bytes. edited Complete p xs 14 bytes) written)
    ∙ dscp-places Complete p xs n (found c.inlined.result xs p c.inlined.ensures.value c.inlined.ensures.holds is) is c.bytes_fit.ensures ∙ sym is
