use Rattle.std.proofs.Common.{ℕ, ◌≡◌, ◌<◌, ◌≤◌, All, Bor, List, MatchOption, Option, None, Some, arith, length, map, sym, subst}
use Rattle.std.specs.List.{HoldsAt}
use Rattle.std.specs.Option.{option_copied}
use Rattle.std.proofs.lemmas.List.{length-map}
use Rattle.app_router.proofs.Chosen.{none_leads, route_chosen}
use Rattle.app_router.specs.Index.{IsChosenAt, block_of}
use Rattle.app_router.specs.Route.{IsChosen, Leads}
use Rattle.app_router.specs.declared.route.Route.{Route}
use Rattle.ip_wire.specs.IpCidr.{IsIn}
use Rattle.ip_wire.specs.declared.IpAddress.{IpAddress}
use Rattle.app_router.proofs.index.route_at.Goals as goal

-- what `get` gives at the place of the chosen block
read : (routes : List Route) (addr : IpAddress) (i : ℕ) (got : Option (Bor Route))
    → MatchOption got (length routes ≤ i) (λ x. (i < length routes) × HoldsAt (λ route. x.now ≡ route) routes i)
    → IsChosenAt (map block_of routes) addr i
    → MatchOption (option_copied got) (All (λ route. ¬ Leads addr route) routes) (IsChosen routes addr)
read routes addr i None past chosen = absurd (omega (arith, past, chosen.within, length-map routes block_of))
read routes addr i (Some x) (within, is) chosen = route_chosen routes addr i x.now chosen (is x.now)

pub returns-in_err-place : goal.returns-in_err-place
returns-in_err-place c addr found =
    let routes = c.args.routes.now in
    let none : All (λ block. ¬ IsIn block addr) (map block_of routes) =
    subst (λ r. MatchOption r (All (λ block. ¬ IsIn block addr) (map block_of routes)) (IsChosenAt (map block_of routes) addr)) c.in_err-place.was found in
    subst (λ r. MatchOption r (All (λ route. ¬ Leads addr route) routes) (IsChosen routes addr)) (sym c.from_residual.ensures) (none_leads routes addr none)

pub returns : goal.returns
returns c addr found =
    let routes = c.args.routes.now in
    let chosen : IsChosenAt (map block_of routes) addr c.in_ok-place.place =
    subst (λ r. MatchOption r (All (λ block. ¬ IsIn block addr) (map block_of routes)) (IsChosenAt (map block_of routes) addr)) c.in_ok-place.was found in
    subst (λ r. MatchOption r (All (λ route. ¬ Leads addr route) routes) (IsChosen routes addr)) (sym c.copied.ensures)
    (read routes addr c.in_ok-place.place c.get.result c.get.ensures.lookup.3 chosen)
