-- The sources that a router accepts, with the structs of C.
-- Pinned by: `worked/route`
use Rattle.std.specs.Prelude.{ℕ, ℤ, pos, ◌≡◌, All, List, MatchOption, Option}
use Rattle.app_router.specs.Source.{ChecksSource}
use Rattle.app_router.specs.declared.source.SourceFault.{SourceFault}
use Rattle.c_structs.specs.Addresses.{ip_of}
use Rattle.c_structs.specs.declared.types.Addr.{Addr}
use Rattle.c_routing.specs.Rejections.{rejection_code, source_code}
use Rattle.c_routing.specs.Routes.{IsChosen, Leads, route_at}
use Rattle.c_routing.specs.declared.rejections.Rejection.TheVariants as rejection
use Rattle.c_routing.specs.declared.routes.Route.{Route}

-- the interface of the route to an address, if there is a route
abbrev pub IsBack : List Route → Addr → Option ℕ → Type 0
IsBack routes addr back =
    MatchOption back (All (λ route. ¬ Leads addr route) routes) (λ interface. (i : ℕ) × IsChosen routes addr i × ((route_at routes i).interface ≡ interface))

-- the number of the fault that this source address has, by the route back to it, is returned; an address without a
-- version counts as martian
abbrev pub ChecksAddr : List Route → Addr → ℕ → ℤ → Type 0
ChecksAddr routes src interface answer = MatchOption (ip_of src) (answer ≡ pos (rejection_code rejection.Martian))
    (λ addr. (back : Option ℕ) × IsBack routes src back × ((fault : Option SourceFault) × ChecksSource addr interface back fault × (answer ≡ pos (source_code fault))))
