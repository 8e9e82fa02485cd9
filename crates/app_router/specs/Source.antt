-- The sources that a router accepts (RFC 1812, sections 5.3.7 and 5.3.8; RFC 3704, section 2.2).
-- Pinned by: `worked/route`, `RoutesOnce`
use Rattle.std.specs.Prelude.{ℕ, ◌≡◌, ◌≢◌, ◌⊎◌, All, List, MatchOption, Option, Some, None}
use Rattle.app_host.specs.Source.{IsNoHost, IsThisHost}
use Rattle.app_router.specs.Route.{IsChosen, Leads}
use Rattle.app_router.specs.declared.route.Route.{Route}
use Rattle.app_router.specs.declared.source.SourceFault.{SourceFault}
use Rattle.app_router.specs.declared.source.SourceFault.TheVariants.{Martian, NoRoute, OtherInterface}
use Rattle.ip_wire.specs.declared.IpAddress.{IpAddress}

-- no host may send a packet from this address (RFC 1812, section 5.3.7; RFC 4291, section 2.7)
abbrev pub IsMartian : IpAddress → Type 0
IsMartian addr = IsThisHost addr ⊎ IsNoHost addr

-- why a packet from a source address that came in by an interface is dropped, if the route back to it leads to this
-- interface, or there is none
abbrev pub IsFault : IpAddress → ℕ → Option ℕ → SourceFault → Type 0
IsFault src interface back Martian = IsMartian src
IsFault src interface back NoRoute = ¬ IsMartian src × (back ≡ None)
IsFault src interface back OtherInterface = ¬ IsMartian src × ((other : ℕ) × (back ≡ Some other) × (other ≢ interface))

-- the packet is accepted exactly if its source is not martian and the route back leads to the interface
abbrev pub ChecksSource : IpAddress → ℕ → Option ℕ → Option SourceFault → Type 0
ChecksSource src interface back fault = MatchOption fault (¬ IsMartian src × (back ≡ Some interface)) (IsFault src interface back)

-- the interface of the route to an address, if there is a route
abbrev pub IsBack : List Route → IpAddress → Option ℕ → Type 0
IsBack routes addr back = MatchOption back (All (λ route. ¬ Leads addr route) routes)
    (λ interface. (route : Route) × IsChosen routes addr route × (route.interface ≡ interface))
