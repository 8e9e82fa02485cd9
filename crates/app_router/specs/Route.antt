-- Routes: among the blocks that contain an address, the longest prefix decides (RFC 1812, section 5.2.4.3).
-- Pinned by: `apps/routes`
use Rattle.std.specs.Prelude.{◌≡◌, ◌<◌, ◌≤◌, ◌⊎◌, ◌++◌, ◌∷◌, All, List}
use Rattle.app_router.specs.declared.route.Route.{Route}
use Rattle.ip_wire.specs.IpCidr.{IsIn, block_prefix_len}
use Rattle.ip_wire.specs.declared.IpAddress.{IpAddress}

-- the block of the route contains the address
abbrev pub Leads : IpAddress → Route → Type 0
Leads addr route = IsIn route.block addr

-- A route of the list whose block contains the address, with the longest prefix. Earlier routes that contain it have
-- shorter prefixes, and later ones have no longer prefixes.
pub record IsChosen (routes : List Route) (addr : IpAddress) (route : Route) : Type 0 where
  pub before : List Route
  pub after : List Route
  pub listed : routes ≡ before ++ route ∷ after
  pub leads : Leads addr route
  pub shorter : All (λ other. Leads addr other → block_prefix_len other.block < block_prefix_len route.block) before
  pub no_longer : All (λ other. Leads addr other → block_prefix_len other.block ≤ block_prefix_len route.block) after

-- the chosen one of two routes that contain an address, an earlier and a later one
abbrev pub IsBetter : Route → Route → Route → Type 0
IsBetter later result former =
    (result ≡ former) × (block_prefix_len later.block ≤ block_prefix_len former.block)
    ⊎ (result ≡ later) × (block_prefix_len former.block < block_prefix_len later.block)
