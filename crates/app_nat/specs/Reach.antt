-- The least reach of each place, and `shrink_reach`, which gives each place its least reach.
-- Pinned by: `worked/reach`
use Rattle.std.specs.Prelude.{ℕ, ◌≡◌, ◌≢◌, ◌≤◌, ◌⊎◌, List, length, slice_index_or}
use Rattle.app_nat.specs.Mapping.{with_reach}
use Rattle.app_nat.specs.Table.{MapsTo, free_mapping, home_of, place_of, row_of}
use Rattle.app_nat.specs.declared.mapping.Ipv4Endpoint.{Ipv4Endpoint}
use Rattle.app_nat.specs.declared.mapping.Mapping.{Mapping}
use Rattle.app_nat.specs.declared.nat.Nat.{Nat}
use Rattle.app_nat.specs.declared.state.Protocol.{Protocol}

-- the mapping at a place of the table
abbrev pub at_place : List Mapping → ℕ → Mapping
at_place mappings place = slice_index_or mappings place free_mapping

-- the place of the home of an endpoint
abbrev pub home_place : Nat → ℕ → Protocol → Ipv4Endpoint → ℕ
home_place nat len protocol inside = place_of nat len protocol (home_of nat len inside)

-- an endpoint whose home is at this place has a live mapping in this row, which is not at its own port
pub record IsReached (nat : Nat) (mappings : List Mapping) (now place row : ℕ) : Type 0 where
  pub protocol : Protocol
  pub port : ℕ
  pub inside : Ipv4Endpoint
  pub maps : MapsTo nat mappings now protocol port inside
  pub elsewhere : port ≢ inside.port
  pub is_home : place ≡ home_place nat (length mappings) protocol inside
  pub is_row : row ≡ row_of nat (length mappings) inside port

-- the least reach of a place: the last row that is reached from there, or 0 if none is
pub record IsLeastReach (nat : Nat) (mappings : List Mapping) (now place reach : ℕ) : Type 0 where
  pub most : (row : ℕ) → IsReached nat mappings now place row → row ≤ reach
  pub least : (reach ≡ 0) ⊎ IsReached nat mappings now place reach

-- only reaches differ
pub record HasMappings (old new : List Mapping) : Type 0 where
  pub len : length new ≡ length old
  pub same : (place : ℕ) → at_place new place ≡ with_reach (at_place new place).reach (at_place old place)

-- each place has its least reach, and nothing else has changed
pub record Shrinks (nat : Nat) (old new : List Mapping) (now : ℕ) : Type 0 where
  pub mappings : HasMappings old new
  pub reach : (place : ℕ) → IsLeastReach nat old now place (at_place new place).reach

-- reaches were raised by the live mappings of these protocols and ports
pub record Raises (nat : Nat) (old new : List Mapping) (now : ℕ) (P : Protocol → ℕ → Type 0) : Type 0 where
  pub mappings : HasMappings old new
  pub keeps : (place : ℕ) → (at_place old place).reach ≤ (at_place new place).reach
  pub most : (protocol : Protocol) (port : ℕ) (inside : Ipv4Endpoint) → P protocol port → MapsTo nat old now protocol port inside
      → port ≢ inside.port → row_of nat (length old) inside port ≤ (at_place new (home_place nat (length old) protocol inside)).reach
  pub least : (place : ℕ) → ((at_place new place).reach ≡ (at_place old place).reach) ⊎ IsReached nat old now place (at_place new place).reach
