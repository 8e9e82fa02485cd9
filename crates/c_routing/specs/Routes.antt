-- Routes as the structs of C, and what the calls with them return and write.
-- Pinned by: `worked/route`, `judge`
use Rattle.std.specs.Prelude.{ℕ, ℤ, pos, negsuc, ◌≡◌, ◌+◌, ◌*◌, ◌<◌, ◌≤◌, ◌⊎◌, ◌^◌, ◌&&◌, All, is_none, nat_le, nat_lt, if◌then◌else◌, List, drop, length, map, slice_index_or, take, IsSomeAnd, MatchOption, Option, None, Some}
use Rattle.std.specs.List.{list_any}
use Rattle.app_router.specs.Index.{IsIndex}
use Rattle.app_router.specs.Table.{AreHints, IsTable, hints_in}
use Rattle.app_router.specs.declared.index.Node.{Node}
use Rattle.ip_wire.specs.IpCidr.{IsIn}
use Rattle.ip_wire.specs.declared.IpCidr.{IpCidr}
use Rattle.c_structs.specs.Addresses.{block_of, ip_of, no_addr}
use Rattle.c_structs.specs.Written.{failure_code, max_len}
use Rattle.c_structs.specs.declared.failures.Failure.{Failure}
use Rattle.c_structs.specs.declared.failures.Failure.TheVariants as failure
use Rattle.c_structs.specs.declared.types.Addr.{Addr}
use Rattle.c_routing.specs.Lengths.{in_bounds}
use Rattle.c_routing.specs.declared.routes.Route.{Route}

-- ---- routes

-- the block of destinations of a route, if it is valid
abbrev pub destinations : Route → Option IpCidr
destinations route = block_of route.block

-- the route at index i of a list; past its end one without a block
abbrev pub route_at : List Route → ℕ → Route
route_at routes i = slice_index_or routes i (record { block = record { addr = no_addr; prefix_len = 0 }; next_hop = no_addr; interface = 0 })

-- the route has a valid block, which contains the address
abbrev pub Leads : Addr → Route → Type 0
Leads addr route = IsSomeAnd (destinations route) (λ block. IsSomeAnd (ip_of addr) (IsIn block))

-- The block of the route at index i contains the address, and has the longest prefix of those that do. Of several
-- with that length it is the first.
pub record IsChosen (routes : List Route) (addr : Addr) (i : ℕ) : Type 0 where
  pub within : i < length routes
  pub leads : Leads addr (route_at routes i)
  pub shorter : (j : ℕ) → j < i → Leads addr (route_at routes j) → (route_at routes j).block.prefix_len < (route_at routes i).block.prefix_len
  pub no_longer : (j : ℕ) → i < j → j < length routes → Leads addr (route_at routes j)
      → (route_at routes j).block.prefix_len ≤ (route_at routes i).block.prefix_len

-- ---- the index

-- every route has a block, and these nodes are the index of the blocks
pub record IsIndexOf (routes : List Route) (nodes : List Node) : Type 0 where
  pub blocks : List IpCidr
  pub listed : map destinations routes ≡ map Some blocks
  pub index : IsIndex blocks nodes

-- why these routes get no index in `room` nodes; the routes of a list that is too long are not looked at
abbrev pub index_failure : List Route → ℕ → Option Failure
index_failure routes room =
    if list_any (λ route. is_none (ip_of route.block.addr)) (in_bounds routes) then Some failure.NoVersion
    else if list_any (λ route. is_none (destinations route)) (in_bounds routes) then Some failure.BadPrefix
    else if nat_le (length routes) room && nat_le room max_len && nat_lt (length routes) (2 ^ 32) then None
    else Some failure.NoRoom

-- the index is written to the first nodes, and their number is returned; the other nodes are unchanged
pub record WritesIndex (routes : List Route) (old new : List Node) (answer : ℤ) : Type 0 where
  pub count : answer ≡ pos (length routes)
  pub index : IsIndexOf routes (take (length routes) new)
  pub following : drop (length routes) new ≡ drop (length routes) old

-- the index is written, or a failure is returned and the nodes are unchanged
abbrev pub Indexes : List Route → List Node → List Node → ℤ → Type 0
Indexes routes old new answer =
    MatchOption (index_failure routes (length old)) (WritesIndex routes old new answer) (λ why. (answer ≡ failure_code why) × (new ≡ old))

-- ---- the table

-- every route has a block, these nodes are the index of the blocks, and the first of these cells are the table of the blocks
pub record IsTableOf (routes : List Route) (nodes : List Node) (cells : List ℕ) : Type 0 where
  pub blocks : List IpCidr
  pub listed : map destinations routes ≡ map Some blocks
  pub index : IsIndex blocks nodes
  pub table : IsTable blocks cells

-- the number of cells of the table of an index
abbrev pub table_len : List Node → ℕ
table_len nodes = 5 * (length nodes + 1)

-- why this index gets no table in `room` cells
abbrev pub table_failure : List Node → ℕ → Option Failure
table_failure nodes room =
    if nat_lt (length nodes) (2 ^ 26) && nat_le (table_len nodes) room && nat_le room max_len then None else Some failure.NoRoom

-- The table is written to the first cells, and their number is returned. Each of its hints is the index of a range, so that no
-- cell keeps what was in it. The other cells are unchanged.
pub record WritesTable (nodes : List Node) (old new : List ℕ) (answer : ℤ) : Type 0 where
  pub count : answer ≡ pos (table_len nodes)
  pub table : (routes : List Route) → IsIndexOf routes nodes → IsTableOf routes nodes new
  pub hints : AreHints (2 * (length nodes + 1)) (hints_in (length nodes) new)
  pub following : drop (table_len nodes) new ≡ drop (table_len nodes) old

-- the table is written, or a failure is returned and the cells are unchanged
abbrev pub MakesTable : List Node → List ℕ → List ℕ → ℤ → Type 0
MakesTable nodes old new answer =
    MatchOption (table_failure nodes (length old)) (WritesTable nodes old new answer) (λ why. (answer ≡ failure_code why) × (new ≡ old))

-- ---- look-ups

-- the index of the chosen route is returned; or -1, and no block contains the address
abbrev pub Chooses : List Route → Addr → ℤ → Type 0
Chooses routes addr answer =
    ((i : ℕ) × (answer ≡ pos i) × IsChosen routes addr i) ⊎ ((answer ≡ negsuc 0) × All (λ route. ¬ Leads addr route) routes)
