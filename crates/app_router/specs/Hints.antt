-- The hints of an index: where the nodes of each part of the address space begin.
use Rattle.std.specs.Prelude.{ℕ, ◌≡◌, ◌≢◌, ◌↔◌, ◌⊎◌, ◌+◌, ◌-◌, ◌*◌, ◌/◌, ◌%◌, ◌^◌, ◌<◌, ◌≤◌, nat_lt, if◌then◌else◌, List, drop, length, take}
use Rattle.app_router.specs.Index.{node_at}
use Rattle.app_router.specs.declared.index.Node.{Node}

-- the hint of the node at index k
abbrev pub hint_at : List Node → ℕ → ℕ
hint_at nodes k = (node_at nodes k).hint

-- the first 64 bits of the first address of the node at index k
abbrev pub high_at : List Node → ℕ → ℕ
high_at nodes k = (node_at nodes k).high

-- the number of parts for so many nodes of one version
abbrev pub part_count : ℕ → ℕ
part_count len = len - len / 4 - 2

-- the part of a number of 64 bits, of `count` equal ones
abbrev pub part_of : ℕ → ℕ → ℕ
part_of count number = number * count / 2 ^ 64

-- the part of the node at index k
abbrev pub part_at : List Node → ℕ → ℕ
part_at nodes k = part_of (part_count (length nodes)) (high_at nodes k)

-- the place in a hint: its first 25 bits, or all of it in a table of 2^25 nodes or more
abbrev pub place_in : ℕ → ℕ → ℕ
place_in len hint = if nat_lt len (2 ^ 25) then hint % 2 ^ 25 else hint

-- the nodes before index k are in parts before part p, and those from index k on are not
pub record IsBegin (nodes : List Node) (p k : ℕ) : Type 0 where
  pub within : k ≤ length nodes
  pub before : (i : ℕ) → i < k → i < length nodes → part_at nodes i < p
  pub others : (i : ℕ) → k ≤ i → i < length nodes → p ≤ part_at nodes i

-- The nodes of one version are in order, without hints.
pub record IsUnhinted (nodes : List Node) : Type 0 where
  pub ordered : (i j : ℕ) → i ≤ j → j < length nodes → high_at nodes i ≤ high_at nodes j
  pub none : (k : ℕ) → k < length nodes → hint_at nodes k ≡ 0

-- Hint p + 1 of more than 12 nodes of one version has the place where part p begins, or where the last part ends.
abbrev pub HasPlaces : List Node → Type 0
HasPlaces nodes = 12 < length nodes → (p : ℕ) → p ≤ part_count (length nodes) → IsBegin nodes p (place_in (length nodes) (hint_at nodes (p + 1)))

-- The nodes are in order, without hints: the IPv4 nodes are first, and those of either version are in the order of their
-- first 64 bits.
pub record IsInOrder (nodes : List Node) : Type 0 where
  pub ipv4_first : (i j : ℕ) → i ≤ j → j < length nodes → (node_at nodes j).version ≡ 4 → (node_at nodes i).version ≡ 4
  pub ordered : (i j : ℕ) → i ≤ j → j < length nodes → ((node_at nodes i).version ≡ 4) ↔ ((node_at nodes j).version ≡ 4) → high_at nodes i ≤ high_at nodes j
  pub none : (k : ℕ) → k < length nodes → hint_at nodes k ≡ 0

-- The first hint of more than 12 nodes is the number of IPv4 nodes, and the nodes of either version have the hints of their
-- parts.
pub record IsHinted (nodes : List Node) : Type 0 where
  pub within : hint_at nodes 0 ≤ length nodes
  pub ipv4 : (k : ℕ) → k < hint_at nodes 0 → (node_at nodes k).version ≡ 4
  pub ipv6 : (k : ℕ) → hint_at nodes 0 ≤ k → k < length nodes → (node_at nodes k).version ≢ 4
  pub ipv4_places : HasPlaces (take (hint_at nodes 0) nodes)
  pub ipv6_places : HasPlaces (drop (hint_at nodes 0) nodes)

-- ---- where a search begins

-- part p of the nodes of one version is not divided again: its hint is a place
abbrev pub IsPlain : List Node → ℕ → Type 0
IsPlain nodes p = (2 ^ 25 ≤ length nodes) ⊎ (hint_at nodes (p + 1) < 2 ^ 25)

-- the part of an address among the nodes of one version
abbrev pub part_for : List Node → Node → ℕ
part_for nodes target = part_of (part_count (length nodes)) target.high

-- where a part of the nodes of one version begins and ends, by its hints
abbrev pub places_of : List Node → ℕ → ℕ × ℕ
places_of nodes p = (place_in (length nodes) (hint_at nodes (p + 1)), place_in (length nodes) (hint_at nodes (p + 2)))

-- two places among all nodes, from those among the nodes after the first n, as numbers of 64 bits
abbrev pub offset_by : ℕ → ℕ × ℕ → ℕ × ℕ
offset_by n places = ((n + places.0) % 2 ^ 64, (n + places.1) % 2 ^ 64)
