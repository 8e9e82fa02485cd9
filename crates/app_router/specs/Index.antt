-- An index of blocks: nodes in the order of their first addresses, each with a link to the next larger block around it.
-- Of the blocks that contain an address, the last in this order has the longest prefix.
-- Pinned by: `worked/route`, `RoutesOnce`
use Rattle.std.specs.Prelude.{ℕ, ◌≡◌, ◌+◌, ◌-◌, ◌*◌, ◌/◌, ◌%◌, ◌^◌, ◌<◌, ◌≤◌, List, length, map, replicate, slice_index_or}
use Rattle.std.specs.List.Sorted.{IsNonDecreasingBy, IsPermutation}
use Rattle.app_router.specs.declared.index.Node.{Node}
use Rattle.app_router.specs.declared.route.Route.{Route}
use Rattle.ip_wire.specs.IpAddress.{IsAddress, bits_of}
use Rattle.ip_wire.specs.IpCidr.{IsIn, block_address, block_prefix_len}
use Rattle.ip_wire.specs.Prefix.{number_of}
use Rattle.ip_wire.specs.declared.IpAddress.{IpAddress}
use Rattle.ip_wire.specs.declared.IpAddress.TheVariants.{Ipv4, Ipv6}
use Rattle.ip_wire.specs.declared.IpCidr.{IpCidr}
use Rattle.ip_wire.specs.declared.IpCidr.TheVariants as cidr

-- ---- addresses of both versions in one order

-- the version number in an IP header (RFC 791, section 3.1; RFC 8200, section 3)
abbrev pub version_number : IpAddress → ℕ
version_number (Ipv4 bytes) = 4
version_number (Ipv6 bytes) = 6

-- an address as a number of 128 bits; an IPv4 address has the first 32 of them
abbrev pub first_bits : IpAddress → ℕ
first_bits (Ipv4 bytes) = number_of bytes * 2 ^ 96
first_bits (Ipv6 bytes) = number_of bytes

-- ---- blocks

-- the block is valid: its address has the bytes of its version, and the prefix has no more bits
abbrev pub IsBlock : IpCidr → Type 0
IsBlock block = IsAddress (block_address block) × (block_prefix_len block ≤ bits_of (block_address block))

-- the block at index i of a list; past its end 0.0.0.0/0
abbrev pub block_at : List IpCidr → ℕ → IpCidr
block_at blocks i = slice_index_or blocks i (cidr.Ipv4 (record { address = replicate 4 0; prefix_len = 0 }))

-- The block at index i contains the address, and has the longest prefix of those that do. Of several with that length
-- it is the first.
pub record IsChosenAt (blocks : List IpCidr) (addr : IpAddress) (i : ℕ) : Type 0 where
  pub within : i < length blocks
  pub leads : IsIn (block_at blocks i) addr
  pub shorter : (j : ℕ) → j < i → IsIn (block_at blocks j) addr → block_prefix_len (block_at blocks j) < block_prefix_len (block_at blocks i)
  pub no_longer : (j : ℕ) → i < j → j < length blocks → IsIn (block_at blocks j) addr
      → block_prefix_len (block_at blocks j) ≤ block_prefix_len (block_at blocks i)

-- the block of a route
abbrev pub block_of : Route → IpCidr
block_of route = route.block

-- ---- nodes

-- a node with this version, these 128 bits, this prefix length and this route
abbrev pub node_with : ℕ → ℕ → ℕ → ℕ → Node
node_with version bits prefix_len route = record {
  high = bits / 2 ^ 64;
  low = bits % 2 ^ 64;
  route = route;
  above = 0;
  version = version;
  prefix_len = prefix_len;
  unused = replicate 2 0;
  hint = 0;
}

-- the node of a block, without a link: its first address is the prefix, then zeros
abbrev pub node_of : IpCidr → ℕ → Node
node_of block route =
    let zeros = 128 - block_prefix_len block in
    node_with (version_number (block_address block)) (first_bits (block_address block) / 2 ^ zeros * 2 ^ zeros) (block_prefix_len block) route

-- an address, as the node of a block with a longer prefix than any block has
abbrev pub target_of : IpAddress → Node
target_of addr = node_with (version_number addr) (first_bits addr) 129 0

-- a node without its hint, which only helps the search
abbrev pub unmarked : Node → Node
unmarked node = record node { hint = 0 }

-- a node without its link and its hint
abbrev pub unlinked : Node → Node
unlinked node = record node { above = 0; hint = 0 }

-- the node at index k of a list; past its end zeros
abbrev pub node_at : List Node → ℕ → Node
node_at nodes k = slice_index_or nodes k (node_with 0 0 0 0)

-- the position of a block's first address among all addresses: IPv4 addresses are before IPv6 addresses
abbrev pub place : Node → ℕ
place node = node.version * 2 ^ 128 + (node.high * 2 ^ 64 + node.low)

-- The order of nodes: by their first addresses; of blocks with the same first address larger ones first; of equal
-- blocks the last route first.
abbrev pub rank : Node → ℕ
rank node = (place node * 2 ^ 8 + node.prefix_len) * 2 ^ 32 + (2 ^ 32 - 1 - node.route)

-- the nodes before index `low` are at or before this node, and those from index `high` on are after it
abbrev pub IsSplit : List Node → ℕ → ℕ → Node → Type 0
IsSplit nodes low high node = ((k : ℕ) → k < low → place (node_at nodes k) ≤ place node)
    × ((k : ℕ) → high ≤ k → k < length nodes → place node < place (node_at nodes k))

-- the block of the first node is larger, and contains that of the second
abbrev pub Encloses : Node → Node → Type 0
Encloses outer inner = (outer.prefix_len < inner.prefix_len)
    × (place outer / 2 ^ (128 - outer.prefix_len) ≡ place inner / 2 ^ (128 - outer.prefix_len))

-- no node from index `low` up to `high` encloses this one
abbrev pub IsNearest : List Node → ℕ → ℕ → Node → Type 0
IsNearest nodes low high inner = (k : ℕ) → low ≤ k → k < high → ¬ Encloses (node_at nodes k) inner

-- the link of a node: one more than the index of the last node before it that encloses it; 0 if none does
pub record IsLink (nodes : List Node) (k above : ℕ) : Type 0 where
  pub before : above ≤ k
  pub encloses : 0 < above → Encloses (node_at nodes (above - 1)) (node_at nodes k)
  pub nearest : IsNearest nodes above k (node_at nodes k)

-- the first n nodes have their links
abbrev pub AreLinked : List Node → ℕ → Type 0
AreLinked nodes n = (k : ℕ) → k < n → IsLink nodes k (node_at nodes k).above

-- ---- the index

-- node i is that of block i, and there are no others
pub record IsFilled (blocks : List IpCidr) (nodes : List Node) : Type 0 where
  pub len : length nodes ≡ length blocks
  pub each : (i : ℕ) → i < length blocks → IsBlock (block_at blocks i) × (node_at nodes i ≡ node_of (block_at blocks i) i)

-- the nodes are the index of these blocks: the node of each block once, in their order and with their links
pub record IsIndex (blocks : List IpCidr) (nodes : List Node) : Type 0 where
  pub count : length blocks < 2 ^ 32
  pub made : List Node
  pub filled : IsFilled blocks made
  pub moved : IsPermutation (map unlinked made) (map unlinked nodes)
  pub sorted : IsNonDecreasingBy rank nodes
  pub linked : AreLinked nodes (length nodes)
