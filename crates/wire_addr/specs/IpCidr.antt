-- CIDR blocks of either IP version.
-- Pinned by: `wire/ip_cidr`, `calls/block`, `calls/worked_addresses`, `EndsWorked`, `calls/cidr`, `wire/orders`
use Rattle.std.specs.Prelude.{ℕ, ◌++◌, List, pos}
use Rattle.std.specs.Hash as hash
use Rattle.std.specs.declared.cmp.Ordering.{Ordering}
use Rattle.std.specs.declared.cmp.Ordering.TheVariants.{Less, Greater}
use Rattle.wire_addr.specs.Block.{IsIn as IsInBlock, block_cmp, block_hash}
use Rattle.wire_addr.specs.BlockText.{ReadsIpv4Block, ReadsIpv6Block}
use Rattle.wire_addr.specs.Printed.{block_text, dotted, ipv6_text}
use Rattle.wire_addr.specs.IpAddress.{IsAddress}
use Rattle.wire_addr.specs.declared.ip_address.IpAddress.{IpAddress}
use Rattle.wire_addr.specs.declared.ip_address.IpAddress.TheVariants as ip
use Rattle.wire_addr.specs.declared.ip_cidr.IpCidr.{IpCidr}
use Rattle.wire_addr.specs.declared.ip_cidr.IpCidr.TheVariants.{Ipv4, Ipv6}

-- the block of an address with this prefix length
abbrev pub block_at : IpAddress → ℕ → IpCidr
block_at (ip.Ipv4 bytes) n = Ipv4 (record { address = bytes; prefix_len = n })
block_at (ip.Ipv6 bytes) n = Ipv6 (record { address = bytes; prefix_len = n })

-- the address from which a block was made
abbrev pub block_address : IpCidr → IpAddress
block_address (Ipv4 block) = ip.Ipv4 block.address
block_address (Ipv6 block) = ip.Ipv6 block.address

-- the prefix length of a block
abbrev pub block_prefix_len : IpCidr → ℕ
block_prefix_len (Ipv4 block) = block.prefix_len
block_prefix_len (Ipv6 block) = block.prefix_len

-- the address is in the block: it has the same version and the same first bits
abbrev pub IsIn : IpCidr → IpAddress → Type 0
IsIn (Ipv4 block) (ip.Ipv4 bytes) = IsInBlock block bytes
IsIn (Ipv4 block) (ip.Ipv6 bytes) = ⊥
IsIn (Ipv6 block) (ip.Ipv4 bytes) = ⊥
IsIn (Ipv6 block) (ip.Ipv6 bytes) = IsInBlock block bytes

-- each address that is in the first block is in the second
abbrev pub IsWithin : IpCidr → IpCidr → Type 0
IsWithin inner outer = (addr : IpAddress) → IsAddress addr → IsIn inner addr → IsIn outer addr

-- the printed text of a CIDR block
abbrev pub cidr_text : IpCidr → List ℕ
cidr_text (Ipv4 block) = block_text dotted block
cidr_text (Ipv6 block) = block_text ipv6_text block

-- the text parses as this block, in the form of its version
abbrev pub ReadsCidr : List ℕ → IpCidr → Type 0
ReadsCidr text (Ipv4 block) = ReadsIpv4Block text block
ReadsCidr text (Ipv6 block) = ReadsIpv6Block text block

-- the order of CIDR blocks: IPv4 before IPv6; blocks of one version by address, then by prefix length
abbrev pub cidr_cmp : IpCidr → IpCidr → Ordering
cidr_cmp (Ipv4 a) (Ipv4 b) = block_cmp a b
cidr_cmp (Ipv4 a) (Ipv6 b) = Less
cidr_cmp (Ipv6 a) (Ipv4 b) = Greater
cidr_cmp (Ipv6 a) (Ipv6 b) = block_cmp a b

-- the hashed values of a block: the index of its variant, and the hashed values of that
abbrev pub cidr_hash : IpCidr → hash.HashWrites
cidr_hash (Ipv4 block) = hash.isize (pos 0) ++ block_hash block
cidr_hash (Ipv6 block) = hash.isize (pos 1) ++ block_hash block
