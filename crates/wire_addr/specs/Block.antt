-- A CIDR block: all addresses with the same first bits as one address (RFC 4632, section 3.1). An address is the list
-- of its four or sixteen bytes.
-- Pinned by: `calls/block`, `calls/worked_addresses`, `ClassWorked`, `wire/orders`
use Rattle.std.specs.Prelude.{ℕ, ◌≤◌, ◌++◌, List}
use Rattle.std.specs.Cmp.Lexicographic.{slice_cmp}
use Rattle.std.specs.Hash as hash
use Rattle.std.specs.Ordering.{nat_cmp, ordering_then}
use Rattle.std.specs.declared.cmp.Ordering.{Ordering}
use Rattle.wire_addr.specs.Bytes.{IsByteArray}
use Rattle.wire_addr.specs.Prefix.{AgreeFirst, number_of}

-- a CIDR block: the address from which it was made, and the prefix length
pub record Block : Type 0 where
  pub address : List ℕ
  pub prefix_len : ℕ

-- the address is in the CIDR block: their first bits are the same
abbrev pub IsIn : Block → List ℕ → Type 0
IsIn block address = AgreeFirst block.prefix_len block.address address

-- each address of n bytes that is in the first block is in the second
abbrev pub IsWithin : ℕ → Block → Block → Type 0
IsWithin n inner outer = (address : List ℕ) → IsByteArray n address → IsIn inner address → IsIn outer address

-- the address is the lowest of those of n bytes that are in the block
pub record IsLeast (n : ℕ) (block : Block) (address : List ℕ) : Type 0 where
  pub member : IsIn block address
  pub least : (other : List ℕ) → IsByteArray n other → IsIn block other → number_of address ≤ number_of other

-- the address is the highest of those of n bytes that are in the block
pub record IsGreatest (n : ℕ) (block : Block) (address : List ℕ) : Type 0 where
  pub member : IsIn block address
  pub greatest : (other : List ℕ) → IsByteArray n other → IsIn block other → number_of other ≤ number_of address

-- the order of CIDR blocks: by address, byte by byte, then by prefix length
abbrev pub block_cmp : Block → Block → Ordering
block_cmp a b = ordering_then (slice_cmp nat_cmp a.address b.address) (nat_cmp a.prefix_len b.prefix_len)

-- the hashed values of a CIDR block: the bytes of its address and its prefix length
abbrev pub block_hash : Block → hash.HashWrites
block_hash block = hash.slice hash.u8 block.address ++ hash.u8 block.prefix_len
