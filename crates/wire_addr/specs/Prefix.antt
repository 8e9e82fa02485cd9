-- The bits of addresses, and prefixes: the first bits (RFC 4632, section 3.1; RFC 4291, section 2.3).
-- Pinned by: `calls/prefix`, `wire/ipv4_address`, `calls/block`, `calls/worked_addresses`, `ClassWorked`
-- Pinned by: `calls/netmask`, `wire/ipv6_address`
use Rattle.std.specs.Prelude.{ℕ, ◌≡◌, ◌<◌, ◌≤◌, ◌+◌, ◌-◌, ◌*◌, ◌/◌, ◌%◌, ◌^◌, List, [], ◌∷◌, length, slice_index}
use Rattle.std.specs.Int.{bit_at}

-- bit k of a list of bytes, counted from the highest bit of the first byte; past the last byte all bits are 0
abbrev pub bit_of : List ℕ → ℕ → ℕ
bit_of bytes k = bit_at (slice_index bytes (k / 8)) (7 - k % 8)

-- the bytes as one big-endian number
abbrev pub number_of : List ℕ → ℕ
number_of [] = 0
number_of (byte ∷ bytes) = byte * 2 ^ (8 * length bytes) + number_of bytes

-- the first n bits of two addresses are the same
abbrev pub AgreeFirst : ℕ → List ℕ → List ℕ → Type 0
AgreeFirst n xs ys = (k : ℕ) → k < n → bit_of xs k ≡ bit_of ys k

-- the bytes are the netmask of a prefix of n bits: n ones, then zeros
pub record IsNetmask (n : ℕ) (bytes : List ℕ) : Type 0 where
  pub ones : (k : ℕ) → k < n → bit_of bytes k ≡ 1
  pub zeros : (k : ℕ) → n ≤ k → bit_of bytes k ≡ 0

-- the masked bytes are these bytes with zeros after their first n bits
pub record IsMasked (n : ℕ) (bytes masked : List ℕ) : Type 0 where
  pub kept : AgreeFirst n bytes masked
  pub zeros : (k : ℕ) → n ≤ k → bit_of masked k ≡ 0
