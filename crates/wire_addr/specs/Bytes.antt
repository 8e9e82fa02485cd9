-- Lists of bytes, and of the groups that an IPv6 address is written in (RFC 4291, section 2.2).
-- Pinned by: `calls/block`, `wire/ipv6_address`, `calls/worked_addresses`
use Rattle.std.specs.Prelude.{ℕ, ◌≡◌, ◌<◌, ◌^◌, ◌/◌, ◌%◌, List, [], ◌∷◌, length, slice_index}
pub use Rattle.wire_addr.specs.Grammar.{groups_of}

-- the list has n elements, and each is a byte: a number of eight bits
abbrev pub IsByteArray : ℕ → List ℕ → Type 0
IsByteArray n bytes = (length bytes ≡ n) × ((k : ℕ) → slice_index bytes k < 2 ^ 8)

-- the bytes of groups of 16 bits, each group with the high byte first (RFC 4291, section 2.2)
abbrev pub address_bytes : List ℕ → List ℕ
address_bytes [] = []
address_bytes (g ∷ groups) = (g / 256) ∷ (g % 256) ∷ address_bytes groups

-- the first twelve bytes of an IPv4-mapped address (RFC 4291, section 2.5.5.2)
abbrev pub mapped_prefix : List ℕ
mapped_prefix = 0 ∷ 0 ∷ 0 ∷ 0 ∷ 0 ∷ 0 ∷ 0 ∷ 0 ∷ 0 ∷ 0 ∷ 0xff ∷ 0xff ∷ []
