-- The fields of a header as numbers: what the laws over getters, setters and updates need.
use Rattle.std.proofs.Common.{ℕ, ◌≡◌, ◌≤◌, ◌+◌, ◌*◌, ◌-◌, List, length, slice_range, take, refl, ap, ◌∙◌, arith}
use Rattle.byteorder.specs.Endian.{big_bytes, big_number}
use Rattle.wire_addr.specs.Prefix.{number_of}
use Rattle.net_base.specs.Field.{field, with_field, with_range}
use Rattle.net_base.proofs.Cells.{cells-all}
use Rattle.net_base.proofs.Ranges.{number-range, range_field, range-number}
use Rattle.net_base.proofs.Spelled.{AreBytes}
use Rattle.wire_checksum.specs.WordSum.{sum_of_bytes}
use Rattle.wire_ipv4.specs.Ipv4.{header_len, with_checksum, with_updated_checksum}
use Rattle.wire_ipv4.specs.Ipv4Fields.{after_fill, with_sums}
use Rattle.wire_ipv4.proofs.Ipv4Changed.{sets-checksum}

-- the number of an address is the big-endian number of its bytes
address-number : (a : List ℕ) → length a ≡ 4 → number_of a ≡ big_number 4 a
address-number a four = let e = cells-all 4 a four in rw e refl

-- the number of an address in a header is that of its field
pub address_read : (bytes a : List ℕ) (first n : ℕ) → AreBytes bytes → length a ≡ 4 → a ≡ slice_range bytes first (first + 4) → n ≡ number_of a
    → n ≡ 1 * field bytes (8 * first) 32
address_read bytes a first n are four is value =
    let one : field bytes (8 * first) 32 ≡ 1 * field bytes (8 * first) 32 = omega arith in
    value ∙ address-number a four ∙ ap (big_number 4) is ∙ range-number bytes first 4 are ∙ one

-- an address that is written with an updated checksum
pub address_updated : (bytes a : List ℕ) (first : ℕ) → AreBytes bytes → AreBytes a → length a ≡ 4 → first + 4 ≤ length bytes
    → with_updated_checksum (with_range bytes first (first + 4) a) (sum_of_bytes (slice_range bytes first (first + 4))) (sum_of_bytes a)
    ≡ with_sums (sum_of_bytes (big_bytes 4 (field bytes (8 * first) 32))) (sum_of_bytes a) (with_field bytes (8 * first) 32 (big_number 4 a))
address_updated bytes a first are octets four room =
    let written = range_field bytes a first 4 octets four in
    let old = number-range bytes first 4 are room in
    rw (written, old) refl

-- a checksum that is filled in is written once
pub filled : (bytes : List ℕ) → AreBytes bytes → 12 ≤ length bytes → with_checksum bytes ≡ after_fill bytes
filled bytes are least = grind arith

-- it leaves the lengths
pub shape-filled : (bytes : List ℕ) → 12 ≤ length bytes → (length (with_checksum bytes) ≡ length bytes) × (header_len (with_checksum bytes) ≡ header_len bytes)
shape-filled bytes least =
    let first = sets-checksum bytes 0 least in
    let second = sets-checksum (with_field bytes 80 16 0) (65535 - sum_of_bytes (take (header_len bytes) (with_field bytes 80 16 0))) (omega (arith, first.long, least)) in
    (second.long ∙ first.long, second.header ∙ first.header)
