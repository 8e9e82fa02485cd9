-- The checksum of an ICMP message, filled in or updated.
use Rattle.std.proofs.Common.{ℕ, ◌≡◌, ◌≤◌, ◌<◌, ◌+◌, ◌-◌, ◌*◌, ◌%◌, ◌⊎◌, inl, inr, List, length, sum, refl, subst, ap, ◌∙◌, arith}
use Rattle.std.proofs.lemmas.Bool.Decides.{nat_tests}
use Rattle.net_base.specs.Field.{field, with_field}
use Rattle.net_base.proofs.Spelled.{AreBytes}
use Rattle.net_base.proofs.Written.{AreBytes-with_field, field_with_field_same, length_with_field}
use Rattle.wire_checksum.proofs.Parts.{sum-words-with_field}
use Rattle.wire_checksum.proofs.PseudoSums.{pseudo_header_total, sum-with_pseudo_header}
use Rattle.wire_checksum.proofs.Residues.{residue-bound, residue-complement, residue-quotient, residue-same, residue-small}
use Rattle.wire_checksum.proofs.Updated.{full, updated-small}
use Rattle.wire_checksum.specs.WordSum.{residue, updated, words}
use Rattle.wire_addr.specs.IpAddress.{address_bytes}
use Rattle.wire_addr.specs.declared.ip_address.IpAddress.{IpAddress}
use Rattle.wire_addr.specs.declared.ip_address.IpAddress.TheVariants as address
use Rattle.wire_addr.specs.declared.ip_protocol.IpProtocol.TheVariants as protocol
use Rattle.wire_icmp.specs.Icmp.{Verifies, covered, not_zero, with_checksum, with_updated_checksum}

-- the bytes of both addresses are whole words
pub record AreWhole (src dst : IpAddress) : Type 0 where
  pub src_bytes : length (address_bytes src) % 2 ≡ 0
  pub dst_bytes : length (address_bytes dst) % 2 ≡ 0

-- ---- the total that a checksum covers

abbrev pub total : IpAddress → IpAddress → List ℕ → ℕ
total src dst bytes = sum (words (covered src dst bytes))

-- that of the pseudo-header of a message of n bytes: nothing over IPv4
abbrev pub beside : IpAddress → IpAddress → ℕ → ℕ
beside (address.Ipv4 src) dst n = 0
beside (address.Ipv6 src) dst n = pseudo_header_total (address.Ipv6 src) dst protocol.Icmpv6 n

pub total-parts : (src dst : IpAddress) (bytes : List ℕ) → AreWhole src dst → total src dst bytes ≡ beside src dst (length bytes) + sum (words bytes)
total-parts (address.Ipv4 src) dst bytes whole = omega arith
total-parts (address.Ipv6 src) dst bytes whole = sum-with_pseudo_header (address.Ipv6 src) dst protocol.Icmpv6 bytes whole.src_bytes whole.dst_bytes

-- a word that is written replaces the old one in the total
total-with_word : (src dst : IpAddress) (bytes : List ℕ) (i x : ℕ) → AreBytes bytes → AreWhole src dst → x < 65536 → 2 * i + 2 ≤ length bytes
    → total src dst (with_field bytes (16 * i) 16 x) + field bytes (16 * i) 16 ≡ total src dst bytes + x
total-with_word src dst bytes i x are whole fits room =
    let after = with_field bytes (16 * i) 16 x in
    omega (
      arith,
      total-parts src dst after whole,
      total-parts src dst bytes whole,
      ap (beside src dst) (length_with_field bytes (16 * i) 16 x (omega arith) (omega (arith, room))),
      sum-words-with_field bytes i x are room fits,
    )

-- ---- a checksum that is filled in

-- it is correct
pub filled : (src dst : IpAddress) (bytes : List ℕ) → AreBytes bytes → AreWhole src dst → 4 ≤ length bytes → Verifies src dst (with_checksum src dst bytes)
filled src dst bytes are whole room =
    let zeroed = with_field bytes 16 16 0 in
    let x = 65535 - residue (total src dst zeroed) in
    let none = field_with_field_same bytes 16 16 0 are (omega arith) (omega (arith, room)) in
    let long = length_with_field bytes 16 16 0 (omega arith) (omega (arith, room)) in
    let more = total-with_word src dst zeroed 1 x (AreBytes-with_field bytes 16 16 0 are (omega arith) (omega (arith, room))) whole (omega arith) (omega (arith, long, room)) in
    let is : total src dst (with_field zeroed 16 16 x) ≡ total src dst zeroed + x = omega (arith, more, none) in
    ap residue is ∙ residue-complement (total src dst zeroed)

-- ---- a checksum that is updated

not_zero-cases : (u : ℕ) → ((u ≡ 0) × (not_zero u ≡ 65535)) ⊎ ((1 ≤ u) × (not_zero u ≡ u))
not_zero-cases u = grind (arith, nat_tests)

-- the new total has the sum 0xffff. It is that of the other words, rest, and of the checksum, which was c and is u by the update, or 0xffff for 0.
residue-updated : (before rest c old new u e x : ℕ) → c ≤ 65535 → rest + c + old ≡ before + new → residue before ≡ 65535
    → u ≡ updated c (residue old) (residue new) → x ≡ u + 65535 * e → 1 ≤ x → residue (rest + x) ≡ 65535
residue-updated before rest c old new u e x fits change valid is more some =
    let f = full before valid in
    let t = (65535 - c) + (65535 - residue old) + residue new in
    let q = residue-quotient t in
    let o = residue-quotient old in
    let n = residue-quotient new in
    residue-same (rest + x) 65535 (1 + o.0) (f.0 + q.0 + n.0 + e) (omega (arith, f.1, q.1, o.1, n.1, change, is, more, residue-bound t, residue-bound old)) (λ z. absurd (omega (arith, z, some))) (λ z. absurd (omega arith))
    ∙ residue-small 65535 (omega arith)

-- a correct checksum stays correct if it is updated with the change of what it covers
pub valid-updated : (src dst src' dst' : IpAddress) (bytes changed : List ℕ) (old new : ℕ) → AreBytes changed → AreWhole src' dst' → 4 ≤ length changed
    → total src' dst' changed + old ≡ total src dst bytes + new → Verifies src dst bytes → Verifies src' dst' (with_updated_checksum changed (residue old) (residue new))
valid-updated src dst src' dst' bytes changed old new are whole room change valid =
    let c = field changed 16 16 in
    let u = updated c (residue old) (residue new) in
    let x = not_zero u in
    let zeroed = total-with_word src' dst' changed 1 0 are whole (omega arith) (omega (arith, room)) in
    let rest = total src' dst' (with_field changed 16 16 0) in
    let at : x < 65536 → total src' dst' (with_field changed 16 16 x) ≡ rest + x = λ fits. omega (arith, zeroed, total-with_word src' dst' changed 1 x are whole fits (omega (arith, room))) in
    let sums : rest + c + old ≡ total src dst bytes + new = omega (arith, zeroed, change) in
    elim (not_zero-cases u) [
      | inl (none, is) ↦ ap residue (at (omega (arith, is))) ∙ residue-updated (total src dst bytes) rest c old new u 1 x (omega arith) sums valid refl (omega (arith, none, is)) (omega (arith, is))
      | inr (some, is) ↦ ap residue (at (omega (arith, is))) ∙ residue-updated (total src dst bytes) rest c old new u 0 x (omega arith) sums valid refl (omega (arith, is)) (omega (arith, some, is))
    ]

-- the same for a word of 16 bits after the checksum
pub valid_word : (src dst : IpAddress) (bytes : List ℕ) (i x : ℕ) → AreBytes bytes → AreWhole src dst → x < 65536 → 2 ≤ i → 2 * i + 2 ≤ length bytes
    → Verifies src dst bytes → Verifies src dst (with_updated_checksum (with_field bytes (16 * i) 16 x) (field bytes (16 * i) 16) x)
valid_word src dst bytes i x are whole fits following room valid =
    let changed = with_field bytes (16 * i) 16 x in
    let old = field bytes (16 * i) 16 in
    let long = length_with_field bytes (16 * i) 16 x (omega arith) (omega (arith, room)) in
    subst (λ (u : ℕ). Verifies src dst (with_field changed 16 16 (not_zero u))) (updated-small (field changed 16 16) old x (omega arith) (omega (arith, fits)))
    (valid-updated src dst src dst bytes changed old x (AreBytes-with_field bytes (16 * i) 16 x are (omega arith) (omega (arith, room))) whole (omega (arith, long, room))
    (total-with_word src dst bytes i x are whole fits room) valid)
