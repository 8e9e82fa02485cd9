-- The checksum of a packet, filled in or updated.
use Rattle.std.proofs.Common.{ℕ, ◌≡◌, ◌≢◌, ◌≤◌, ◌<◌, ◌+◌, ◌-◌, ◌*◌, ◌%◌, ◌==◌, if◌then◌else◌, inl, inr, Bool, true, false, IsTrue, List, length, sum, take, refl, sym, subst, ap, ◌∙◌, arith}
use Rattle.std.proofs.lemmas.Bool.Decides.{nat_tests}
use Rattle.std.proofs.lemmas.List.{length-take-le}
use Rattle.net_base.specs.Field.{field, with_field}
use Rattle.net_base.proofs.Spelled.{AreBytes}
use Rattle.net_base.proofs.Written.{AreBytes-with_field, field_with_field_other, field_with_field_same, length_with_field}
use Rattle.wire_checksum.proofs.Parts.{sum-take-with_field}
use Rattle.wire_checksum.proofs.PseudoSums.{pseudo_header_total, sum-with_pseudo_header}
use Rattle.wire_checksum.proofs.Residues.{residue-bound, residue-of_zero, residue-same}
use Rattle.wire_checksum.proofs.Updated.{stays_valid, updated-small}
use Rattle.wire_checksum.specs.PseudoHeader.{with_pseudo_header}
use Rattle.wire_checksum.specs.WordSum.{residue, sum_of_bytes, updated, words}
use Rattle.wire_addr.specs.IpAddress.{address_bytes, version_of}
use Rattle.wire_addr.specs.declared.ip_address.IpAddress.{IpAddress}
use Rattle.wire_addr.specs.declared.ip_protocol.IpProtocol.TheVariants as protocol
use Rattle.wire_udp.proofs.UdpChanged.{reads_checksum, reads-verified}
use Rattle.wire_udp.proofs.UdpReadsBack.{checksum_for-bounds, checksum_for-cases, residue-checksum_for}
use Rattle.wire_udp.specs.Udp.{HasChecksum, HasLengths, Reads, Verifies, checksum_for, packet_len, with_checksum, with_updated_checksum}
use Rattle.wire_udp.specs.declared.udp.repr.UdpRepr.{UdpRepr}

-- ---- the total that a checksum covers

-- that of the pseudo-header of a packet of n bytes
abbrev pseudo : IpAddress → IpAddress → ℕ → ℕ
pseudo src dst n = pseudo_header_total src dst protocol.Udp n

-- that of the packet that the bytes begin with, and its pseudo-header
abbrev total : IpAddress → IpAddress → List ℕ → ℕ
total src dst bytes = sum (words (with_pseudo_header src dst protocol.Udp (take (packet_len bytes) bytes)))

total-parts : (src dst : IpAddress) (bytes : List ℕ) (n : ℕ) → length (address_bytes src) % 2 ≡ 0 → length (address_bytes dst) % 2 ≡ 0 → n ≤ length bytes
    → sum (words (with_pseudo_header src dst protocol.Udp (take n bytes))) ≡ pseudo src dst n + sum (words (take n bytes))
total-parts src dst bytes n s d room =
    sum-with_pseudo_header src dst protocol.Udp (take n bytes) s d ∙ ap (λ (m : ℕ). pseudo src dst m + sum (words (take n bytes))) (length-take-le n bytes room)

-- writing the checksum leaves the lengths
lengths-with_checksum : (bytes : List ℕ) (x : ℕ) → AreBytes bytes → 8 ≤ length bytes → (length (with_field bytes 48 16 x) ≡ length bytes) × (packet_len (with_field bytes 48 16 x) ≡ packet_len bytes)
lengths-with_checksum bytes x are room = (
  length_with_field bytes 48 16 x (omega arith) (omega (arith, room)),
  field_with_field_other bytes 48 16 x 32 16 are (omega arith) (omega arith) (omega (arith, room)) (inl (omega arith)),
)

-- the new checksum replaces the old one in the total
total-with_checksum : (src dst : IpAddress) (bytes : List ℕ) (x : ℕ) → AreBytes bytes → length (address_bytes src) % 2 ≡ 0 → length (address_bytes dst) % 2 ≡ 0 → x < 65536 → HasLengths bytes
    → total src dst (with_field bytes 48 16 x) + field bytes 48 16 ≡ total src dst bytes + x
total-with_checksum src dst bytes x are s d fits h =
    let n = packet_len bytes in
    let after = with_field bytes 48 16 x in
    let (long, len) = lengths-with_checksum bytes x are h.least in
    omega (
      arith,
      ap (λ (m : ℕ). sum (words (with_pseudo_header src dst protocol.Udp (take m after)))) len,
      total-parts src dst after n s d (omega (arith, long, h.whole)),
      total-parts src dst bytes n s d h.whole,
      sum-take-with_field bytes n 3 x are (omega (arith, h.header)) h.whole fits,
    )

-- ---- a checksum that is updated

-- the written checksum is the updated one, or 0xffff for 0, and covers as much
written-same : (before after u : ℕ) → u ≤ 65535 → after + u ≡ before + checksum_for (65535 - u) → residue before ≡ 65535 → residue after ≡ 65535
written-same before after u fits e full = elim (checksum_for-cases (65535 - u) (omega arith)) [
  | inl (all, is) ↦ residue-same after before 0 1 (omega (arith, e, is, all, fits)) (λ z. absurd (omega (arith, z, e, is, all, fits))) (λ z. absurd (omega (arith, z, full, residue-of_zero before z))) ∙ full
  | inr (below, is) ↦ ap residue (omega (arith, e, is, below, fits)) ∙ full
]

-- a valid checksum stays valid if it is updated with the change of what it covers
valid-updated : (src dst src' dst' : IpAddress) (bytes changed : List ℕ) (old new : ℕ) → AreBytes changed → length (address_bytes src') % 2 ≡ 0 → length (address_bytes dst') % 2 ≡ 0
    → HasLengths changed → field changed 48 16 ≡ field bytes 48 16 → version_of src ≡ version_of src' → total src' dst' changed + old ≡ total src dst bytes + new
    → HasChecksum src dst bytes → HasChecksum src' dst' (with_updated_checksum changed (residue old) (residue new))
valid-updated src dst src' dst' bytes changed old new are s' d' h checksum family change (inl (none, ipv4)) =
    let zero : (field changed 48 16 == 0) ≡ true = let is : field changed 48 16 ≡ 0 = checksum ∙ none in grind (arith, nat_tests) in
    rw zero (inl (checksum ∙ none, sym family ∙ ipv4))
valid-updated src dst src' dst' bytes changed old new are s' d' h checksum family change (inr (some, valid)) =
    let c = field changed 48 16 in
    let not_zero : (c == 0) ≡ false = let is : c ≢ 0 = λ z. some (sym checksum ∙ z) in grind (arith, nat_tests) in
    let u = updated c (residue old) (residue new) in
    let x = checksum_for (65535 - u) in
    let bounds = checksum_for-bounds (65535 - u) (omega arith) in
    let zeroed = total-with_checksum src' dst' changed 0 are s' d' (omega arith) h in
    let at_x = total-with_checksum src' dst' changed x are s' d' (omega (arith, bounds.1)) h in
    let covered : c < total src' dst' changed = omega (arith, zeroed, total-parts src' dst' changed (packet_len changed) s' d' h.whole, sum-take-with_field changed (packet_len changed) 3 0 are (omega (arith, h.header)) h.whole (omega arith)) in
    let with_u = stays_valid (total src dst bytes) (total src' dst' changed) (total src' dst' changed + u - c) c old new (omega arith) change (omega (arith, covered)) covered valid in
    let full : residue (total src' dst' (with_field changed 48 16 x)) ≡ 65535 = written-same (total src' dst' changed + u - c) (total src' dst' (with_field changed 48 16 x)) u (omega arith) (omega (arith, at_x, covered)) with_u in
    let there = field_with_field_same changed 48 16 x are (omega arith) (omega (arith, h.least)) in
    rw not_zero (inr ((λ z. omega (arith, z, there, bounds)), full))

-- the same for one of the two ports
pub valid-port : (src dst : IpAddress) (bytes : List ℕ) (i x : ℕ) → AreBytes bytes → x < 65536 → i < 2 → length (address_bytes src) % 2 ≡ 0 → length (address_bytes dst) % 2 ≡ 0 → HasLengths bytes
    → HasChecksum src dst bytes → HasChecksum src dst (with_updated_checksum (with_field bytes (16 * i) 16 x) (field bytes (16 * i) 16) x)
valid-port src dst bytes i x are fits front s d h valid =
    let n = packet_len bytes in
    let changed = with_field bytes (16 * i) 16 x in
    let old = field bytes (16 * i) 16 in
    let long = length_with_field bytes (16 * i) 16 x (omega arith) (omega (arith, front, h.least)) in
    let other : (at : ℕ) → 32 ≤ at → field changed at 16 ≡ field bytes at 16 = λ at following.
    field_with_field_other bytes (16 * i) 16 x at 16 are (omega arith) (omega arith) (omega (arith, front, h.least)) (inr (omega (arith, front, following))) in
    let len = other 32 (omega arith) in
    let change : total src dst changed + old ≡ total src dst bytes + x =
    omega (
      arith,
      ap (λ (m : ℕ). sum (words (with_pseudo_header src dst protocol.Udp (take m changed)))) len,
      total-parts src dst changed n s d (omega (arith, long, h.whole)),
      total-parts src dst bytes n s d h.whole,
      sum-take-with_field bytes n i x are (omega (arith, front, h.header)) h.whole fits,
    ) in
    subst (λ (u : ℕ). HasChecksum src dst (if field changed 48 16 == 0 then changed else with_field changed 48 16 (checksum_for (65535 - u)))) (updated-small (field changed 48 16) old x (omega arith) (omega (arith, fits)))
    (valid-updated src dst src dst bytes changed old x (AreBytes-with_field bytes (16 * i) 16 x are (omega arith) (omega (arith, front, h.least))) s d
    (record { least = omega (arith, long, h.least); header = omega (arith, len, h.header); whole = omega (arith, long, len, h.whole) }) (other 48 (omega arith)) refl change valid)

-- the same for one or both addresses of the pseudo-header
pub valid-addresses : (src dst src' dst' : IpAddress) (bytes old new : List ℕ) → AreBytes bytes
    → length (address_bytes src) % 2 ≡ 0 → length (address_bytes dst) % 2 ≡ 0 → length (address_bytes src') % 2 ≡ 0 → length (address_bytes dst') % 2 ≡ 0 → version_of src ≡ version_of src' → HasLengths bytes
    → sum (words (address_bytes src')) + sum (words (address_bytes dst')) + sum (words old) ≡ sum (words (address_bytes src)) + sum (words (address_bytes dst)) + sum (words new)
    → HasChecksum src dst bytes → HasChecksum src' dst' (with_updated_checksum bytes (sum_of_bytes old) (sum_of_bytes new))
valid-addresses src dst src' dst' bytes old new are s d s' d' family h change valid =
    valid-updated src dst src' dst' bytes bytes (sum (words old)) (sum (words new)) are s' d' h refl family
    (omega (arith, change, total-parts src' dst' bytes (packet_len bytes) s' d' h.whole, total-parts src dst bytes (packet_len bytes) s d h.whole)) valid

-- the parsed value does not depend on the checksum that is written
pub reads-updated : (bytes new : List ℕ) (a b : ℕ) (src dst src' dst' : IpAddress) (verified checked : Bool) (v : UdpRepr) (payload : List ℕ) → new ≡ with_updated_checksum bytes a b
    → Reads bytes src dst verified v payload → (IsTrue checked → HasChecksum src' dst' new) → Reads new src' dst' checked v payload
reads-updated bytes new a b src dst src' dst' verified checked v payload is r valid =
    subst (λ (l : List ℕ). Reads l src' dst' checked v payload) (sym is) (by_case (field bytes 48 16 == 0) (λ on. subst (HasChecksum src' dst') is (valid on)))
  where
    x : ℕ
    x = checksum_for (65535 - updated (field bytes 48 16) a b)

    by_case : (none : Bool) → (IsTrue checked → HasChecksum src' dst' (if none then bytes else with_field bytes 48 16 x)) → Reads (if none then bytes else with_field bytes 48 16 x) src' dst' checked v payload
    by_case true = reads-verified bytes src dst src' dst' verified checked v payload r
    by_case false = reads_checksum bytes x src dst src' dst' verified checked v payload r

-- ---- a checksum that is filled in

-- a checksum that is filled in is valid
pub filled : (src dst : IpAddress) (bytes : List ℕ) → AreBytes bytes → length (address_bytes src) % 2 ≡ 0 → length (address_bytes dst) % 2 ≡ 0 → HasLengths bytes
    → (field (with_checksum src dst bytes) 48 16 ≢ 0) × Verifies src dst (with_checksum src dst bytes)
filled src dst bytes are s d h =
    let zeroed = with_field bytes 48 16 0 in
    let zero_are = AreBytes-with_field bytes 48 16 0 are (omega arith) (omega (arith, h.least)) in
    let (long, len) = lengths-with_checksum bytes 0 are h.least in
    let none = field_with_field_same bytes 48 16 0 are (omega arith) (omega (arith, h.least)) in
    let covered = sum (words (with_pseudo_header src dst protocol.Udp (take (packet_len bytes) zeroed))) in
    let x = checksum_for (residue covered) in
    let bounds = checksum_for-bounds (residue covered) (residue-bound covered) in
    let more = total-with_checksum src dst zeroed x zero_are s d (omega (arith, bounds.1)) (record { least = omega (arith, long, h.least); header = omega (arith, len, h.header); whole = omega (arith, long, len, h.whole) }) in
    let is : total src dst (with_field zeroed 48 16 x) ≡ covered + x = omega (arith, more, none, ap (λ (m : ℕ). sum (words (with_pseudo_header src dst protocol.Udp (take m zeroed)))) len) in
    let there = field_with_field_same zeroed 48 16 x zero_are (omega arith) (omega (arith, long, h.least)) in
    ((λ z. omega (arith, z, there, bounds)), ap residue is ∙ residue-checksum_for covered)

-- a packet parses as before after its checksum is filled in
pub reads-filled : (src dst : IpAddress) (bytes : List ℕ) (verified checked : Bool) (v : UdpRepr) (payload : List ℕ) → AreBytes bytes → length (address_bytes src) % 2 ≡ 0 → length (address_bytes dst) % 2 ≡ 0
    → Reads bytes src dst verified v payload → Reads (with_checksum src dst bytes) src dst checked v payload
reads-filled src dst bytes verified checked v payload are s d r =
    reads_checksum (with_field bytes 48 16 0) _ src dst src dst false checked v payload (reads_checksum bytes 0 src dst src dst verified false v payload r (λ no. cc))
    (λ on. inr (filled src dst bytes are s d r.lengths))
