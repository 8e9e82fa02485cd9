-- The sum of a segment: with its checksum filled in or updated, and with one word changed.
use Rattle.std.proofs.Common.{ℕ, ◌≡◌, ◌≢◌, ◌≤◌, ◌<◌, ◌+◌, ◌-◌, ◌*◌, ◌%◌, List, ◌++◌, length, slice_range, sum, take, drop, refl, sym, subst, ap, ◌∙◌, arith}
use Rattle.byteorder.specs.Endian.{big_bytes}
use Rattle.wire_addr.specs.declared.ip_address.IpAddress.{IpAddress}
use Rattle.net_base.proofs.Cells.{cells-drop, word_high, word_low}
use Rattle.net_base.proofs.Spelled.{AreBytes}
use Rattle.net_base.proofs.Written.{AreBytes-with_field, length_with_field}
use Rattle.net_base.specs.Field.{field, with_field}
use Rattle.wire_checksum.proofs.Parts.{sum-words-with_field, sum-words-with_range, sum-words-word}
use Rattle.wire_checksum.proofs.PseudoSums.{pseudo_header_total, sum-with_pseudo_header}
use Rattle.wire_checksum.proofs.Residues.{residue-complement}
use Rattle.wire_checksum.proofs.Updated.{full, stays_valid, updated-small}
use Rattle.wire_checksum.specs.PseudoHeader.{with_pseudo_header}
use Rattle.wire_checksum.specs.WordSum.{residue, sum_of_bytes, updated, words}
use Rattle.wire_addr.specs.IpAddress.{address_bytes}
use Rattle.wire_addr.specs.declared.ip_protocol.IpProtocol.TheVariants as protocol
use Rattle.wire_tcp.specs.Tcp.{Verifies, segment_sum, with_checksum, with_updated_checksum}
use Rattle.std.proofs.lemmas.Grind.{common_steps}
use Rattle.std.proofs.lemmas.Bool.Decides.{nat_tests}

-- the sum of the pseudo-header of a segment of n bytes
abbrev pseudo : IpAddress → IpAddress → ℕ → ℕ
pseudo src dst n = pseudo_header_total src dst protocol.Tcp n

-- the total of a segment is that of its pseudo-header and its own
total : (src dst : IpAddress) (bytes : List ℕ) (n : ℕ) → length (address_bytes src) % 2 ≡ 0 → length (address_bytes dst) % 2 ≡ 0 → length bytes ≡ n
    → sum (words (with_pseudo_header src dst protocol.Tcp bytes)) ≡ pseudo src dst n + sum (words bytes)
total src dst bytes n s d long =
    sum-with_pseudo_header src dst protocol.Tcp bytes s d ∙ ap (λ (m : ℕ). pseudo src dst m + sum (words bytes)) long

-- ---- the checksum field

-- the checksum field is a word
pub field-word : (bytes : List ℕ) (x : ℕ) → with_field bytes 128 16 x ≡ take 16 bytes ++ big_bytes 2 x ++ drop 18 bytes
field-word bytes x = rw (word_high, word_low) refl

-- 0 in it adds nothing
zeroed : (bytes : List ℕ) → 18 ≤ length bytes → sum (words (slice_range (with_field bytes 128 16 0) 16 18)) ≡ 0
unfolding words
zeroed bytes room = rw (cells-drop 18 bytes room) (omega arith)

-- a segment whose checksum was filled in is valid
pub verifies : (src dst : IpAddress) (bytes : List ℕ) → length (address_bytes src) % 2 ≡ 0 → length (address_bytes dst) % 2 ≡ 0 → 18 ≤ length bytes → Verifies src dst (with_checksum src dst bytes)
verifies src dst bytes s d room =
    let zero = with_field bytes 128 16 0 in
    let n = length bytes in
    let x = 65535 - segment_sum src dst zero in
    let long : length zero ≡ n = length_with_field bytes 128 16 0 (omega arith) (omega (arith, room)) in
    let after : length (with_field zero 128 16 x) ≡ n = length_with_field zero 128 16 x (omega arith) (omega (arith, long, room)) ∙ long in
    let more = sum-words-with_range zero (big_bytes 2 x) 16 18 refl refl refl (omega (arith, long, room)) in
    let word : sum (words (big_bytes 2 x)) ≡ x = sum-words-word x (omega arith) in
    let is : sum (words (with_pseudo_header src dst protocol.Tcp (with_field zero 128 16 x))) ≡ sum (words (with_pseudo_header src dst protocol.Tcp zero)) + x =
    omega (arith, total src dst zero n s d long, total src dst (with_field zero 128 16 x) n s d after, more, word, zeroed bytes room, ap (λ (l : List ℕ). sum (words l)) (field-word zero x)) in
    ap residue is ∙ residue-complement (sum (words (with_pseudo_header src dst protocol.Tcp zero)))

-- ---- an updated checksum

-- a valid checksum stays valid if it is updated with the change of what it covers
pub valid-updated : (src dst src' dst' : IpAddress) (bytes changed : List ℕ) (old new : ℕ) → AreBytes changed
    → length (address_bytes src) % 2 ≡ 0 → length (address_bytes dst) % 2 ≡ 0 → length (address_bytes src') % 2 ≡ 0 → length (address_bytes dst') % 2 ≡ 0
    → 18 ≤ length changed → length changed ≡ length bytes
    → pseudo src' dst' (length bytes) + sum (words changed) + old ≡ pseudo src dst (length bytes) + sum (words bytes) + new
    → Verifies src dst bytes → Verifies src' dst' (with_updated_checksum changed (residue old) (residue new))
valid-updated src dst src' dst' bytes changed old new are s d s' d' room long change valid =
    let n = length bytes in
    let c = field changed 128 16 in
    let u = updated c (residue old) (residue new) in
    let after = with_field changed 128 16 u in
    let after_long : length after ≡ n = length_with_field changed 128 16 u (omega arith) (omega (arith, room)) ∙ long in
    let written = sum-words-with_field changed 8 u are (omega (arith, room)) (omega arith) in
    let zeroed = sum-words-with_field changed 8 0 are (omega (arith, room)) (omega arith) in
    ap residue (total src' dst' after n s' d' after_long)
    ∙ stays_valid (pseudo src dst n + sum (words bytes)) (pseudo src' dst' n + sum (words changed)) (pseudo src' dst' n + sum (words after))
    c old new (omega arith) change (omega (arith, written)) (omega (arith, zeroed)) (ap residue (sym (total src dst bytes n s d refl)) ∙ valid)

-- the same for one word before the checksum, as a port
pub valid_word : (src dst : IpAddress) (bytes : List ℕ) (i x : ℕ) → AreBytes bytes → x < 65536 → i < 8 → length (address_bytes src) % 2 ≡ 0 → length (address_bytes dst) % 2 ≡ 0 → 18 ≤ length bytes
    → Verifies src dst bytes → Verifies src dst (with_updated_checksum (with_field bytes (16 * i) 16 x) (field bytes (16 * i) 16) x)
valid_word src dst bytes i x are fits front s d room valid =
    let changed = with_field bytes (16 * i) 16 x in
    let old = field bytes (16 * i) 16 in
    let long = length_with_field bytes (16 * i) 16 x (omega arith) (omega (arith, room, front)) in
    subst (λ (u : ℕ). Verifies src dst (with_field changed 128 16 u)) (updated-small (field changed 128 16) old x (omega arith) (omega (arith, fits)))
    (valid-updated src dst src dst bytes changed old x (AreBytes-with_field bytes (16 * i) 16 x are (omega arith) (omega (arith, room, front))) s d s d (omega (arith, long, room)) long
    (omega (arith, sum-words-with_field bytes i x are (omega (arith, room, front)) fits)) valid)

-- the same for one address of the pseudo-header
pub valid-src_addr : (old dst new : IpAddress) (bytes : List ℕ) → AreBytes bytes → length (address_bytes old) % 2 ≡ 0 → length (address_bytes dst) % 2 ≡ 0 → length (address_bytes new) % 2 ≡ 0 → 18 ≤ length bytes
    → Verifies old dst bytes → Verifies new dst (with_updated_checksum bytes (sum_of_bytes (address_bytes old)) (sum_of_bytes (address_bytes new)))
valid-src_addr old dst new bytes are o d n room valid =
    valid-updated old dst new dst bytes bytes (sum (words (address_bytes old))) (sum (words (address_bytes new))) are o d n d room refl (omega arith) valid

pub valid-dst_addr : (src old new : IpAddress) (bytes : List ℕ) → AreBytes bytes → length (address_bytes src) % 2 ≡ 0 → length (address_bytes old) % 2 ≡ 0 → length (address_bytes new) % 2 ≡ 0 → 18 ≤ length bytes
    → Verifies src old bytes → Verifies src new (with_updated_checksum bytes (sum_of_bytes (address_bytes old)) (sum_of_bytes (address_bytes new)))
valid-dst_addr src old new bytes are s o n room valid =
    valid-updated src old src new bytes bytes (sum (words (address_bytes old))) (sum (words (address_bytes new))) are s o s n room refl (omega arith) valid

-- ---- a changed word

-- changing one aligned word of a valid segment makes its checksum wrong, unless old and new word are congruent modulo 65535
pub word_changed : (src dst : IpAddress) (bytes : List ℕ) (i x : ℕ) → length (address_bytes src) % 2 ≡ 0 → length (address_bytes dst) % 2 ≡ 0 → AreBytes bytes
    → 2 * i + 2 ≤ length bytes → x < 65536 → x % 65535 ≢ field bytes (16 * i) 16 % 65535 → Verifies src dst bytes → ¬ Verifies src dst (with_field bytes (16 * i) 16 x)
word_changed src dst bytes i x s d are room fits changed holds = grind (arith, common_steps, nat_tests, full, total, length_with_field, sum-words-with_field)
