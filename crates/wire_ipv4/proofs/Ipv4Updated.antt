-- The checksum of a header, filled in or updated.
use Rattle.std.proofs.Common.{ℕ, suc, inl, [], ◌≡◌, ◌≤◌, ◌<◌, ◌+◌, ◌-◌, ◌*◌, ◌%◌, Bool, false, List, ◌∷◌, ◌++◌, length, slice_index, slice_range, sum, drop, take, refl, subst, ap, ◌∙◌, arith}
use Rattle.net_base.specs.Field.{field, with_field, with_part, with_range, word_at}
use Rattle.net_base.proofs.ByteLists.{AreBytes-append, AreBytes-drop, AreBytes-take}
use Rattle.net_base.proofs.Spelled.{AreBytes}
use Rattle.net_base.proofs.Written.{AreBytes-with_field, field_with_field_same, length_with_field}
use Rattle.wire_checksum.proofs.Parts.{sum-take-positive, sum-take-with_byte, sum-take-with_field, sum-take-with_range}
use Rattle.wire_checksum.proofs.Residues.{residue-complement}
use Rattle.wire_checksum.proofs.WordLists.{sum-words-cons}
use Rattle.wire_checksum.proofs.Updated.{updated-small}
use Rattle.wire_checksum.proofs.UpdatedBytes.{updated-front}
use Rattle.wire_checksum.specs.WordSum.{residue, sum_of_bytes, words}
use Rattle.wire_ipv4.specs.Ipv4.{HasChecksum, Reads, header_len, with_checksum, with_updated_checksum}
use Rattle.wire_ipv4.proofs.Ipv4Changed.{Sets, reads_checksum, sets-checksum, sets-dst_addr, sets-hop_limit, sets-no_value, sets-src_addr}
use Rattle.wire_ipv4.specs.declared.ipv4.repr.Ipv4Repr.{Ipv4Repr}

-- a valid checksum of a whole header stays valid if it is updated with the change of the sum, which is not 0: the header's length is in it
valid-updated : (bytes changed : List ℕ) (f : Ipv4Repr → Ipv4Repr) (old new : ℕ) → AreBytes changed → 20 ≤ header_len bytes → header_len bytes ≤ length bytes → Sets bytes changed f
    → sum (words (take (header_len bytes) changed)) + old ≡ sum (words (take (header_len bytes) bytes)) + new
    → HasChecksum bytes → HasChecksum (with_updated_checksum changed (residue old) (residue new))
valid-updated bytes changed f old new are header room s change valid =
    let n = header_len bytes in
    let least : 12 ≤ length changed = omega (arith, s.long, header, room) in
    let zeroed = sets-checksum changed 0 least in
    let same : header_len (with_updated_checksum changed (residue old) (residue new)) ≡ n = (sets-checksum changed _ least).header ∙ s.header in
    let positive = sum-take-positive (with_field changed 80 16 0) n (omega (arith, header)) (omega (arith, zeroed.long, s.long, room)) (omega (arith, zeroed.header, s.header, header)) in
    ap (λ (m : ℕ). sum_of_bytes (take m (with_updated_checksum changed (residue old) (residue new)))) same
    ∙ updated-front bytes changed n 5 old new are (omega (arith, header)) (omega (arith, s.long, room)) change positive valid

-- the same with numbers of 16 bits
valid-small : (bytes changed : List ℕ) (f : Ipv4Repr → Ipv4Repr) (old new : ℕ) → AreBytes changed → 20 ≤ header_len bytes → header_len bytes ≤ length bytes → Sets bytes changed f
    → old ≤ 65535 → new ≤ 65535 → sum (words (take (header_len bytes) changed)) + old ≡ sum (words (take (header_len bytes) bytes)) + new
    → HasChecksum bytes → HasChecksum (with_updated_checksum changed old new)
valid-small bytes changed f old new are header room s o n change valid =
    subst (λ (x : ℕ). HasChecksum (with_field changed 80 16 x)) (updated-small (field changed 80 16) old new o n) (valid-updated bytes changed f old new are header room s change valid)

-- ---- updates

-- a valid checksum is valid after the hop limit and the checksum are updated
pub valid-hop_limit : (bytes : List ℕ) (n : ℕ) → AreBytes bytes → n < 256 → 20 ≤ header_len bytes → header_len bytes ≤ length bytes → HasChecksum bytes
    → HasChecksum (with_updated_checksum (with_field bytes 64 8 n) (256 * field bytes 64 8) (256 * n))
valid-hop_limit bytes n are fits header room =
    valid-small bytes (with_field bytes 64 8 n) _ (256 * field bytes 64 8) (256 * n) (AreBytes-with_field bytes 64 8 n are (omega arith) (omega (arith, header, room))) header room
    (sets-hop_limit bytes n (omega (arith, header, room)) fits) (omega arith) (omega (arith, fits)) (sum-take-with_byte bytes (header_len bytes) 4 n are (omega (arith, header)) room fits)

-- a new second byte changes the sum of the first n bytes by 1 for each 1
sum-take-second : (bytes : List ℕ) (n x : ℕ) → 2 ≤ n → n ≤ length bytes → sum (words (take n (with_range bytes 1 2 (x ∷ [])))) + slice_index bytes 1 ≡ sum (words (take n bytes)) + x
sum-take-second (a ∷ b ∷ rest) (suc (suc n)) x whole room = omega (arith, sum-words-cons a b (take n rest), sum-words-cons a x (take n rest))
sum-take-second other n x whole room = absurd (omega arith)

-- the same of the code point and of the congestion notification, which are in the second byte
pub valid-dscp : (bytes : List ℕ) (x : ℕ) → AreBytes bytes → 20 ≤ header_len bytes → header_len bytes ≤ length bytes → HasChecksum bytes
    → HasChecksum (with_updated_checksum (with_field bytes 8 6 x) (4 * field bytes 8 6) (4 * (x % 64)))
valid-dscp bytes x are header room =
    let second = are 1 in
    valid-small bytes (with_field bytes 8 6 x) _ (4 * field bytes 8 6) (4 * (x % 64)) (AreBytes-with_field bytes 8 6 x are (omega arith) (omega (arith, header, room))) header room
    (sets-no_value bytes 8 6 x are (omega arith) (inl (omega arith, omega arith)) (omega (arith, header, room))) (omega arith) (omega arith)
    (omega (arith, second, sum-take-second bytes (header_len bytes) (with_part (word_at bytes 8 6) 2 6 x % 256) (omega (arith, header)) room))

pub valid-ecn : (bytes : List ℕ) (x : ℕ) → AreBytes bytes → 20 ≤ header_len bytes → header_len bytes ≤ length bytes → HasChecksum bytes
    → HasChecksum (with_updated_checksum (with_field bytes 14 2 x) (field bytes 14 2) (x % 4))
valid-ecn bytes x are header room =
    let second = are 1 in
    valid-small bytes (with_field bytes 14 2 x) _ (field bytes 14 2) (x % 4) (AreBytes-with_field bytes 14 2 x are (omega arith) (omega (arith, header, room))) header room
    (sets-no_value bytes 14 2 x are (omega arith) (inl (omega arith, omega arith)) (omega (arith, header, room))) (omega arith) (omega arith)
    (omega (arith, second, sum-take-second bytes (header_len bytes) (with_part (word_at bytes 14 2) 0 2 x % 256) (omega (arith, header)) room))

-- the same of the source address, and of the destination address
AreBytes-with_range : (bytes part : List ℕ) (a e : ℕ) → AreBytes bytes → AreBytes part → AreBytes (with_range bytes a e part)
AreBytes-with_range bytes part a e are part_are =
    AreBytes-append (take a bytes ++ part) (drop e bytes) (AreBytes-append (take a bytes) part (AreBytes-take a bytes are) part_are) (AreBytes-drop e bytes are)

pub valid-src_addr : (bytes a : List ℕ) → AreBytes bytes → AreBytes a → length a ≡ 4 → 20 ≤ header_len bytes → header_len bytes ≤ length bytes → HasChecksum bytes
    → HasChecksum (with_updated_checksum (with_range bytes 12 16 a) (sum_of_bytes (slice_range bytes 12 16)) (sum_of_bytes a))
valid-src_addr bytes a are octets four header room =
    valid-updated bytes (with_range bytes 12 16 a) _ (sum (words (slice_range bytes 12 16))) (sum (words a)) (AreBytes-with_range bytes a 12 16 are octets) header room
    (sets-src_addr bytes a (omega (arith, header, room)) four)
    (sum-take-with_range bytes a 12 16 (header_len bytes) refl (omega (arith, four)) (omega (arith, four)) (omega (arith, header)) room)

pub valid-dst_addr : (bytes a : List ℕ) → AreBytes bytes → AreBytes a → length a ≡ 4 → 20 ≤ header_len bytes → header_len bytes ≤ length bytes → HasChecksum bytes
    → HasChecksum (with_updated_checksum (with_range bytes 16 20 a) (sum_of_bytes (slice_range bytes 16 20)) (sum_of_bytes a))
valid-dst_addr bytes a are octets four header room =
    valid-updated bytes (with_range bytes 16 20 a) _ (sum (words (slice_range bytes 16 20))) (sum (words a)) (AreBytes-with_range bytes a 16 20 are octets) header room
    (sets-dst_addr bytes a (omega (arith, header, room)) four)
    (sum-take-with_range bytes a 16 20 (header_len bytes) refl (omega (arith, four)) (omega (arith, four)) (omega (arith, header)) room)

-- ---- a checksum that is filled in

-- a checksum that was computed is valid
pub valid-filled : (bytes : List ℕ) → AreBytes bytes → 12 ≤ header_len bytes → header_len bytes ≤ length bytes → HasChecksum (with_checksum bytes)
valid-filled bytes are header room =
    let n = header_len bytes in
    let least : 12 ≤ length bytes = omega (arith, header, room) in
    let zeroed = with_field bytes 80 16 0 in
    let long = length_with_field bytes 80 16 0 (omega arith) (omega (arith, least)) in
    let total = sum (words (take n zeroed)) in
    let x = 65535 - residue total in
    let same : header_len (with_checksum bytes) ≡ n = (sets-checksum zeroed x (omega (arith, long, least))).header ∙ (sets-checksum bytes 0 least).header in
    let none = field_with_field_same bytes 80 16 0 are (omega arith) (omega (arith, least)) in
    let more = sum-take-with_field zeroed n 5 x (AreBytes-with_field bytes 80 16 0 are (omega arith) (omega (arith, least))) (omega (arith, header)) (omega (arith, long, room)) (omega arith) in
    let is : sum (words (take n (with_checksum bytes))) ≡ total + x = omega (arith, more, none) in
    ap (λ (m : ℕ). sum_of_bytes (take m (with_checksum bytes))) same ∙ ap residue is ∙ residue-complement total

-- a header with a computed checksum is read as its values
pub reads-filled : (bytes : List ℕ) (verified checked : Bool) (v : Ipv4Repr) → AreBytes bytes → Reads bytes verified v → Reads (with_checksum bytes) checked v
reads-filled bytes verified checked v are r =
    reads_checksum (with_field bytes 80 16 0) _ false checked v (reads_checksum bytes 0 verified false v r (λ no. cc))
    (λ on. valid-filled bytes are (omega (arith, r.lengths.header)) (omega (arith, r.lengths.within, r.lengths.whole)))
