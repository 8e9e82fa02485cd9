-- A checksum that is left to the device stays the sum of the pseudo-header.
use Rattle.std.proofs.Common.{ℕ, ◌≡◌, ◌∙◌, ◌+◌, ◌-◌, ◌*◌, ◌%◌, ◌<◌, ◌≤◌, ◌==◌, Bool, List, ap, arith, false, if◌then◌else◌, not, ◌&&◌, ◌∷◌, [], length, refl, slice_range, sum, sym, true}
use Rattle.ip_wire.specs.IpAddress.{address_bytes}
use Rattle.ip_wire.specs.Protocol.{number_of}
use Rattle.ip_wire.specs.Types.{IpProtocol, IpVersion}
use Rattle.ip_wire.specs.WordSum.{residue, sum_of, sum_of_bytes, updated}
use Rattle.ip_wire.proofs.Residues.{residue-add, residue-bound, residue-quotient, residue-small}
use Rattle.ip_wire.proofs.Spelled.{AreBytes}
use Rattle.std.proofs.lemmas.Bool.Decides.{nat_tests}
use Rattle.app_edit.proofs.Covers.{covered, sum_over, updated-keeps}
use Rattle.app_edit.proofs.Kept.{is-edit}
use Rattle.app_edit.proofs.Stays.{IsEdit, addresses-even, addresses-order, dst-even, field_by, first_field, header-length, least-end, made, made-addresses, made-length, pseudo-header-words, src-even, sum-addresses}
use Rattle.app_edit.proofs.Sums.{IsApart, residue-least, updated-below, word-fits, word-written}
use Rattle.app_edit.proofs.Totals.{written-length}
use Rattle.app_edit.specs.Edited.{can_be_left, dst_of, edited, header_checksum, is_left, looks_left, pseudo_header_sum, segment_sum, src_of, transport_checksum, with_header_checksum, with_transport_checksum, with_word, word_at, written}
use Rattle.app_edit.specs.Places.{Holds, addresses_end, addresses_start, checksum_place}
use Rattle.app_edit.specs.declared.places.Carried.TheVariants as carried
use Rattle.app_edit.specs.declared.places.Places.{Places}
use Rattle.app_edit.specs.declared.places.Segment.{Segment}
use Rattle.app_edit.specs.declared.replace.Offload.{Offload}
use Rattle.app_edit.specs.declared.replace.Offload.TheVariants as offload

pub pseudo-is : (v : IpVersion) (s : Segment) (xs : List ℕ) → addresses_end v ≤ length xs
    → pseudo_header_sum v s xs ≡ residue (sum_over xs (addresses_start v) (addresses_end v) + (number_of s.protocol + (s.end - s.start) % 65536))
pseudo-is v s xs room =
    ap residue (pseudo-header-words (address_bytes (src_of v xs)) (address_bytes (dst_of v xs)) s.protocol (s.end - s.start) (src-even v xs room) (dst-even v xs room)
    ∙ ap (λ n. n + (number_of s.protocol + (s.end - s.start) % 65536)) (sum-addresses v xs room))

-- the sum of the parts of a pseudo-header
pub pseudo_parts : (v : IpVersion) (s : Segment) (xs : List ℕ) (a n l : ℕ) → addresses_end v ≤ length xs
    → a ≡ sum_of_bytes (slice_range xs (addresses_start v) (addresses_end v)) → n ≡ number_of s.protocol → l ≡ (s.end - s.start) % 65536
    → sum_of (a ∷ n ∷ l ∷ []) ≡ pseudo_header_sum v s xs
pseudo_parts v s xs a n l room first number len =
    let t = sum_over xs (addresses_start v) (addresses_end v) in
    let k = number_of s.protocol + (s.end - s.start) % 65536 in
    let total : sum (a ∷ n ∷ l ∷ []) ≡ a + k = omega (arith, number, len) in
    ap residue total ∙ residue-add a t k k (ap residue first ∙ residue-small (residue t) (residue-bound t)) refl ∙ sym (pseudo-is v s xs room)

pub number-some : (q : IpProtocol) → can_be_left q ≡ true → 0 < number_of q
number-some q h = grind arith

pub looks-partial : (v : IpVersion) (s : Segment) (xs : List ℕ) → looks_left v s xs ≡ true → word_at xs (checksum_place s) ≡ pseudo_header_sum v s xs
looks-partial v s xs h = parts s.is_whole (can_be_left s.protocol) (word_at xs (checksum_place s)) (pseudo_header_sum v s xs) (segment_sum v s xs) h
  where
    parts : (a b : Bool) (m n k : ℕ) → (a && b && m == n && not (k == 65535)) ≡ true → m ≡ n
    parts a b m n k h = grind (arith, nat_tests)

pub looks-protocol : (v : IpVersion) (s : Segment) (xs : List ℕ) → looks_left v s xs ≡ true → can_be_left s.protocol ≡ true
looks-protocol v s xs h = parts s.is_whole (can_be_left s.protocol) (word_at xs (checksum_place s) == pseudo_header_sum v s xs) (not (segment_sum v s xs == 65535)) h
  where
    parts : (a b d e : Bool) → (a && b && d && e) ≡ true → b ≡ true
    parts true true true true h = refl
    parts true true true false h = refl
    parts true true false e h = refl
    parts true false d e h = h
    parts false b d e h = absurd (cc)

-- what the caller says of the field, or a guess
abbrev IsPartial : Offload → IpVersion → Segment → List ℕ → Type 0
IsPartial o v s xs = o ≡ offload.Offloaded → word_at xs (checksum_place s) ≡ pseudo_header_sum v s xs

pub left-is : (o : Offload) (v : IpVersion) (s : Segment) (xs : List ℕ) → is_left o v s xs ≡ true → IsPartial o v s xs → word_at xs (checksum_place s) ≡ pseudo_header_sum v s xs
left-is offload.Guess v s xs h said = looks-partial v s xs h
left-is offload.Offloaded v s xs h said = said refl
left-is offload.Complete v s xs h said = absurd (cc)

pub left-protocol : (o : Offload) (v : IpVersion) (s : Segment) (xs : List ℕ) → is_left o v s xs ≡ true → can_be_left s.protocol ≡ true
left-protocol offload.Guess v s xs h = looks-protocol v s xs h
left-protocol offload.Offloaded v s xs h = h
left-protocol offload.Complete v s xs h = absurd (cc)

-- the field, as a number
left-number : (was now k f u r j i : ℕ) → f ≤ 65535 → u < 65535 → 1 ≤ r → r ≤ 65535 → was + k ≡ f + 65535 * j → now + k ≡ r + 65535 * i
    → (now + u) % 65535 ≡ (was + (65535 - f)) % 65535 → 65535 - u ≡ r
left-number was now k f u r j i a b c d p q h = omega (arith, a, b, c, d, p, q, h)

pub left-stays : (o : Offload) (p : Places) (s : Segment) (xs bytes : List ℕ) (at : ℕ) → Holds p xs → p.carried ≡ carried.Segment s → AreBytes xs → at + length bytes ≤ length xs
    → IsApart at (length bytes) (checksum_place s) (checksum_place s + 2) → is_left o p.version s xs ≡ true → IsPartial o p.version s xs
    → word_at (edited o p xs at bytes) (checksum_place s) ≡ pseudo_header_sum p.version s (edited o p xs at bytes)
left-stays o p s xs bytes at h is are room apart left said =
    ap (λ l. word_at l c) (edited-is) ∙ number ∙ sym (ap (pseudo_header_sum v s) edited-is)
  where
    v : IpVersion
    v = p.version

    c : ℕ
    c = checksum_place s

    e : IsEdit p.version s.start s.end (checksum_place s) xs bytes at
    e = is-edit p s xs bytes at h is are room apart

    n : ℕ
    n = header_checksum p.version p.start xs at bytes

    u : ℕ
    u = first_field updated p.version (65535 - word_at xs (checksum_place s)) xs bytes at

    new : List ℕ
    new = made p.version (checksum_place s) xs bytes at n (65535 - u)

    edited-is : edited o p xs at bytes ≡ new
    edited-is =
        let head = with_header_checksum p.version (written xs at bytes) n in
        ap (λ k. with_transport_checksum k head (transport_checksum o k p.version xs at bytes)) is
        ∙ ap (λ (b : Bool). with_word head c (if b then 65535 - u else field_by s.protocol p.version s c xs bytes at)) left

    number : word_at new c ≡ pseudo_header_sum v s new
    number =
        let field = word_at xs c in
        let long = made-length v s.start s.end c xs bytes at n (65535 - u) e in
        let least = least-end v in
        let fits : addresses_end v ≤ length xs = omega (arith, e.starts, e.begins, e.ends, e.inside) in
        let head_long = header-length v (written xs at bytes) n (omega (arith, written-length xs bytes at room, least, fits)) ∙ written-length xs bytes at room in
        let written_field = word-written (with_header_checksum v (written xs at bytes) n) c (65535 - u) (omega (arith, head_long, e.ends, e.inside)) (omega arith) in
        let k = number_of s.protocol + (s.end - s.start) % 65536 in
        let was = sum_over xs (addresses_start v) (addresses_end v) in
        let now = sum_over (written xs at bytes) (addresses_start v) (addresses_end v) in
        let some = number-some s.protocol (left-protocol o v s xs left) in
        let is_sum : field ≡ residue (was + k) = left-is o v s xs left said ∙ pseudo-is v s xs fits in
        let positive = residue-least (was + k) (omega (arith, some)) in
        let j = residue-quotient (was + k) in
        let i = residue-quotient (now + k) in
        let small = word-fits xs c are in
        let cover = covered updated xs bytes at (addresses_start v) (addresses_end v) (65535 - field) (addresses-even v) (addresses-order v) fits room (updated-keeps (65535 - field) (omega arith)) in
        let under = updated-below (65535 - field) (addresses_start v) (addresses_end v) at (slice_range xs at (at + length bytes)) bytes (omega (arith, is_sum, positive, small)) in
        let same = left-number was now k field u (residue (now + k)) j.0 i.0 small under (residue-least (now + k) (omega (arith, some))) (residue-bound (now + k)) (j.1 ∙ omega (arith, is_sum)) i.1 cover in
        written_field ∙ same
        ∙ sym (pseudo-is v s new (omega (arith, long, fits)) ∙ ap (λ m. residue (m + k)) (made-addresses v s.start s.end c xs bytes at n (65535 - u) e))
