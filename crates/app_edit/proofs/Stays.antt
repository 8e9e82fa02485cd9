-- The sum of a transport packet and of a header stays, modulo 65535.
use Rattle.std.proofs.Common.{ℕ, ◌≡◌, ◌≢◌, ◌∙◌, ◌+◌, ◌-◌, ◌%◌, ◌≤◌, List, ap, ap₂, arith, length-append, ◌∷◌, inl, inr, length, refl, slice_index, slice_range, sum, sym, ◌++◌}
use Rattle.byteorder.specs.Endian.{big_bytes}
use Rattle.ip_wire.specs.IpAddress.{address_bytes}
use Rattle.ip_wire.specs.PseudoHeader.{pseudo_header_bytes, with_pseudo_header}
use Rattle.ip_wire.specs.Protocol.{number_of}
use Rattle.ip_wire.specs.Types.{IpProtocol, IpVersion}
use Rattle.ip_wire.specs.declared.IpProtocol.TheVariants as protocol
use Rattle.ip_wire.specs.declared.IpVersion.TheVariants as version
use Rattle.ip_wire.proofs.Residues.{residue-quotient}
use Rattle.ip_wire.specs.WordSum.{residue, sum_of_bytes, updated, words}
use Rattle.ip_wire.proofs.Spelled.{AreBytes}
use Rattle.ip_wire.proofs.WordLists.{sum-words-append}
use Rattle.app_edit.specs.Checksums.{updated_udp}
use Rattle.app_edit.proofs.Covers.{Keeps, covered, sum_over, udp-keeps, updated-keeps}
use Rattle.app_edit.proofs.Sums.{IsApart, plain-fits, sum-apart, sum-word, udp-fits, udp-stays, updated-fits, word-apart, word-fits}
use Rattle.app_edit.proofs.Totals.{range-length, total, total-range, total-split, written-length, sum-of_number}
use Rattle.app_edit.specs.Edited.{dst_of, over_addresses, segment_sum_by, src_of, updated_by, updated_over, with_header_checksum, with_word, word_at, written}
use Rattle.app_edit.specs.Places.{addresses_end, addresses_start}
use Rattle.app_edit.specs.declared.places.Segment.{Segment}

pub residue-mod : (x : ℕ) → residue x % 65535 ≡ x % 65535
residue-mod x = let q = residue-quotient x in omega (arith, q.1)

-- ---- the pseudo-header

-- two neighbouring parts
sum-both : (xs : List ℕ) (first mid last : ℕ) → first % 2 ≡ 0 → mid % 2 ≡ 0 → first ≤ mid → mid ≤ last → last ≤ length xs
    → sum_over xs first last ≡ sum_over xs first mid + sum_over xs mid last
sum-both xs first mid last a b c d room =
    let f = slice_index xs in
    total-range xs first last a (omega (arith, c, d)) room
    ∙ ap (total f first) (omega (arith, c, d)) ∙ total-split f first (mid - first) (last - mid)
    ∙ ap₂ (λ m n. m + n) (sym (total-range xs first mid a c (omega (arith, d, room)))) (ap (λ k. total f k (last - mid)) (omega (arith, c)) ∙ sym (total-range xs mid last b d room))

pub addresses-even : (v : IpVersion) → addresses_start v % 2 ≡ 0
addresses-even version.Ipv4 = omega arith
addresses-even version.Ipv6 = omega arith

pub addresses-order : (v : IpVersion) → addresses_start v ≤ addresses_end v
addresses-order version.Ipv4 = omega arith
addresses-order version.Ipv6 = omega arith

-- the words of both addresses
pub sum-addresses : (v : IpVersion) (xs : List ℕ) → addresses_end v ≤ length xs
    → sum (words (address_bytes (src_of v xs))) + sum (words (address_bytes (dst_of v xs))) ≡ sum_over xs (addresses_start v) (addresses_end v)
sum-addresses version.Ipv4 xs room = sym (sum-both xs 26 30 34 (omega arith) (omega arith) (omega arith) (omega arith) room)
sum-addresses version.Ipv6 xs room = sym (sum-both xs 22 38 54 (omega arith) (omega arith) (omega arith) (omega arith) room)

pub src-even : (v : IpVersion) (xs : List ℕ) → addresses_end v ≤ length xs → length (address_bytes (src_of v xs)) % 2 ≡ 0
src-even version.Ipv4 xs room = ap (λ n. n % 2) (range-length xs 26 30 (omega arith) (omega (arith, room)))
src-even version.Ipv6 xs room = ap (λ n. n % 2) (range-length xs 22 38 (omega arith) (omega (arith, room)))

pub dst-even : (v : IpVersion) (xs : List ℕ) → addresses_end v ≤ length xs → length (address_bytes (dst_of v xs)) % 2 ≡ 0
dst-even version.Ipv4 xs room = ap (λ n. n % 2) (range-length xs 30 34 (omega arith) (omega (arith, room)))
dst-even version.Ipv6 xs room = ap (λ n. n % 2) (range-length xs 38 54 (omega arith) (omega (arith, room)))

-- the words of a pseudo-header
pub pseudo-header-words : (src dst : List ℕ) (q : IpProtocol) (len : ℕ) → length src % 2 ≡ 0 → length dst % 2 ≡ 0
    → sum (words (pseudo_header_bytes src dst q len)) ≡ sum (words src) + sum (words dst) + (number_of q + len % 65536)
pseudo-header-words src dst q len s d =
    let both : length (src ++ dst) % 2 ≡ 0 = ap (λ n. n % 2) (length-append src dst) ∙ omega (arith, s, d) in
    sum-words-append (src ++ dst) (0 ∷ number_of q ∷ big_bytes 2 len) both ∙ ap₂ (λ m n. m + n) (sum-words-append src dst s) (sum-of_number (number_of q) len)

pseudo-words : (src dst : List ℕ) (q : IpProtocol) (packet : List ℕ) → length src % 2 ≡ 0 → length dst % 2 ≡ 0
    → sum (words (pseudo_header_bytes src dst q (length packet) ++ packet)) ≡ sum (words src) + sum (words dst) + (number_of q + length packet % 65536) + sum (words packet)
pseudo-words src dst q packet s d =
    let whole : length (pseudo_header_bytes src dst q (length packet)) % 2 ≡ 0 =
    ap (λ n. n % 2) (length-append (src ++ dst) (0 ∷ number_of q ∷ big_bytes 2 (length packet)) ∙ ap (λ n. n + 4) (length-append src dst)) ∙ omega (arith, s, d) in
    sum-words-append (pseudo_header_bytes src dst q (length packet)) packet whole ∙ ap (λ k. k + sum (words packet)) (pseudo-header-words src dst q (length packet) s d)

-- the words of a transport packet with its pseudo-header, by its parts
pub pseudo-total : (q : IpProtocol) (v : IpVersion) (start end : ℕ) (xs : List ℕ) → addresses_end v ≤ start → start ≤ end → end ≤ length xs
    → sum (words (with_pseudo_header (src_of v xs) (dst_of v xs) q (slice_range xs start end)))
    ≡ sum_over xs (addresses_start v) (addresses_end v) + (number_of q + (end - start) % 65536) + sum_over xs start end
pseudo-total q v start end xs after order room =
    let fits : addresses_end v ≤ length xs = omega (arith, after, order, room) in
    let long = range-length xs start end order room in
    pseudo-words (address_bytes (src_of v xs)) (address_bytes (dst_of v xs)) q (slice_range xs start end) (src-even v xs fits) (dst-even v xs fits)
    ∙ ap₂ (λ m n. m + (number_of q + n % 65536) + sum_over xs start end) (sum-addresses v xs fits) long

with-pseudo : (q : IpProtocol) (v : IpVersion) (start end : ℕ) (xs : List ℕ) → addresses_end v ≤ start → start ≤ end → end ≤ length xs
    → sum_of_bytes (with_pseudo_header (src_of v xs) (dst_of v xs) q (slice_range xs start end)) % 65535
    ≡ (sum_over xs (addresses_start v) (addresses_end v) + (number_of q + (end - start) % 65536) + sum_over xs start end) % 65535
with-pseudo q v start end xs after order room =
    residue-mod (sum (words (with_pseudo_header (src_of v xs) (dst_of v xs) q (slice_range xs start end))))
    ∙ ap (λ n. n % 65535) (pseudo-total q v start end xs after order room)

-- ---- the checksum of an IP header, beside the transport packet

pub header-length : (v : IpVersion) (xs : List ℕ) (n : ℕ) → 26 ≤ length xs → length (with_header_checksum v xs n) ≡ length xs
header-length version.Ipv4 xs n room = written-length xs (big_bytes 2 n) 24 room
header-length version.Ipv6 xs n room = refl

header-apart : (v : IpVersion) (xs : List ℕ) (n first last : ℕ) → 26 ≤ first → first % 2 ≡ 0 → first ≤ last → last ≤ length xs
    → sum_over (with_header_checksum v xs n) first last ≡ sum_over xs first last
header-apart version.Ipv4 xs n first last a even order room = sum-apart xs (big_bytes 2 n) 24 first last even order room (omega (arith, a, order, room)) (inl a)
header-apart version.Ipv6 xs n first last a even order room = refl

header-addresses : (v : IpVersion) (xs : List ℕ) (n : ℕ) → addresses_end v ≤ length xs
    → sum_over (with_header_checksum v xs n) (addresses_start v) (addresses_end v) ≡ sum_over xs (addresses_start v) (addresses_end v)
header-addresses version.Ipv4 xs n room = header-apart version.Ipv4 xs n 26 34 (omega arith) (omega arith) (omega arith) room
header-addresses version.Ipv6 xs n room = refl

header-word : (v : IpVersion) (xs : List ℕ) (n c : ℕ) → 26 ≤ c → 26 ≤ length xs → word_at (with_header_checksum v xs n) c ≡ word_at xs c
header-word version.Ipv4 xs n c a room = word-apart xs (big_bytes 2 n) 24 c room (inl a)
header-word version.Ipv6 xs n c a room = refl

pub least-end : (v : IpVersion) → 34 ≤ addresses_end v
least-end version.Ipv4 = omega arith
least-end version.Ipv6 = omega arith

-- ---- an edit

-- what is known of an edit of a transport packet from start up to end, whose checksum field is at c
pub record IsEdit (v : IpVersion) (start end c : ℕ) (xs bytes : List ℕ) (at : ℕ) : Type 0 where
  pub starts : addresses_end v ≤ start
  pub even : start % 2 ≡ 0
  pub field_even : c % 2 ≡ 0
  pub begins : start ≤ c
  pub ends : c + 2 ≤ end
  pub inside : end ≤ length xs
  pub room : at + length bytes ≤ length xs
  pub apart : IsApart at (length bytes) c (c + 2)
  pub are : AreBytes xs

-- the frame with these bytes, the checksum n of the IP header, and the checksum f of the transport packet
abbrev pub made : IpVersion → ℕ → List ℕ → List ℕ → ℕ → ℕ → ℕ → List ℕ
made v c xs bytes at n f = with_word (with_header_checksum v (written xs at bytes) n) c f

-- the packet after the edit, by the packet with the bytes alone
made-segment : (v : IpVersion) (start end c : ℕ) (xs bytes : List ℕ) (at n f : ℕ) → IsEdit v start end c xs bytes at → f ≤ 65535
    → sum_over (made v c xs bytes at n f) start end + word_at xs c ≡ sum_over (written xs at bytes) start end + f
made-segment v start end c xs bytes at n f e fits =
    let new = written xs at bytes in
    let h = with_header_checksum v new n in
    let least = least-end v in
    let long = written-length xs bytes at e.room in
    let whole = header-length v new n (omega (arith, long, least, e.starts, e.begins, e.ends, e.inside)) in
    let one = sum-word h c f start end e.even e.field_even e.begins e.ends (omega (arith, whole, long, e.inside)) fits in
    let two = header-apart v new n start end (omega (arith, least, e.starts)) e.even (omega (arith, e.begins, e.ends)) (omega (arith, long, e.inside)) in
    let field = header-word v new n c (omega (arith, least, e.starts, e.begins)) (omega (arith, long, least, e.starts, e.begins, e.ends, e.inside)) ∙ word-apart xs bytes at c e.room e.apart in
    omega (arith, one, two, field)

-- its addresses
pub made-addresses : (v : IpVersion) (start end c : ℕ) (xs bytes : List ℕ) (at n f : ℕ) → IsEdit v start end c xs bytes at
    → sum_over (made v c xs bytes at n f) (addresses_start v) (addresses_end v) ≡ sum_over (written xs at bytes) (addresses_start v) (addresses_end v)
made-addresses v start end c xs bytes at n f e =
    let new = written xs at bytes in
    let h = with_header_checksum v new n in
    let least = least-end v in
    let long = written-length xs bytes at e.room in
    let whole = header-length v new n (omega (arith, long, least, e.starts, e.begins, e.ends, e.inside)) in
    sum-apart h (big_bytes 2 f) c (addresses_start v) (addresses_end v) (addresses-even v) (addresses-order v) (omega (arith, whole, long, e.starts, e.begins, e.ends, e.inside))
    (omega (arith, whole, long, e.ends, e.inside)) (inr (omega (arith, e.starts, e.begins)))
    ∙ header-addresses v new n (omega (arith, long, e.starts, e.begins, e.ends, e.inside))

pub made-length : (v : IpVersion) (start end c : ℕ) (xs bytes : List ℕ) (at n f : ℕ) → IsEdit v start end c xs bytes at → length (made v c xs bytes at n f) ≡ length xs
made-length v start end c xs bytes at n f e =
    let new = written xs at bytes in
    let least = least-end v in
    let long = written-length xs bytes at e.room in
    let whole = header-length v new n (omega (arith, long, least, e.starts, e.begins, e.ends, e.inside)) in
    written-length (with_header_checksum v new n) (big_bytes 2 f) c (omega (arith, whole, long, e.ends, e.inside)) ∙ whole ∙ long

-- ---- the transport checksum

-- the fields after the addresses, and then the packet, changed
abbrev pub first_field : (ℕ → ℕ → ℕ → ℕ) → IpVersion → ℕ → List ℕ → List ℕ → ℕ → ℕ
first_field update v f xs bytes at = updated_over update f (addresses_start v) (addresses_end v) at (slice_range xs at (at + length bytes)) bytes

abbrev pub second_field : (ℕ → ℕ → ℕ → ℕ) → ℕ → ℕ → ℕ → List ℕ → List ℕ → ℕ → ℕ
second_field update start end f xs bytes at = updated_over update f start end at (slice_range xs at (at + length bytes)) bytes

-- an update that may be made twice
pub record Updates (update : ℕ → ℕ → ℕ → ℕ) (v : IpVersion) (f : ℕ) (xs bytes : List ℕ) (at : ℕ) : Type 0 where
  pub bounded : (field old new : ℕ) → update field old new ≤ 65535
  pub keeps : Keeps update f
  pub again : Keeps update (first_field update v f xs bytes at)

pub plain-updates : (v : IpVersion) (f : ℕ) (xs bytes : List ℕ) (at : ℕ) → f ≤ 65535 → Updates updated v f xs bytes at
plain-updates v f xs bytes at fits = record {
  bounded = plain-fits;
  keeps = updated-keeps f fits;
  again = updated-keeps (first_field updated v f xs bytes at)
      (updated-fits updated f (addresses_start v) (addresses_end v) at (slice_range xs at (at + length bytes)) bytes fits (plain-fits f));
}

pub udp-updates : (v : IpVersion) (f : ℕ) (xs bytes : List ℕ) (at : ℕ) → f ≤ 65535 → f ≢ 0 → Updates updated_udp v f xs bytes at
udp-updates v f xs bytes at fits some = record {
  bounded = udp-fits;
  keeps = udp-keeps f fits some;
  again = udp-keeps (first_field updated_udp v f xs bytes at)
      (updated-fits updated_udp f (addresses_start v) (addresses_end v) at (slice_range xs at (at + length bytes)) bytes fits (udp-fits f))
      (udp-stays f (addresses_start v) (addresses_end v) at (slice_range xs at (at + length bytes)) bytes some);
}

-- of a packet with a pseudo-header
with-addresses : (q : IpProtocol) (update : ℕ → ℕ → ℕ → ℕ) (v : IpVersion) (start end c : ℕ) (xs bytes : List ℕ) (at n : ℕ) → IsEdit v start end c xs bytes at
    → Updates update v (word_at xs c) xs bytes at
    → let f = second_field update start end (first_field update v (word_at xs c) xs bytes at) xs bytes at in
    let new = made v c xs bytes at n f in
    sum_of_bytes (with_pseudo_header (src_of v new) (dst_of v new) q (slice_range new start end)) % 65535
    ≡ sum_of_bytes (with_pseudo_header (src_of v xs) (dst_of v xs) q (slice_range xs start end)) % 65535
with-addresses q update v start end c xs bytes at n e u =
    let field = word_at xs c in
    let one = first_field update v field xs bytes at in
    let f = second_field update start end one xs bytes at in
    let new = made v c xs bytes at n f in
    let before = slice_range xs at (at + length bytes) in
    let fits = word-fits xs c e.are in
    let small = updated-fits update field (addresses_start v) (addresses_end v) at before bytes fits (u.bounded field) in
    let least = updated-fits update one start end at before bytes small (u.bounded one) in
    let order : start ≤ end = omega (arith, e.begins, e.ends) in
    let addresses = covered update xs bytes at (addresses_start v) (addresses_end v) field (addresses-even v) (addresses-order v) (omega (arith, e.starts, order, e.inside)) e.room u.keeps in
    let packet = covered update xs bytes at start end one e.even order e.inside e.room u.again in
    let written_packet = made-segment v start end c xs bytes at n f e least in
    let written_addresses = made-addresses v start end c xs bytes at n f e in
    let long = made-length v start end c xs bytes at n f e in
    with-pseudo q v start end new e.starts order (omega (arith, long, e.inside))
    ∙ joined (sum_over new (addresses_start v) (addresses_end v)) (sum_over (written xs at bytes) (addresses_start v) (addresses_end v)) (sum_over xs (addresses_start v) (addresses_end v))
    (sum_over new start end) (sum_over (written xs at bytes) start end) (sum_over xs start end) (number_of q + (end - start) % 65536) field one f
    written_addresses addresses packet written_packet
    ∙ sym (with-pseudo q v start end xs e.starts order e.inside)
  where
    joined : (a b c d e f k g h i : ℕ) → a ≡ b → (b + h) % 65535 ≡ (c + g) % 65535 → (e + i) % 65535 ≡ (f + h) % 65535 → d + g ≡ e + i
        → (a + k + d) % 65535 ≡ (c + k + f) % 65535
    joined a b c d e f k g h i p q r s = omega (arith, p, q, r, s)

-- of a packet without one
without-addresses : (v : IpVersion) (start end c : ℕ) (xs bytes : List ℕ) (at n : ℕ) → IsEdit v start end c xs bytes at
    → sum_of_bytes (slice_range (made v c xs bytes at n (second_field updated start end (word_at xs c) xs bytes at)) start end) % 65535
    ≡ sum_of_bytes (slice_range xs start end) % 65535
without-addresses v start end c xs bytes at n e =
    let field = word_at xs c in
    let f = second_field updated start end field xs bytes at in
    let fits = word-fits xs c e.are in
    let least = updated-fits updated field start end at (slice_range xs at (at + length bytes)) bytes fits (plain-fits field) in
    let packet = covered updated xs bytes at start end field e.even (omega (arith, e.begins, e.ends)) e.inside e.room (updated-keeps field fits) in
    let written_packet = made-segment v start end c xs bytes at n f e least in
    residue-mod (sum_over (made v c xs bytes at n f) start end) ∙ omega (arith, packet, written_packet) ∙ sym (residue-mod (sum_over xs start end))

-- the field of a protocol after an edit
abbrev pub field_by : IpProtocol → IpVersion → Segment → ℕ → List ℕ → List ℕ → ℕ → ℕ
field_by q v s c xs bytes at = second_field (updated_by q) s.start s.end (over_addresses q v (word_at xs c) at (slice_range xs at (at + length bytes)) bytes) xs bytes at

abbrev pub Stays : IpProtocol → IpVersion → Segment → ℕ → List ℕ → List ℕ → ℕ → ℕ → Type 0
Stays q v s c xs bytes at n =
    segment_sum_by q v s (made v c xs bytes at n (field_by q v s c xs bytes at)) % 65535 ≡ segment_sum_by q v s xs % 65535

plainly : (q : IpProtocol) (v : IpVersion) (s : Segment) (c : ℕ) (xs bytes : List ℕ) (at n : ℕ) → IsEdit v s.start s.end c xs bytes at
    → let f = second_field updated s.start s.end (first_field updated v (word_at xs c) xs bytes at) xs bytes at in
    let new = made v c xs bytes at n f in
    sum_of_bytes (with_pseudo_header (src_of v new) (dst_of v new) q (slice_range new s.start s.end)) % 65535
    ≡ sum_of_bytes (with_pseudo_header (src_of v xs) (dst_of v xs) q (slice_range xs s.start s.end)) % 65535
plainly q v s c xs bytes at n e = with-addresses q updated v s.start s.end c xs bytes at n e (plain-updates v (word_at xs c) xs bytes at (word-fits xs c e.are))

pub stays : (q : IpProtocol) (v : IpVersion) (s : Segment) (c : ℕ) (xs bytes : List ℕ) (at n : ℕ) → IsEdit v s.start s.end c xs bytes at
    → (q ≡ protocol.Udp → word_at xs c ≢ 0) → Stays q v s c xs bytes at n
stays protocol.Icmp v s c xs bytes at n e some = without-addresses v s.start s.end c xs bytes at n e
stays protocol.Udp v s c xs bytes at n e some =
    with-addresses protocol.Udp updated_udp v s.start s.end c xs bytes at n e (udp-updates v (word_at xs c) xs bytes at (word-fits xs c e.are) (some refl))
stays q v s c xs bytes at n e some = plainly q v s c xs bytes at n e
