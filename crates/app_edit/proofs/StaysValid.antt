-- A valid checksum stays valid, and a wrong one wrong.
use Rattle.std.proofs.Common.{ℕ, ◌≡◌, ◌≢◌, ◌∙◌, ◌⊎◌, ◌+◌, ◌-◌, ◌%◌, ◌<◌, ◌≤◌, ◌==◌, ◌&&◌, Bool, List, ap, ap₂, arith, drop, false, if◌then◌else◌, inl, inr, length, max, min, nat_lt, not, refl, slice_index, slice_range, subst, sum, sym, take, true}
use Rattle.std.proofs.lemmas.Bool.{cases_eq}
use Rattle.std.proofs.lemmas.Bool.Decides.{nat_tests}
use Rattle.std.proofs.lemmas.List.{drop-drop, get_or-drop, take_all}
use Rattle.ip_wire.proofs.Residues.{residue-bound}
use Rattle.ip_wire.proofs.Spelled.{AreBytes}
use Rattle.ip_wire.specs.IpAddress.{version_of}
use Rattle.ip_wire.specs.Ipv4 as ipv4
use Rattle.ip_wire.specs.Protocol.{number_of}
use Rattle.ip_wire.specs.PseudoHeader.{with_pseudo_header}
use Rattle.ip_wire.specs.Types.{IpProtocol, IpVersion}
use Rattle.ip_wire.specs.Udp as udp
use Rattle.ip_wire.specs.WordSum.{sum_of_bytes, words}
use Rattle.ip_wire.specs.declared.IpAddress.TheVariants as address
use Rattle.ip_wire.specs.declared.IpProtocol.TheVariants as protocol
use Rattle.ip_wire.specs.declared.IpVersion.TheVariants as version
use Rattle.app_edit.proofs.Covers.{sum_over}
use Rattle.app_edit.proofs.Found.{Carries, Tells}
use Rattle.app_edit.proofs.Kept.{edited-is, in-frame, segment-stays}
use Rattle.app_edit.proofs.Left.{left-protocol, looks-partial, number-some, pseudo-is}
use Rattle.app_edit.proofs.Stays.{field_by, first_field, header-length, least-end, made, pseudo-total, second_field}
use Rattle.app_edit.proofs.Sums.{IsApart, residue-least, udp-stays, updated-fits, udp-fits, word-fits, word-is, word-written}
use Rattle.app_edit.proofs.Totals.{range-index, range-length, some-total, total-range, written-length}
use Rattle.app_edit.specs.Checksums.{updated_udp}
use Rattle.app_edit.specs.Edited.{can_be_left, dst_of, edited, header_checksum, is_left, looks_left, pseudo_header_sum, segment_bytes, segment_sum, segment_sum_by, src_of, updated_over, with_header_checksum, word_at, written}
use Rattle.app_edit.specs.Fields.{addr_of}
use Rattle.app_edit.specs.Places.{Holds, InFrame, addresses_end, addresses_start, checksum_offset, checksum_place, datagram_len, has_checksum, is_ipv4}
use Rattle.app_edit.specs.Valid.{HasChecksumBy, HasHeaderChecksum, HasTransportChecksum}
use Rattle.app_edit.specs.declared.places.Carried.TheVariants as carried
use Rattle.app_edit.specs.declared.places.Places.{Places}
use Rattle.app_edit.specs.declared.places.Segment.{Segment}
use Rattle.app_edit.specs.declared.replace.Offload.{Offload}
use Rattle.app_edit.specs.declared.replace.Offload.TheVariants as offload
use Rattle.app_edit.specs.declared.side.Side.TheVariants.{Source, Destination}

-- a sum that is 0xffff, and another that is the same modulo 65535 and not 0
full : (old new : ℕ) → new ≤ 65535 → new % 65535 ≡ old % 65535 → 0 < new → old ≡ 65535 → new ≡ 65535
full old new fits same some is = omega (arith, fits, same, some, is)

-- ---- the checksum of an IPv4 header

-- the sum of a header of version 4 is not 0
header-some : (p : Places) (xs : List ℕ) → Holds p xs → ipv4.ip_version_of (drop 14 xs) ≡ 4 → 0 < sum_of_bytes (slice_range xs 14 p.start)
header-some p xs h four =
    let first : 0 < slice_index xs 14 = omega (arith, four, get_or-drop 14 xs 0 0) in
    let least = least-end p.version in
    let room : p.start ≤ length xs = omega (arith, h.inside, h.whole) in
    let some = some-total (slice_index xs) 14 (p.start - 14) (omega arith) first (omega (arith, least, h.header)) in
    let positive : 0 < sum (words (slice_range xs 14 p.start)) = omega (arith, total-range xs 14 p.start (omega arith) (omega (arith, least, h.header)) room, some) in
    omega (arith, residue-least (sum (words (slice_range xs 14 p.start))) positive)

header-is : (p : Places) (xs : List ℕ) → p.start ≡ 14 + ipv4.header_len (drop 14 xs) → sum_of_bytes (slice_range xs 14 p.start) ≡ sum_of_bytes (take (ipv4.header_len (drop 14 xs)) (drop 14 xs))
header-is p xs is =
    let long : p.start - 14 ≡ ipv4.header_len (drop 14 xs) = omega (arith, is) in
    ap (λ n. sum_of_bytes (take n (drop 14 xs))) long

-- a valid checksum of frames whose headers have the same sum
pub header-valid : (p : Places) (xs ys : List ℕ) → Holds p ys → Tells xs p → Tells ys p → p.version ≡ version.Ipv4
    → sum_of_bytes (slice_range ys 14 p.start) % 65535 ≡ sum_of_bytes (slice_range xs 14 p.start) % 65535 → HasHeaderChecksum xs → HasHeaderChecksum ys
header-valid p xs ys h old new four same valid =
    let now = new.header four in
    sym (header-is p ys now.0)
    ∙ full (sum_of_bytes (slice_range xs 14 p.start)) (sum_of_bytes (slice_range ys 14 p.start)) (residue-bound (sum (words (slice_range ys 14 p.start)))) same (header-some p ys h now.1)
    (header-is p xs (old.header four).0 ∙ valid)

-- ---- the sum of a transport packet

sum-fits : (q : IpProtocol) (v : IpVersion) (s : Segment) (xs : List ℕ) → segment_sum_by q v s xs ≤ 65535
sum-fits protocol.Icmp v s xs = residue-bound (sum (words (segment_bytes s xs)))
sum-fits q v s xs = residue-bound (sum (words (with_pseudo_header (src_of v xs) (dst_of v xs) q (segment_bytes s xs))))

pseudo-some : (q : IpProtocol) (v : IpVersion) (s : Segment) (xs : List ℕ) → InFrame v s xs → 0 < number_of q
    → 0 < sum_of_bytes (with_pseudo_header (src_of v xs) (dst_of v xs) q (segment_bytes s xs))
pseudo-some q v s xs f some =
    let packet = sum (words (with_pseudo_header (src_of v xs) (dst_of v xs) q (segment_bytes s xs))) in
    let whole = pseudo-total q v s.start s.end xs f.starts (omega (arith, f.least)) f.inside in
    omega (arith, residue-least packet (omega (arith, whole, some)))

-- it is not 0, but for an ICMP message of zeros
pub sum-some : (q : IpProtocol) (four : Bool) (v : IpVersion) (s : Segment) (xs : List ℕ) → InFrame v s xs → has_checksum four q ≡ true
    → (q ≡ protocol.Icmp → 0 < sum_of_bytes (segment_bytes s xs)) → 0 < segment_sum_by q v s xs
sum-some protocol.Icmp four v s xs f has some = some refl
sum-some protocol.Tcp four v s xs f has some = pseudo-some protocol.Tcp v s xs f (omega arith)
sum-some protocol.Udp four v s xs f has some = pseudo-some protocol.Udp v s xs f (omega arith)
sum-some protocol.Icmpv6 four v s xs f has some = pseudo-some protocol.Icmpv6 v s xs f (omega arith)
sum-some q four v s xs f has some = absurd (cc)

-- ---- a valid checksum, by that sum

src-is : (v : IpVersion) (xs : List ℕ) → addr_of Source v xs ≡ src_of v xs
src-is version.Ipv4 xs = ap address.Ipv4 (ap (take 4) (drop-drop 12 14 xs))
src-is version.Ipv6 xs = ap address.Ipv6 (ap (take 16) (drop-drop 8 14 xs))

dst-is : (v : IpVersion) (xs : List ℕ) → addr_of Destination v xs ≡ dst_of v xs
dst-is version.Ipv4 xs = ap address.Ipv4 (ap (take 4) (drop-drop 16 14 xs))
dst-is version.Ipv6 xs = ap address.Ipv6 (ap (take 16) (drop-drop 24 14 xs))

pseudo-sum : (q : IpProtocol) (v : IpVersion) (s : Segment) (xs : List ℕ)
    → sum_of_bytes (with_pseudo_header (addr_of Source v xs) (addr_of Destination v xs) q (segment_bytes s xs))
    ≡ sum_of_bytes (with_pseudo_header (src_of v xs) (dst_of v xs) q (segment_bytes s xs))
pseudo-sum q v s xs = ap₂ (λ a b. sum_of_bytes (with_pseudo_header a b q (segment_bytes s xs))) (src-is v xs) (dst-is v xs)

-- the fields of a UDP packet in its bytes, and in the frame
record UdpFields (s : Segment) (xs : List ℕ) : Type 0 where
  checksum : udp.checksum_of (segment_bytes s xs) ≡ word_at xs (checksum_place s)
  packet : take (udp.packet_len (segment_bytes s xs)) (segment_bytes s xs) ≡ segment_bytes s xs

udp-fields : (v : IpVersion) (s : Segment) (xs : List ℕ) → InFrame v s xs → AreBytes xs → s.protocol ≡ protocol.Udp → s.end ≤ s.start + datagram_len xs s.start → UdpFields s xs
udp-fields v s xs f are is fits =
    let place : checksum_place s ≡ s.start + 6 = ap (λ q. s.start + checksum_offset q) is in
    let least : s.start + 8 ≤ s.end = omega (arith, f.least, place) in
    let bytes = segment_bytes s xs in
    let byte : (k : ℕ) → k < 8 → slice_index bytes k ≡ slice_index xs (s.start + k) = λ k low. range-index xs s.start s.end k (omega (arith, low, least)) in
    let long = range-length xs s.start s.end (omega (arith, least)) f.inside in
    let next : s.start + 4 + 1 ≡ s.start + 5 = omega arith in
    let last : s.start + 6 + 1 ≡ s.start + 7 = omega arith in
    let len : udp.packet_len bytes ≡ datagram_len xs s.start =
    omega (arith, byte 4 (omega arith), byte 5 (omega arith), word-is xs (s.start + 4), ap (slice_index xs) next, are (s.start + 4), are (s.start + 5))
    in
    record {
      checksum =
          let word : udp.checksum_of bytes ≡ word_at xs (s.start + 6) =
          omega (arith, byte 6 (omega arith), byte 7 (omega arith), word-is xs (s.start + 6), ap (slice_index xs) last, are (s.start + 6), are (s.start + 7))
          in
          word ∙ ap (word_at xs) (sym place);
      packet = take_all (udp.packet_len bytes) bytes (omega (arith, long, len, fits));
    }

version-is : (v : IpVersion) (xs : List ℕ) → version_of (addr_of Source v xs) ≡ v
version-is version.Ipv4 xs = refl
version-is version.Ipv6 xs = refl

-- ---- two frames with the same sums

-- the sums are the same modulo 65535, and UDP has a checksum in both or in none
pub record Alike (q : IpProtocol) (v : IpVersion) (s : Segment) (xs ys : List ℕ) : Type 0 where
  pub same : (q ≡ protocol.Udp → word_at xs (checksum_place s) ≢ 0) → segment_sum_by q v s ys % 65535 ≡ segment_sum_by q v s xs % 65535
  pub none : q ≡ protocol.Udp → word_at xs (checksum_place s) ≡ 0 → word_at ys (checksum_place s) ≡ 0
  pub some : q ≡ protocol.Udp → word_at xs (checksum_place s) ≢ 0 → word_at ys (checksum_place s) ≢ 0

pub alike-back : (q : IpProtocol) (v : IpVersion) (s : Segment) (xs ys : List ℕ) → Alike q v s xs ys → Alike q v s ys xs
alike-back q v s xs ys a = record {
  same = λ some. sym (a.same (λ is zero. some is (a.none is zero)));
  none = λ is zero. elim (cases_eq (word_at xs (checksum_place s)) 0) [
    | inl none ↦ none
    | inr other ↦ absurd (a.some is other zero)
  ];
  some = λ is other zero. other (a.none is zero);
}

pub alike-same : (q : IpProtocol) (v : IpVersion) (s : Segment) (xs ys : List ℕ) → ys ≡ xs → Alike q v s xs ys
alike-same q v s xs ys is = record {
  same = λ some. ap (λ l. segment_sum_by q v s l % 65535) is;
  none = λ udp zero. ap (λ l. word_at l (checksum_place s)) is ∙ zero;
  some = λ udp other zero. other (sym (ap (λ l. word_at l (checksum_place s)) is) ∙ zero);
}

valid-udp : (v : IpVersion) (s : Segment) (xs ys : List ℕ) → Alike protocol.Udp v s xs ys → UdpFields s xs → UdpFields s ys → 0 < segment_sum_by protocol.Udp v s ys
    → HasChecksumBy protocol.Udp (addr_of Source v xs) (addr_of Destination v xs) (segment_bytes s xs)
    → HasChecksumBy protocol.Udp (addr_of Source v ys) (addr_of Destination v ys) (segment_bytes s ys)
valid-udp v s xs ys a old new positive (inl (none, four)) =
    inl (new.checksum ∙ a.none refl (sym old.checksum ∙ none), version-is v ys ∙ sym (version-is v xs) ∙ four)
valid-udp v s xs ys a old new positive (inr (other, valid)) =
    let some : word_at xs (checksum_place s) ≢ 0 = λ zero. other (old.checksum ∙ zero) in
    inr (
      λ zero. a.some refl some (sym new.checksum ∙ zero),
      ap (λ l. sum_of_bytes (with_pseudo_header (addr_of Source v ys) (addr_of Destination v ys) protocol.Udp l)) new.packet ∙ pseudo-sum protocol.Udp v s ys
          ∙ full (segment_sum_by protocol.Udp v s xs) (segment_sum_by protocol.Udp v s ys) (sum-fits protocol.Udp v s ys) (a.same (λ is. some)) positive
          (sym (ap (λ l. sum_of_bytes (with_pseudo_header (addr_of Source v xs) (addr_of Destination v xs) protocol.Udp l)) old.packet ∙ pseudo-sum protocol.Udp v s xs) ∙ valid),
    )

valid-plain : (q : IpProtocol) (v : IpVersion) (s : Segment) (xs ys : List ℕ)
    → sum_of_bytes (with_pseudo_header (src_of v ys) (dst_of v ys) q (segment_bytes s ys)) % 65535 ≡ sum_of_bytes (with_pseudo_header (src_of v xs) (dst_of v xs) q (segment_bytes s xs)) % 65535
    → 0 < sum_of_bytes (with_pseudo_header (src_of v ys) (dst_of v ys) q (segment_bytes s ys))
    → sum_of_bytes (with_pseudo_header (addr_of Source v xs) (addr_of Destination v xs) q (segment_bytes s xs)) ≡ 65535
    → sum_of_bytes (with_pseudo_header (addr_of Source v ys) (addr_of Destination v ys) q (segment_bytes s ys)) ≡ 65535
valid-plain q v s xs ys same positive valid =
    pseudo-sum q v s ys
    ∙ full (sum_of_bytes (with_pseudo_header (src_of v xs) (dst_of v xs) q (segment_bytes s xs))) (sum_of_bytes (with_pseudo_header (src_of v ys) (dst_of v ys) q (segment_bytes s ys)))
    (residue-bound (sum (words (with_pseudo_header (src_of v ys) (dst_of v ys) q (segment_bytes s ys))))) same positive (sym (pseudo-sum q v s xs) ∙ valid)

valid-by : (q : IpProtocol) (v : IpVersion) (s : Segment) (xs ys : List ℕ) → Alike q v s xs ys → (q ≡ protocol.Udp → UdpFields s xs × UdpFields s ys) → 0 < segment_sum_by q v s ys
    → HasChecksumBy q (addr_of Source v xs) (addr_of Destination v xs) (segment_bytes s xs) → HasChecksumBy q (addr_of Source v ys) (addr_of Destination v ys) (segment_bytes s ys)
valid-by protocol.Udp v s xs ys a fields positive valid = let f = fields refl in valid-udp v s xs ys a f.0 f.1 positive valid
valid-by protocol.Icmp v s xs ys a fields positive valid =
    full (sum_of_bytes (segment_bytes s xs)) (sum_of_bytes (segment_bytes s ys)) (sum-fits protocol.Icmp v s ys) (a.same (λ is. absurd (cc))) positive valid
valid-by q v s xs ys a fields positive valid = valid-plain q v s xs ys (a.same (λ is. absurd (cc))) positive valid

-- a valid checksum stays valid in a frame like it
pub transport-valid : (p : Places) (s : Segment) (xs ys : List ℕ) → Holds p xs → Holds p ys → p.carried ≡ carried.Segment s → Tells xs p → Tells ys p → AreBytes xs → AreBytes ys
    → Alike s.protocol p.version s xs ys → (s.protocol ≡ protocol.Icmp → 0 < sum_of_bytes (segment_bytes s ys)) → HasTransportChecksum p.version s xs → HasTransportChecksum p.version s ys
transport-valid p s xs ys h k is old new are now a some valid =
    let v = p.version in
    let four = is_ipv4 v in
    let before = subst (Carries four xs) is old.carries in
    let after = subst (Carries four ys) is new.carries in
    let f = in-frame p s xs h is in
    let g = in-frame p s ys k is in
    valid-by s.protocol v s xs ys a (λ udp. (udp-fields v s xs f are udp (before.1 udp), udp-fields v s ys g now udp (after.1 udp))) (sum-some s.protocol four v s ys g after.0 some) valid

-- ---- a checksum that is not left to the device

not-true : (b : Bool) → (b ≡ true → ⊥) → b ≡ false
not-true true never = absurd (never refl)
not-true false never = refl

pseudo-positive : (v : IpVersion) (s : Segment) (xs : List ℕ) → InFrame v s xs → can_be_left s.protocol ≡ true → 0 < pseudo_header_sum v s xs
pseudo-positive v s xs f left =
    let t = sum_over xs (addresses_start v) (addresses_end v) + (number_of s.protocol + (s.end - s.start) % 65536) in
    omega (arith, pseudo-is v s xs (omega (arith, f.starts, f.least, f.inside)), residue-least t (omega (arith, number-some s.protocol left)))

looks-wrong : (v : IpVersion) (s : Segment) (xs : List ℕ) → looks_left v s xs ≡ true → segment_sum v s xs ≡ 65535 → ⊥
looks-wrong v s xs h full = parts s.is_whole (can_be_left s.protocol) (word_at xs (checksum_place s) == pseudo_header_sum v s xs) (segment_sum v s xs) h full
  where
    parts : (a b d : Bool) (n : ℕ) → (a && b && d && not (n == 65535)) ≡ true → n ≡ 65535 → ⊥
    parts a b d n h full = grind (arith, nat_tests)

-- a valid checksum does not look left
pub not-left : (o : Offload) (v : IpVersion) (s : Segment) (xs : List ℕ) → InFrame v s xs → (o ≡ offload.Offloaded → can_be_left s.protocol ≡ false)
    → (segment_sum v s xs ≡ 65535) ⊎ (word_at xs (checksum_place s) ≡ 0) → is_left o v s xs ≡ false
not-left offload.Complete v s xs f told valid = refl
not-left offload.Offloaded v s xs f told valid = told refl
not-left offload.Guess v s xs f told (inl full) = not-true (looks_left v s xs) (λ left. looks-wrong v s xs left full)
not-left offload.Guess v s xs f told (inr none) =
    not-true (looks_left v s xs)
    (λ left. omega (arith, looks-partial v s xs left, none, pseudo-positive v s xs f (left-protocol offload.Guess v s xs left)))

sum-or-none : (q : IpProtocol) (v : IpVersion) (s : Segment) (xs : List ℕ) → (q ≡ protocol.Udp → UdpFields s xs)
    → HasChecksumBy q (addr_of Source v xs) (addr_of Destination v xs) (segment_bytes s xs) → (segment_sum_by q v s xs ≡ 65535) ⊎ (word_at xs (checksum_place s) ≡ 0)
sum-or-none protocol.Udp v s xs fields (inl (none, four)) = inr (sym (fields refl).checksum ∙ none)
sum-or-none protocol.Udp v s xs fields (inr (other, valid)) =
    inl (sym (ap (λ l. sum_of_bytes (with_pseudo_header (addr_of Source v xs) (addr_of Destination v xs) protocol.Udp l)) (fields refl).packet ∙ pseudo-sum protocol.Udp v s xs) ∙ valid)
sum-or-none protocol.Icmp v s xs fields valid = inl valid
sum-or-none q v s xs fields valid = inl (sym (pseudo-sum q v s xs) ∙ valid)

pub valid-not-left : (o : Offload) (p : Places) (s : Segment) (xs : List ℕ) → Holds p xs → p.carried ≡ carried.Segment s → Tells xs p → AreBytes xs
    → (o ≡ offload.Offloaded → can_be_left s.protocol ≡ false) → HasTransportChecksum p.version s xs → is_left o p.version s xs ≡ false
valid-not-left o p s xs h is old are told valid =
    let f = in-frame p s xs h is in
    let before = subst (Carries (is_ipv4 p.version) xs) is old.carries in
    not-left o p.version s xs f told (sum-or-none s.protocol p.version s xs (λ udp. udp-fields p.version s xs f are udp (before.1 udp)) valid)

-- ---- an edit

-- the checksum field of UDP after an edit
abbrev udp_field : IpVersion → Segment → List ℕ → List ℕ → ℕ → ℕ
udp_field v s xs bytes at = second_field updated_udp s.start s.end (first_field updated_udp v (word_at xs (checksum_place s)) xs bytes at) xs bytes at

none-over : (field first last at : ℕ) (before after : List ℕ) → field ≡ 0 → updated_over updated_udp field first last at before after ≡ 0
none-over field first last at before after none =
    ap (λ k. updated_over updated_udp k first last at before after) none ∙ choice (nat_lt (max at first) (min (at + length after) last))
  where
    choice : (b : Bool) → ◌≡◌ {A = ℕ} (if b then 0 else 0) 0
    choice true = refl
    choice false = refl

udp-word : (o : Offload) (p : Places) (s : Segment) (xs bytes : List ℕ) (at : ℕ) → Holds p xs → p.carried ≡ carried.Segment s → AreBytes xs → at + length bytes ≤ length xs
    → is_left o p.version s xs ≡ false → s.protocol ≡ protocol.Udp → word_at (edited o p xs at bytes) (checksum_place s) ≡ udp_field p.version s xs bytes at
udp-word o p s xs bytes at h is are room here udp =
    let v = p.version in
    let c = checksum_place s in
    let f = in-frame p s xs h is in
    let n = header_checksum v p.start xs at bytes in
    let new = written xs at bytes in
    let before = slice_range xs at (at + length bytes) in
    let one = first_field updated_udp v (word_at xs c) xs bytes at in
    let small = updated-fits updated_udp (word_at xs c) (addresses_start v) (addresses_end v) at before bytes (word-fits xs c are) (udp-fits (word_at xs c)) in
    let fits = updated-fits updated_udp one s.start s.end at before bytes small (udp-fits one) in
    let long = written-length xs bytes at room in
    let least = least-end v in
    let whole = header-length v new n (omega (arith, long, least, f.starts, f.least, f.inside)) in
    ap (λ l. word_at l c) (edited-is o p s xs bytes at is here) ∙ ap (λ q. word_at (made v c xs bytes at n (field_by q v s c xs bytes at)) c) udp
    ∙ word-written (with_header_checksum v new n) c (udp_field v s xs bytes at) (omega (arith, whole, long, f.least, f.inside)) fits

pub alike : (o : Offload) (p : Places) (s : Segment) (xs bytes : List ℕ) (at : ℕ) → Holds p xs → p.carried ≡ carried.Segment s → AreBytes xs → at + length bytes ≤ length xs
    → IsApart at (length bytes) (checksum_place s) (checksum_place s + 2) → is_left o p.version s xs ≡ false → Alike s.protocol p.version s xs (edited o p xs at bytes)
alike o p s xs bytes at h is are room apart here =
    let v = p.version in
    let before = slice_range xs at (at + length bytes) in
    let field = word_at xs (checksum_place s) in
    let one = first_field updated_udp v field xs bytes at in
    let word = udp-word o p s xs bytes at h is are room here in
    record {
      same = λ some. segment-stays o p s xs bytes at h is are room apart here some;
      none = λ udp zero.
          word udp
          ∙ none-over one s.start s.end at before bytes (none-over field (addresses_start v) (addresses_end v) at before bytes zero);
      some = λ udp other zero.
          udp-stays one s.start s.end at before bytes (udp-stays field (addresses_start v) (addresses_end v) at before bytes other) (sym (word udp) ∙ zero);
    }
