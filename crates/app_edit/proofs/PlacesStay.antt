-- An edit keeps the places in a frame, and each byte but those that it writes and the checksums.
use Rattle.std.proofs.Common.{ℕ, ◌≡◌, ◌∙◌, ◌+◌, ◌/◌, ◌≤◌, ◌<◌, ◌&&◌, Bool, List, [], ◌∷◌, Some, ap, ap₂, arith, false, if◌then◌else◌, get_or, inl, inr, length, refl, slice_index, slice_range, subst, sym, true}
use Rattle.std.proofs.lemmas.Bool.{cases_lt}
use Rattle.std.proofs.lemmas.Bool.Decides.{nat_tests}
use Rattle.std.proofs.lemmas.List.{get_or-drop}
use Rattle.byteorder.specs.Endian.{big_bytes}
use Rattle.ip_wire.proofs.Cells.{cells-all}
use Rattle.ip_wire.proofs.Readings.{if-Some}
use Rattle.ip_wire.proofs.Spelled.{AreBytes}
use Rattle.ip_wire.specs.IpAddress.{IsAddress, address_bytes}
use Rattle.ip_wire.specs.Types.{IpAddress, IpProtocol, IpVersion}
use Rattle.ip_wire.specs.declared.IpAddress.TheVariants as address
use Rattle.ip_wire.specs.declared.IpProtocol.TheVariants as protocol
use Rattle.ip_wire.specs.declared.IpVersion.TheVariants as version
use Rattle.app_edit.proofs.Located.{Locates, Same, SameFirst, places-same}
use Rattle.app_edit.proofs.Stays.{header-length, least-end}
use Rattle.app_edit.proofs.Sums.{word-is}
use Rattle.app_edit.proofs.Totals.{index-inside, index-outside, range-index, range-length, written-length}
use Rattle.app_edit.specs.Edited.{address_place, allows, can_be_left, edited, has_version, header_checksum, hop_limit_place, is_apart, keeps_carried, keeps_header, port_place, takes_address, takes_by, transport_checksum, with_dscp, with_header_checksum, with_transport_checksum, written}
use Rattle.app_edit.specs.Offsets.{ipv4_protocol, ipv6_src}
use Rattle.app_edit.specs.Outside.{IsOutside, OutsideHeaderChecksum, OutsideTransportChecksum}
use Rattle.app_edit.specs.Places.{Holds, HoldsCarried, addresses_end, addresses_start, checksum_offset, checksum_place, datagram_at, is_ipv4, places_of}
use Rattle.app_edit.specs.declared.places.Carried.{Carried}
use Rattle.app_edit.specs.declared.places.Carried.TheVariants as carried
use Rattle.app_edit.specs.declared.places.Places.{Places}
use Rattle.app_edit.specs.declared.replace.Offload.{Offload}
use Rattle.app_edit.specs.declared.side.Side.{Side}
use Rattle.app_edit.specs.declared.side.Side.TheVariants.{Source, Destination}

-- ---- bytes outside of the checksums

header-byte : (v : IpVersion) (xs : List ℕ) (n i : ℕ) → 26 ≤ length xs → OutsideHeaderChecksum v i → slice_index (with_header_checksum v xs n) i ≡ slice_index xs i
header-byte version.Ipv4 xs n i room out = index-outside xs (big_bytes 2 n) 24 i room out
header-byte version.Ipv6 xs n i room out = refl

carried-byte : (c : Carried) (v : IpVersion) (xs ys : List ℕ) (start n i : ℕ) → length ys ≡ length xs → HoldsCarried c v start xs → OutsideTransportChecksum c i
    → slice_index (with_transport_checksum c ys n) i ≡ slice_index ys i
carried-byte (carried.Segment s) v xs ys start n i long h out = index-outside ys (big_bytes 2 n) (checksum_place s) i (omega (arith, long, h.0.least, h.0.inside)) out
carried-byte c v xs ys start n i long h out = refl

carried-length : (c : Carried) (v : IpVersion) (xs ys : List ℕ) (start n : ℕ) → length ys ≡ length xs → HoldsCarried c v start xs
    → length (with_transport_checksum c ys n) ≡ length ys
carried-length (carried.Segment s) v xs ys start n long h = written-length ys (big_bytes 2 n) (checksum_place s) (omega (arith, long, h.0.least, h.0.inside))
carried-length c v xs ys start n long h = refl

-- the bytes of an edited frame outside of the checksums are those of the frame with the bytes alone
written-byte : (o : Offload) (p : Places) (xs bytes : List ℕ) (at i : ℕ) → Holds p xs → at + length bytes ≤ length xs → OutsideHeaderChecksum p.version i
    → OutsideTransportChecksum p.carried i → slice_index (edited o p xs at bytes) i ≡ slice_index (written xs at bytes) i
written-byte o p xs bytes at i h room header transport =
    let new = written xs at bytes in
    let n = header_checksum p.version p.start xs at bytes in
    let long = written-length xs bytes at room in
    let fits : 26 ≤ length new = omega (arith, long, least-end p.version, h.header, h.inside, h.whole) in
    carried-byte p.carried p.version xs (with_header_checksum p.version new n) p.start (transport_checksum o p.carried p.version xs at bytes) i
    (header-length p.version new n fits ∙ long) h.carried transport
    ∙ header-byte p.version new n i fits header

pub edited-byte : (o : Offload) (p : Places) (xs bytes : List ℕ) (at i : ℕ) → Holds p xs → at + length bytes ≤ length xs → IsOutside at (at + length bytes) i
    → OutsideHeaderChecksum p.version i → OutsideTransportChecksum p.carried i → slice_index (edited o p xs at bytes) i ≡ slice_index xs i
edited-byte o p xs bytes at i h room out header transport = written-byte o p xs bytes at i h room header transport ∙ index-outside xs bytes at i room out

pub edited-inside : (o : Offload) (p : Places) (xs bytes : List ℕ) (at i : ℕ) → Holds p xs → at + length bytes ≤ length xs → i < length bytes
    → OutsideHeaderChecksum p.version (at + i) → OutsideTransportChecksum p.carried (at + i) → slice_index (edited o p xs at bytes) (at + i) ≡ get_or bytes i 0
edited-inside o p xs bytes at i h room inside header transport = written-byte o p xs bytes at (at + i) h room header transport ∙ index-inside xs bytes at i room inside

pub edited-length : (o : Offload) (p : Places) (xs bytes : List ℕ) (at : ℕ) → Holds p xs → at + length bytes ≤ length xs → length (edited o p xs at bytes) ≡ length xs
edited-length o p xs bytes at h room =
    let new = written xs at bytes in
    let n = header_checksum p.version p.start xs at bytes in
    let long = written-length xs bytes at room in
    let fits : 26 ≤ length new = omega (arith, long, least-end p.version, h.header, h.inside, h.whole) in
    let head = header-length p.version new n fits ∙ long in
    carried-length p.carried p.version xs (with_header_checksum p.version new n) p.start (transport_checksum o p.carried p.version xs at bytes) head h.carried ∙ head

-- ---- bytes before and after the checksums

pub header-before : (v : IpVersion) (i : ℕ) → i < 24 → OutsideHeaderChecksum v i
header-before version.Ipv4 i low = inl low
header-before version.Ipv6 i low = tt

pub header-after : (v : IpVersion) (i : ℕ) → 26 ≤ i → OutsideHeaderChecksum v i
header-after version.Ipv4 i high = inr high
header-after version.Ipv6 i high = tt

pub carried-before : (c : Carried) (v : IpVersion) (xs : List ℕ) (start i : ℕ) → HoldsCarried c v start xs → i < start → OutsideTransportChecksum c i
carried-before (carried.Segment s) v xs start i h low = inl (omega (arith, low, h.1))
carried-before c v xs start i h low = tt

-- ---- bytes that locate the parts of the packet

located-header : (v : IpVersion) (start i : ℕ) → Locates v start i → OutsideHeaderChecksum v i
located-header version.Ipv4 start i (inl (a, b)) = inl (omega (arith, b))
located-header version.Ipv4 start i (inr is) = inl (omega (arith, is))
located-header version.Ipv6 start i located = tt

located-start : (v : IpVersion) (start i : ℕ) → addresses_end v ≤ start → Locates v start i → i < start
located-start version.Ipv4 start i after (inl (a, b)) = omega (arith, after, b)
located-start version.Ipv4 start i after (inr is) = omega (arith, after, is)
located-start version.Ipv6 start i after (inl (a, b)) = omega (arith, after, b)
located-start version.Ipv6 start i after (inr (a, b)) = b

same-first : (v : IpVersion) (old new : ℕ) → new ≡ old → SameFirst v old new
same-first version.Ipv4 old new is = is
same-first version.Ipv6 old new is = ap (λ n. n / 16) is

-- the length field of UDP is before its checksum
datagram-outside : (b : Bool) (start end i : ℕ) (whole : Bool) → i < start + 6
    → OutsideTransportChecksum (if b then carried.Hidden else carried.Segment (record { protocol = protocol.Udp; start = start; end = end; is_whole = whole })) i
datagram-outside true start end i whole low = tt
datagram-outside false start end i whole low = inl low

-- An edit beside the bytes that locate the parts. That of the first byte of the IP header keeps what it says.
same-of : (o : Offload) (p : Places) (xs bytes : List ℕ) (at : ℕ) → Holds p xs → at + length bytes ≤ length xs
    → SameFirst p.version (slice_index xs 14) (slice_index (edited o p xs at bytes) 14)
    → ((k : ℕ) → k < 14 → IsOutside at (at + length bytes) k)
    → ((k : ℕ) → Locates p.version p.start k → IsOutside at (at + length bytes) k)
    → (p.version ≡ version.Ipv6 → p.carried ≡ carried.Hidden → (k : ℕ) → 54 ≤ k → k < p.end → IsOutside at (at + length bytes) k)
    → ((whole : Bool) (k : ℕ) → p.carried ≡ datagram_at xs p.start p.end whole → p.start + 8 ≤ p.end → p.start + 4 ≤ k → k < p.start + 6 → IsOutside at (at + length bytes) k)
    → Same p xs (edited o p xs at bytes)
same-of o p xs bytes at h room first link header hidden datagram = record {
  long = edited-length o p xs bytes at h room;
  first = first;
  link = λ k low.
      edited-byte o p xs bytes at k h room (link k low) (header-before p.version k (omega (arith, low)))
      (carried-before p.carried p.version xs p.start k h.carried (omega (arith, low, h.header, least)));
  header = λ k located.
      edited-byte o p xs bytes at k h room (header k located) (located-header p.version p.start k located)
      (carried-before p.carried p.version xs p.start k h.carried (located-start p.version p.start k h.header located));
  hidden = λ six is k from to.
      edited-byte o p xs bytes at k h room (hidden six is k from to) (header-after p.version k (omega (arith, from)))
      (subst (λ (c : Carried). OutsideTransportChecksum c k) (sym is) tt);
  datagram = λ whole is fits.
      let byte : (k : ℕ) → p.start + 4 ≤ k → k < p.start + 6 → slice_index (edited o p xs at bytes) k ≡ slice_index xs k =
      λ k a b.
      edited-byte o p xs bytes at k h room (datagram whole k is fits a b) (header-after p.version k (omega (arith, a, h.header, least)))
      (subst (λ (c : Carried). OutsideTransportChecksum c k) (sym is) (datagram-outside _ p.start _ k _ b))
      in
      let high = byte (p.start + 4) (omega arith) (omega arith) in
      let low = byte (p.start + 4 + 1) (omega arith) (omega arith) in
      omega (arith, word-is (edited o p xs at bytes) (p.start + 4), word-is xs (p.start + 4), high, low);
}
  where
    least : 34 ≤ addresses_end p.version
    least = least-end p.version

-- ---- edits that may be made

link-apart : (v : IpVersion) (start at n k : ℕ) → keeps_header v start at (at + n) ≡ true → k < 15 → IsOutside at (at + n) k
link-apart version.Ipv4 start at n k allowed low = grind (arith, nat_tests)
link-apart version.Ipv6 start at n k allowed low = grind (arith, nat_tests)

locates-apart : (v : IpVersion) (start at n k : ℕ) → keeps_header v start at (at + n) ≡ true → Locates v start k → IsOutside at (at + n) k
locates-apart version.Ipv4 start at n k allowed (inl (a, b)) = grind (arith, nat_tests)
locates-apart version.Ipv4 start at n k allowed (inr is) = grind (arith, nat_tests)
locates-apart version.Ipv6 start at n k allowed (inl (a, b)) = grind (arith, nat_tests)
locates-apart version.Ipv6 start at n k allowed (inr (a, b)) = grind (arith, nat_tests)

hidden-apart : (four : Bool) (at n start end k : ℕ) → is_apart at (at + n) (if four then ipv4_protocol else ipv6_src) end ≡ true → 34 ≤ start → start + 8 ≤ end
    → start + 4 ≤ k → k < start + 6 → IsOutside at (at + n) k
hidden-apart true at n start end k allowed least fits a b = grind (arith, nat_tests)
hidden-apart false at n start end k allowed least fits a b = grind (arith, nat_tests)

-- the edit is beside a packet that is hidden
packet-apart : (four : Bool) (at n end k : ℕ) → is_apart at (at + n) (if four then ipv4_protocol else ipv6_src) end ≡ true → 54 ≤ k → k < end → IsOutside at (at + n) k
packet-apart true at n end k allowed from to = grind (arith, nat_tests)
packet-apart false at n end k allowed from to = grind (arith, nat_tests)

length-apart : (at n start k : ℕ) → is_apart at (at + n) (start + 4) (start + 6 + 2) ≡ true → start + 4 ≤ k → k < start + 6 → IsOutside at (at + n) k
length-apart at n start k allowed a b = grind (arith, nat_tests)

datagram-apart : (b : Bool) (p : Places) (end : ℕ) (whole : Bool) (at n k : ℕ)
    → keeps_carried (if b then carried.Hidden else carried.Segment (record { protocol = protocol.Udp; start = p.start; end = end; is_whole = whole })) p at (at + n) ≡ true
    → 34 ≤ p.start → p.start + 8 ≤ p.end → p.start + 4 ≤ k → k < p.start + 6 → IsOutside at (at + n) k
datagram-apart true p end whole at n k allowed least fits a b = hidden-apart (is_ipv4 p.version) at n p.start p.end k allowed least fits a b
datagram-apart false p end whole at n k allowed least fits a b = length-apart at n p.start k allowed a b

pub both-true : (a b : Bool) → a && b ≡ true → (a ≡ true) × (b ≡ true)
both-true true b both = (refl, both)
both-true false b both = absurd (cc)

-- an edit of bytes that set_bytes may replace
pub places-stay : (o : Offload) (p : Places) (xs bytes : List ℕ) (at : ℕ) → Holds p xs → places_of xs ≡ Some p → at + length bytes ≤ length xs
    → allows p at (at + length bytes) ≡ true → places_of (edited o p xs at bytes) ≡ Some p
places-stay o p xs bytes at h is room allowed =
    let n = length bytes in
    let both = both-true (keeps_header p.version p.start at (at + n)) (keeps_carried p.carried p at (at + n)) allowed in
    let least = least-end p.version in
    let first = edited-byte o p xs bytes at 14 h room (link-apart p.version p.start at n 14 both.0 (omega arith)) (header-before p.version 14 (omega arith))
    (carried-before p.carried p.version xs p.start 14 h.carried (omega (arith, h.header, least)))
    in
    places-same xs (edited o p xs at bytes) p is
    (same-of o p xs bytes at h room (same-first p.version (slice_index xs 14) (slice_index (edited o p xs at bytes) 14) first)
    (λ k low. link-apart p.version p.start at n k both.0 (omega (arith, low))) (λ k located. locates-apart p.version p.start at n k both.0 located)
    (λ six hides k from to.
    packet-apart (is_ipv4 p.version) at n p.end k (subst (λ (c : Carried). keeps_carried c p at (at + n) ≡ true) hides both.1) from to)
    (λ whole k carries fits a b.
    datagram-apart _ p _ _ at n k (subst (λ (c : Carried). keeps_carried c p at (at + n) ≡ true) carries both.1) (omega (arith, h.header, least)) fits a b))

-- an edit of a field of the IP header after its first byte
pub header-places : (o : Offload) (p : Places) (xs bytes : List ℕ) (at : ℕ) → Holds p xs → places_of xs ≡ Some p → 15 ≤ at → at + length bytes ≤ p.start
    → ((k : ℕ) → Locates p.version p.start k → IsOutside at (at + length bytes) k) → places_of (edited o p xs at bytes) ≡ Some p
header-places o p xs bytes at h is after before apart =
    let least = least-end p.version in
    let room : at + length bytes ≤ length xs = omega (arith, before, h.inside, h.whole) in
    let first = edited-byte o p xs bytes at 14 h room (inl (omega (arith, after))) (header-before p.version 14 (omega arith))
    (carried-before p.carried p.version xs p.start 14 h.carried (omega (arith, h.header, least)))
    in
    places-same xs (edited o p xs at bytes) p is
    (same-of o p xs bytes at h room (same-first p.version (slice_index xs 14) (slice_index (edited o p xs at bytes) 14) first)
    (λ k low. inl (omega (arith, low, after))) apart (λ six hides k from to. beside six k from) (λ whole k carries fits a b. inr (omega (arith, before, a))))
  where
    beside : p.version ≡ version.Ipv6 → (k : ℕ) → 54 ≤ k → IsOutside at (at + length bytes) k
    beside six k from = elim (cases_lt k p.start) [
      | inl low ↦ apart k (subst (λ (v : IpVersion). Locates v p.start k) (sym six) (inr (from, low)))
      | inr high ↦ inr (omega (arith, before, high))
    ]

-- an edit of the first four bytes of a transport header
pub ports-places : (o : Offload) (p : Places) (xs bytes : List ℕ) (at : ℕ) → Holds p xs → places_of xs ≡ Some p → at + length bytes ≤ length xs → p.start ≤ at
    → at + length bytes ≤ p.start + 4 → (p.version ≡ version.Ipv6 → p.carried ≡ carried.Hidden → (k : ℕ) → 54 ≤ k → k < p.end → IsOutside at (at + length bytes) k) → places_of (edited o p xs at bytes) ≡ Some p
ports-places o p xs bytes at h is room after before hidden =
    let least = least-end p.version in
    let first = edited-byte o p xs bytes at 14 h room (inl (omega (arith, after, h.header, least))) (header-before p.version 14 (omega arith))
    (carried-before p.carried p.version xs p.start 14 h.carried (omega (arith, h.header, least)))
    in
    places-same xs (edited o p xs at bytes) p is
    (same-of o p xs bytes at h room (same-first p.version (slice_index xs 14) (slice_index (edited o p xs at bytes) 14) first)
    (λ k low. inl (omega (arith, low, after, h.header, least))) (λ k located. inl (omega (arith, after, located-start p.version p.start k h.header located))) hidden
    (λ whole k carries fits a b. inr (omega (arith, before, a))))

-- the hop limit
hop_limit-apart : (v : IpVersion) (start k : ℕ) → Locates v start k → IsOutside (hop_limit_place v) (hop_limit_place v + 1) k
hop_limit-apart version.Ipv4 start k (inl (a, b)) = inl b
hop_limit-apart version.Ipv4 start k (inr is) = inr (omega (arith, is))
hop_limit-apart version.Ipv6 start k (inl (a, b)) = inl b
hop_limit-apart version.Ipv6 start k (inr (a, b)) = inr (omega (arith, a))

pub hop_limit-in : (v : IpVersion) → (15 ≤ hop_limit_place v) × (hop_limit_place v + 1 ≤ addresses_end v)
hop_limit-in version.Ipv4 = (omega arith, omega arith)
hop_limit-in version.Ipv6 = (omega arith, omega arith)

pub hop_limit-places : (o : Offload) (p : Places) (xs : List ℕ) (n : ℕ) → Holds p xs → places_of xs ≡ Some p
    → places_of (edited o p xs (hop_limit_place p.version) (n ∷ [])) ≡ Some p
hop_limit-places o p xs n h is =
    let within = hop_limit-in p.version in
    header-places o p xs (n ∷ []) (hop_limit_place p.version) h is within.0 (omega (arith, within.1, h.header)) (hop_limit-apart p.version p.start)

-- a port
pub port-in : (side : Side) (c : Carried) (v : IpVersion) (xs : List ℕ) (start at : ℕ) → HoldsCarried c v start xs → port_place side c ≡ Some at → (start ≤ at) × (at + 2 ≤ start + 4)
port-in Source (carried.Segment s) v xs start at h is =
    let e = ((if-Some (can_be_left s.protocol) s.start at).0 is).1 in (omega (arith, e, h.1), omega (arith, e, h.1))
port-in Destination (carried.Segment s) v xs start at h is =
    let e = ((if-Some (can_be_left s.protocol) (s.start + 2) at).0 is).1 in (omega (arith, e, h.1), omega (arith, e, h.1))
port-in Source c v xs start at h is = absurd (cc)
port-in Destination c v xs start at h is = absurd (cc)

offset-least : (q : IpProtocol) → 2 ≤ checksum_offset q
offset-least protocol.Tcp = omega arith
offset-least protocol.Udp = omega arith
offset-least q = omega arith

pub port-room : (side : Side) (c : Carried) (v : IpVersion) (xs : List ℕ) (start at : ℕ) → HoldsCarried c v start xs → port_place side c ≡ Some at → start + 4 ≤ length xs
port-room side (carried.Segment s) v xs start at h is = omega (arith, h.0.least, h.0.inside, h.1, offset-least s.protocol)
port-room Source c v xs start at h is = absurd (cc)
port-room Destination c v xs start at h is = absurd (cc)

port-shown : {B : Type 0} (side : Side) (at : ℕ) → port_place side carried.Hidden ≡ Some at → B
port-shown Source at is = absurd (cc)
port-shown Destination at is = absurd (cc)

pub port-places : (o : Offload) (p : Places) (xs : List ℕ) (side : Side) (at n : ℕ) → Holds p xs → places_of xs ≡ Some p → port_place side p.carried ≡ Some at
    → places_of (edited o p xs at (big_bytes 2 n)) ≡ Some p
port-places o p xs side at n h is here =
    let within = port-in side p.carried p.version xs p.start at h.carried here in
    let room = port-room side p.carried p.version xs p.start at h.carried here in
    ports-places o p xs (big_bytes 2 n) at h is (omega (arith, within.1, room)) within.0 (omega (arith, within.1))
    (λ six hides k from to. port-shown side at (subst (λ (c : Carried). port_place side c ≡ Some at) hides here))

-- the DSCP
first-same : (v : IpVersion) (x y n : ℕ) → x < 256 → y < 256 → SameFirst v x (get_or (with_dscp v (x ∷ y ∷ []) n) 0 0)
first-same version.Ipv4 x y n a b = refl
first-same version.Ipv6 x y n a b = omega (arith, a, b)

pub dscp-length : (v : IpVersion) (x y n : ℕ) → length (with_dscp v (x ∷ y ∷ []) n) ≡ 2
dscp-length version.Ipv4 x y n = refl
dscp-length version.Ipv6 x y n = refl

dscp-apart : (v : IpVersion) (start k : ℕ) → Locates v start k → 16 ≤ k
dscp-apart version.Ipv4 start k (inl (a, b)) = a
dscp-apart version.Ipv4 start k (inr is) = omega (arith, is)
dscp-apart version.Ipv6 start k (inl (a, b)) = omega (arith, a)
dscp-apart version.Ipv6 start k (inr (a, b)) = omega (arith, a)

-- the first two bytes of an IP header
pub two-bytes : (xs : List ℕ) → 16 ≤ length xs → slice_range xs 14 16 ≡ slice_index xs 14 ∷ slice_index xs 15 ∷ []
two-bytes xs room =
    cells-all 2 (slice_range xs 14 16) (range-length xs 14 16 (omega arith) room)
    ∙ ap₂ (λ (a b : ℕ). a ∷ b ∷ []) (range-index xs 14 16 0 (omega arith)) (get_or-drop 1 (slice_range xs 14 16) 0 0 ∙ range-index xs 14 16 1 (omega arith))

pub dscp-places : (o : Offload) (p : Places) (xs : List ℕ) (n : ℕ) → Holds p xs → places_of xs ≡ Some p → AreBytes xs
    → places_of (edited o p xs 14 (with_dscp p.version (slice_range xs 14 16) n)) ≡ Some p
dscp-places o p xs n h is are =
    let v = p.version in
    let x = slice_index xs 14 in
    let y = slice_index xs 15 in
    let least = least-end v in
    let whole : 16 ≤ length xs = omega (arith, least, h.header, h.inside, h.whole) in
    subst (λ (l : List ℕ). places_of (edited o p xs 14 (with_dscp v l n)) ≡ Some p) (sym (two-bytes xs whole))
    (let bytes = with_dscp v (x ∷ y ∷ []) n in
    let long = dscp-length v x y n in
    let room : 14 + length bytes ≤ length xs = omega (arith, long, whole) in
    let first : slice_index (edited o p xs 14 bytes) 14 ≡ get_or bytes 0 0 =
    edited-inside o p xs bytes 14 0 h room (omega (arith, long)) (header-before v 14 (omega arith)) (carried-before p.carried v xs p.start 14 h.carried (omega (arith, h.header, least)))
    in
    places-same xs (edited o p xs 14 bytes) p is
    (same-of o p xs bytes 14 h room (subst (SameFirst v x) (sym first) (first-same v x y n (are 14) (are 15))) (λ k low. inl low)
    (λ k located. inr (omega (arith, long, dscp-apart v p.start k located))) (λ six hides k from to. inr (omega (arith, long, from)))
    (λ whole k carries fits a b. inr (omega (arith, long, a, h.header, least)))))

-- an address
pub address-least : (side : Side) (v : IpVersion) → (15 ≤ address_place side v) × (addresses_start v ≤ address_place side v)
address-least Source version.Ipv4 = (omega arith, omega arith)
address-least Source version.Ipv6 = (omega arith, omega arith)
address-least Destination version.Ipv4 = (omega arith, omega arith)
address-least Destination version.Ipv6 = (omega arith, omega arith)

address-apart : (v : IpVersion) (start at n k : ℕ) → addresses_start v ≤ at → at + n ≤ addresses_end v → Locates v start k → IsOutside at (at + n) k
address-apart version.Ipv4 start at n k low high (inl (a, b)) = inl (omega (arith, low, b))
address-apart version.Ipv4 start at n k low high (inr is) = inl (omega (arith, low, is))
address-apart version.Ipv6 start at n k low high (inl (a, b)) = inl (omega (arith, low, b))
address-apart version.Ipv6 start at n k low high (inr (a, b)) = inr (omega (arith, high, a))

-- an address of the version of the packet ends where the addresses end, or before
pub address-end : (side : Side) (v : IpVersion) (a : IpAddress) → has_version v a ≡ true → IsAddress a → address_place side v + length (address_bytes a) ≤ addresses_end v
address-end Source version.Ipv4 (address.Ipv4 b) has is = omega (arith, is.0)
address-end Source version.Ipv6 (address.Ipv6 b) has is = omega (arith, is.0)
address-end Destination version.Ipv4 (address.Ipv4 b) has is = omega (arith, is.0)
address-end Destination version.Ipv6 (address.Ipv6 b) has is = omega (arith, is.0)
address-end side version.Ipv4 (address.Ipv6 b) has is = absurd (cc)
address-end side version.Ipv6 (address.Ipv4 b) has is = absurd (cc)

pub takes-version : (c : Carried) (v : IpVersion) (a : IpAddress) → takes_by c v a ≡ true → has_version v a ≡ true
takes-version carried.Hidden v a takes = absurd (cc)
takes-version c v a takes = takes

pub address-places : (o : Offload) (p : Places) (xs : List ℕ) (side : Side) (a : IpAddress) → Holds p xs → places_of xs ≡ Some p → takes_address p a ≡ true → IsAddress a
    → places_of (edited o p xs (address_place side p.version) (address_bytes a)) ≡ Some p
address-places o p xs side a h is takes are =
    let v = p.version in
    let least = address-least side v in
    let last = address-end side v a (takes-version p.carried v a takes) are in
    header-places o p xs (address_bytes a) (address_place side v) h is least.0 (omega (arith, last, h.header))
    (λ k located. address-apart v p.start (address_place side v) (length (address_bytes a)) k least.1 last located)
