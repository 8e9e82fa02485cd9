-- What an edit sets is read back.
use Rattle.std.proofs.Common.{ℕ, None, add-zero, ◌≡◌, ◌≢◌, ◌∙◌, ◌⊎◌, ◌+◌, ◌/◌, ◌%◌, ◌<◌, ◌≤◌, Bool, List, [], ◌∷◌, Option, Some, ap, arith, get_or, if◌then◌else◌, inl, inr, length, nat_le, refl, slice_index, slice_range, subst, sym, take, true}
use Rattle.std.proofs.lemmas.Bool.Decides.{nat_tests}
use Rattle.std.proofs.lemmas.List.{drop-drop, ext_get_or, get_or-drop}
use Rattle.std.specs.Option.{option_and_then, option_map}
use Rattle.byteorder.specs.Endian.{big_bytes}
use Rattle.ip_wire.proofs.Spelled.{AreBytes}
use Rattle.ip_wire.specs.IpAddress.{IsAddress, address_bytes, version_of}
use Rattle.ip_wire.specs.Types.{IpAddress, IpProtocol, IpVersion}
use Rattle.ip_wire.specs.declared.IpAddress.TheVariants as address
use Rattle.ip_wire.specs.declared.IpProtocol.TheVariants as protocol
use Rattle.ip_wire.specs.declared.IpVersion.TheVariants as version
use Rattle.app_edit.proofs.Covers.{above}
use Rattle.app_edit.proofs.Kept.{in-frame}
use Rattle.app_edit.proofs.PlacesStay.{address-end, both-true, carried-before, dscp-length, edited-inside, edited-length, header-after, header-before, hop_limit-in, takes-version, two-bytes}
use Rattle.app_edit.proofs.Stays.{least-end}
use Rattle.app_edit.proofs.Sums.{IsApart}
use Rattle.app_edit.proofs.Totals.{range-index, range-length}
use Rattle.app_edit.specs.Edited.{addr_set, address_place, allows, bytes_set, can_be_left, dscp_set, edited, has_version, hop_limit_place, hop_limit_set, keeps_carried, keeps_header, keeps_segment, port_place, port_set, takes_address, takes_by, with_dscp}
use Rattle.app_edit.specs.Fields.{addr_of, dscp_of, ecn_of, hop_limit_of, port_of}
use Rattle.app_edit.specs.Outside.{IsOutside, OutsideHeaderChecksum, OutsideTransportChecksum}
use Rattle.app_edit.specs.Places.{Holds, checksum_offset, checksum_place, places_of}
use Rattle.app_edit.specs.declared.places.Carried.{Carried}
use Rattle.app_edit.specs.declared.places.Carried.TheVariants as carried
use Rattle.app_edit.specs.declared.places.Places.{Places}
use Rattle.app_edit.specs.declared.places.Segment.{Segment}
use Rattle.app_edit.specs.declared.replace.Offload.{Offload}
use Rattle.app_edit.specs.declared.replace.Offload.TheVariants as offload
use Rattle.app_edit.specs.declared.side.Side.{Side}
use Rattle.app_edit.specs.declared.side.Side.TheVariants.{Source, Destination}

-- ---- what the calls write

pub hop_limit-is : (xs : List ℕ) (n : ℕ) (p : Places) → places_of xs ≡ Some p → hop_limit_set xs n ≡ Some (edited offload.Complete p xs (hop_limit_place p.version) (n ∷ []))
unfolding hop_limit_set
hop_limit-is xs n p is = ap (option_map (λ (q : Places). edited offload.Complete q xs (hop_limit_place q.version) (n ∷ []))) is

pub dscp-is : (xs : List ℕ) (n : ℕ) (p : Places) → n ≤ 63 → places_of xs ≡ Some p
    → dscp_set xs n ≡ Some (edited offload.Complete p xs 14 (with_dscp p.version (slice_range xs 14 16) n))
unfolding dscp_set
dscp-is xs n p fits is =
    let choice : Places → List ℕ = λ q. edited offload.Complete q xs 14 (with_dscp q.version (slice_range xs 14 16) n) in
    ap (λ (b : Bool). if b then None else option_map choice (places_of xs)) (above 63 n fits) ∙ ap (option_map choice) is

pub addr-is : (o : Offload) (xs : List ℕ) (side : Side) (a : IpAddress) (p : Places) → takes_address p a ≡ true → places_of xs ≡ Some p
    → addr_set o xs side a ≡ Some (edited o p xs (address_place side p.version) (address_bytes a))
unfolding addr_set
addr-is o xs side a p takes is =
    let made : Places → List ℕ = λ q. edited o q xs (address_place side q.version) (address_bytes a) in
    ap (option_and_then (λ (q : Places). if takes_address q a then Some (made q) else None)) is ∙ ap (λ (b : Bool). if b then Some (made p) else None) takes

pub port-is : (o : Offload) (xs : List ℕ) (side : Side) (n at : ℕ) (p : Places) → port_place side p.carried ≡ Some at → places_of xs ≡ Some p
    → port_set o xs side n ≡ Some (edited o p xs at (big_bytes 2 n))
unfolding port_set
port-is o xs side n at p here is =
    ap (option_and_then (λ (q : Places). option_map (λ (k : ℕ). edited o q xs k (big_bytes 2 n)) (port_place side q.carried))) is
    ∙ ap (option_map (λ (k : ℕ). edited o p xs k (big_bytes 2 n))) here

pub bytes-is : (o : Offload) (xs : List ℕ) (at : ℕ) (bytes : List ℕ) (p : Places) → at + length bytes ≤ length xs → allows p at (at + length bytes) ≡ true → places_of xs ≡ Some p
    → bytes_set o xs at bytes ≡ Some (edited o p xs at bytes)
unfolding bytes_set
bytes-is o xs at bytes p room allowed is =
    let choice : Places → Option (List ℕ) = λ q. if allows q at (at + length bytes) then Some (edited o q xs at bytes) else None in
    ap (λ (b : Bool). if b then option_and_then choice (places_of xs) else None) (within (at + length bytes) (length xs) room)
    ∙ ap (option_and_then choice) is ∙ ap (λ (b : Bool). if b then Some (edited o p xs at bytes) else None) allowed
  where
    within : (a b : ℕ) → a ≤ b → nat_le a b ≡ true
    within a b h = grind (arith, nat_tests)

-- ---- bytes that are written beside the checksums

-- the bytes that may be replaced are apart from the checksums
pub header-apart : (v : IpVersion) (start at n : ℕ) → keeps_header v start at (at + n) ≡ true → v ≡ version.Ipv4 → IsApart at n 24 26
header-apart version.Ipv4 start at n allowed is = grind (arith, nat_tests)
header-apart version.Ipv6 start at n allowed is = absurd (cc)

segment-apart : (q : IpProtocol) (start at n : ℕ) → keeps_segment q start at (at + n) ≡ true → IsApart at n (start + checksum_offset q) (start + checksum_offset q + 2)
segment-apart protocol.Tcp start at n allowed = grind (arith, nat_tests)
segment-apart protocol.Udp start at n allowed = grind (arith, nat_tests)
segment-apart q start at n allowed = grind (arith, nat_tests)

pub transport-apart : (k : Carried) (s : Segment) (p : Places) (at n : ℕ) → keeps_carried k p at (at + n) ≡ true → k ≡ carried.Segment s
    → IsApart at n (checksum_place s) (checksum_place s + 2)
transport-apart k s p at n allowed is = segment-apart s.protocol s.start at n (subst (λ (c : Carried). keeps_carried c p at (at + n) ≡ true) is allowed)

-- a byte of bytes that are apart
inside-apart : (at n first last k : ℕ) → IsApart at n first last → at ≤ k → k < at + n → IsOutside first last k
inside-apart at n first last k (inl before) a b = inl (omega (arith, before, b))
inside-apart at n first last k (inr after) a b = inr (omega (arith, after, a))

inside-header : (v : IpVersion) (at n k : ℕ) → (v ≡ version.Ipv4 → IsApart at n 24 26) → at ≤ k → k < at + n → OutsideHeaderChecksum v k
inside-header version.Ipv4 at n k apart a b = inside-apart at n 24 26 k (apart refl) a b
inside-header version.Ipv6 at n k apart a b = tt

inside-transport : (c : Carried) (at n k : ℕ) → ((s : Segment) → c ≡ carried.Segment s → IsApart at n (checksum_place s) (checksum_place s + 2)) → at ≤ k → k < at + n
    → OutsideTransportChecksum c k
inside-transport (carried.Segment s) at n k apart a b = inside-apart at n (checksum_place s) (checksum_place s + 2) k (apart s refl) a b
inside-transport c at n k apart a b = tt

pub edited-part : (o : Offload) (p : Places) (xs bytes : List ℕ) (at : ℕ) → Holds p xs → at + length bytes ≤ length xs
    → (p.version ≡ version.Ipv4 → IsApart at (length bytes) 24 26)
    → ((s : Segment) → p.carried ≡ carried.Segment s → IsApart at (length bytes) (checksum_place s) (checksum_place s + 2))
    → slice_range (edited o p xs at bytes) at (at + length bytes) ≡ bytes
edited-part o p xs bytes at h room header transport =
    let ys = edited o p xs at bytes in
    let long : length (slice_range ys at (at + length bytes)) ≡ length bytes =
    range-length ys at (at + length bytes) (omega arith) (omega (arith, edited-length o p xs bytes at h room, room)) ∙ omega arith in
    ext_get_or 0 (slice_range ys at (at + length bytes)) bytes long (λ i within.
    let low : i < length bytes = omega (arith, within, long) in
    range-index ys at (at + length bytes) i (omega (arith, low))
    ∙ edited-inside o p xs bytes at i h room low (inside-header p.version at (length bytes) (at + i) header (omega arith) (omega (arith, low)))
    (inside-transport p.carried at (length bytes) (at + i) transport (omega arith) (omega (arith, low))))

-- ---- the hop limit

hop_limit-at : (v : IpVersion) (ys : List ℕ) (n : ℕ) → n < 256 → slice_index ys (hop_limit_place v) ≡ n → hop_limit_of v ys ≡ n
hop_limit-at version.Ipv4 ys n small is = omega (arith, get_or-drop 14 ys 8 0, is, small)
hop_limit-at version.Ipv6 ys n small is = omega (arith, get_or-drop 14 ys 7 0, is, small)

pub hop_limit-read : (p : Places) (xs : List ℕ) (n : ℕ) → Holds p xs → n < 256 → hop_limit_of p.version (edited offload.Complete p xs (hop_limit_place p.version) (n ∷ [])) ≡ n
hop_limit-read p xs n h small =
    let at = hop_limit_place p.version in
    let within = hop_limit-in p.version in
    let start : at + 1 ≤ p.start = omega (arith, within.1, h.header) in
    hop_limit-at p.version (edited offload.Complete p xs at (n ∷ [])) n small
    (ap (slice_index (edited offload.Complete p xs at (n ∷ []))) (sym (add-zero at))
    ∙ edited-inside offload.Complete p xs (n ∷ []) at 0 h (omega (arith, start, h.inside, h.whole)) (omega arith) (header-before p.version (at + 0) (hop_limit-low p.version))
    (carried-before p.carried p.version xs p.start (at + 0) h.carried (omega (arith, start))))
  where
    hop_limit-low : (v : IpVersion) → hop_limit_place v + 0 < 24
    hop_limit-low version.Ipv4 = omega arith
    hop_limit-low version.Ipv6 = omega arith

-- ---- the DSCP

dscp-at : (v : IpVersion) (xs ys : List ℕ) (n : ℕ) → n ≤ 63 → AreBytes xs → slice_index ys 14 ≡ get_or (with_dscp v (slice_index xs 14 ∷ slice_index xs 15 ∷ []) n) 0 0
    → slice_index ys 15 ≡ get_or (with_dscp v (slice_index xs 14 ∷ slice_index xs 15 ∷ []) n) 1 0 → (dscp_of v ys ≡ n) × (ecn_of v ys ≡ ecn_of v xs)
dscp-at version.Ipv4 xs ys n small are first second =
    let new = get_or-drop 14 ys 1 0 in
    let old = get_or-drop 14 xs 1 0 in
    (omega (arith, new, second, small), omega (arith, new, old, second))
dscp-at version.Ipv6 xs ys n small are first second =
    let new = get_or-drop 14 ys 1 0 in
    let old = get_or-drop 14 xs 1 0 in
    (omega (arith, get_or-drop 14 ys 0 0, new, first, second, small, are 14, are 15), omega (arith, new, old, second, are 14, are 15))

pub dscp-read : (p : Places) (xs : List ℕ) (n : ℕ) → Holds p xs → AreBytes xs → n ≤ 63
    → let ys = edited offload.Complete p xs 14 (with_dscp p.version (slice_range xs 14 16) n) in (dscp_of p.version ys ≡ n) × (ecn_of p.version ys ≡ ecn_of p.version xs)
dscp-read p xs n h are small =
    let v = p.version in
    let least = least-end v in
    let whole : 16 ≤ length xs = omega (arith, least, h.header, h.inside, h.whole) in
    subst (λ (l : List ℕ). let ys = edited offload.Complete p xs 14 (with_dscp v l n) in (dscp_of v ys ≡ n) × (ecn_of v ys ≡ ecn_of v xs)) (sym (two-bytes xs whole))
    (let bytes = with_dscp v (slice_index xs 14 ∷ slice_index xs 15 ∷ []) n in
    let long = dscp-length v (slice_index xs 14) (slice_index xs 15) n in
    let byte : (i : ℕ) → i < 2 → slice_index (edited offload.Complete p xs 14 bytes) (14 + i) ≡ get_or bytes i 0 =
    λ i low.
    edited-inside offload.Complete p xs bytes 14 i h (omega (arith, long, whole)) (omega (arith, long, low)) (header-before v (14 + i) (omega (arith, low)))
    (carried-before p.carried v xs p.start (14 + i) h.carried (omega (arith, low, h.header, least)))
    in
    dscp-at v xs (edited offload.Complete p xs 14 bytes) n small are (byte 0 (omega arith)) (byte 1 (omega arith)))

-- ---- an address

addr-at : (side : Side) (v : IpVersion) (a : IpAddress) (ys : List ℕ) → has_version v a ≡ true → IsAddress a
    → slice_range ys (address_place side v) (address_place side v + length (address_bytes a)) ≡ address_bytes a → addr_of side v ys ≡ a
addr-at Source version.Ipv4 (address.Ipv4 b) ys has is part =
    ap address.Ipv4 (ap (take 4) (drop-drop 12 14 ys) ∙ ap (λ n. slice_range ys 26 (26 + n)) (sym is.0) ∙ part)
addr-at Source version.Ipv6 (address.Ipv6 b) ys has is part =
    ap address.Ipv6 (ap (take 16) (drop-drop 8 14 ys) ∙ ap (λ n. slice_range ys 22 (22 + n)) (sym is.0) ∙ part)
addr-at Destination version.Ipv4 (address.Ipv4 b) ys has is part =
    ap address.Ipv4 (ap (take 4) (drop-drop 16 14 ys) ∙ ap (λ n. slice_range ys 30 (30 + n)) (sym is.0) ∙ part)
addr-at Destination version.Ipv6 (address.Ipv6 b) ys has is part =
    ap address.Ipv6 (ap (take 16) (drop-drop 24 14 ys) ∙ ap (λ n. slice_range ys 38 (38 + n)) (sym is.0) ∙ part)
addr-at side version.Ipv4 (address.Ipv6 b) ys has is part = absurd (cc)
addr-at side version.Ipv6 (address.Ipv4 b) ys has is part = absurd (cc)

-- where an address is: after the checksum of an IPv4 header, and before the transport packet
address-header : (side : Side) (v : IpVersion) → v ≡ version.Ipv4 → 26 ≤ address_place side v
address-header Source version.Ipv4 is = omega arith
address-header Destination version.Ipv4 is = omega arith
address-header side version.Ipv6 is = absurd (cc)

pub address-beside : (p : Places) (xs : List ℕ) (side : Side) (a : IpAddress) → Holds p xs → takes_address p a ≡ true → IsAddress a
    → let at = address_place side p.version in
    let n = length (address_bytes a) in
    (at + n ≤ length xs) × (p.version ≡ version.Ipv4 → IsApart at n 24 26)
    × ((s : Segment) → p.carried ≡ carried.Segment s → IsApart at n (checksum_place s) (checksum_place s + 2))
address-beside p xs side a h takes are =
    let last = address-end side p.version a (takes-version p.carried p.version a takes) are in (
      omega (arith, last, h.header, h.inside, h.whole),
      λ is. inr (address-header side p.version is),
      λ s is. let f = in-frame p s xs h is in inl (omega (arith, last, f.starts)),
    )

pub addr-read : (o : Offload) (p : Places) (xs : List ℕ) (side : Side) (a : IpAddress) → Holds p xs → takes_address p a ≡ true → IsAddress a
    → addr_of side p.version (edited o p xs (address_place side p.version) (address_bytes a)) ≡ a
addr-read o p xs side a h takes are =
    let at = address_place side p.version in
    let beside = address-beside p xs side a h takes are in
    addr-at side p.version a (edited o p xs at (address_bytes a)) (takes-version p.carried p.version a takes) are
    (edited-part o p xs (address_bytes a) at h beside.0 beside.1 beside.2)

-- a packet takes an address of its version, if no checksum is hidden
has-version : (v : IpVersion) (a : IpAddress) → version_of a ≡ v → has_version v a ≡ true
has-version version.Ipv4 (address.Ipv4 b) is = refl
has-version version.Ipv6 (address.Ipv6 b) is = refl
has-version version.Ipv4 (address.Ipv6 b) is = absurd (cc)
has-version version.Ipv6 (address.Ipv4 b) is = absurd (cc)

pub takes : (c : Carried) (v : IpVersion) (a : IpAddress) → version_of a ≡ v → c ≢ carried.Hidden → takes_by c v a ≡ true
takes carried.Hidden v a is some = absurd (some refl)
takes c v a is some = has-version v a is

-- ---- a port

-- TCP and UDP have their ports before the checksum
pub offset-left : (q : IpProtocol) → can_be_left q ≡ true → 6 ≤ checksum_offset q
offset-left protocol.Tcp left = omega arith
offset-left protocol.Udp left = omega arith
offset-left q left = absurd (cc)

left-is : (q : IpProtocol) → (q ≡ protocol.Tcp) ⊎ (q ≡ protocol.Udp) → can_be_left q ≡ true
left-is q (inl is) = ap can_be_left is
left-is q (inr is) = ap can_be_left is

-- the place of a port in a transport packet
abbrev pub place_in : Side → Segment → ℕ
place_in Source s = s.start
place_in Destination s = s.start + 2

place-is : (side : Side) (c : Carried) (s : Segment) → c ≡ carried.Segment s → can_be_left s.protocol ≡ true → port_place side c ≡ Some (place_in side s)
place-is Source c s is left = ap (port_place Source) is ∙ ap (λ (b : Bool). if b then Some s.start else None) left
place-is Destination c s is left = ap (port_place Destination) is ∙ ap (λ (b : Bool). if b then Some (s.start + 2) else None) left

port-at : (side : Side) (s : Segment) (ys : List ℕ) (n : ℕ) → n < 65536 → s.start + 4 ≤ s.end → slice_index ys (place_in side s) ≡ n / 256 % 256
    → slice_index ys (place_in side s + 1) ≡ n % 256 → port_of side s ys ≡ n
port-at Source s ys n small room high low =
    let one = range-index ys s.start s.end 0 (omega (arith, room)) ∙ ap (slice_index ys) (add-zero s.start) ∙ high in
    let two = range-index ys s.start s.end 1 (omega (arith, room)) ∙ low in
    omega (arith, one, two, small)
port-at Destination s ys n small room high low =
    let next : s.start + 3 ≡ s.start + 2 + 1 = omega arith in
    let one = range-index ys s.start s.end 2 (omega (arith, room)) ∙ high in
    let two = range-index ys s.start s.end 3 (omega (arith, room)) ∙ ap (slice_index ys) next ∙ low in
    omega (arith, one, two, small)

place-within : (side : Side) (s : Segment) → (s.start ≤ place_in side s) × (place_in side s ≤ s.start + 2)
place-within Source s = (omega arith, omega arith)
place-within Destination s = (omega arith, omega arith)

pub port-read : (o : Offload) (p : Places) (s : Segment) (xs : List ℕ) (side : Side) (n : ℕ) → Holds p xs → p.carried ≡ carried.Segment s
    → (s.protocol ≡ protocol.Tcp) ⊎ (s.protocol ≡ protocol.Udp) → n < 65536 → port_of side s (edited o p xs (place_in side s) (big_bytes 2 n)) ≡ n
port-read o p s xs side n h is q small =
    let f = in-frame p s xs h is in
    let offset = offset-left s.protocol (left-is s.protocol q) in
    let within = place-within side s in
    let at = place_in side s in
    let ys = edited o p xs at (big_bytes 2 n) in
    let least = least-end p.version in
    let byte : (i : ℕ) → i < 2 → slice_index ys (at + i) ≡ get_or (big_bytes 2 n) i 0 =
    λ i low.
    edited-inside o p xs (big_bytes 2 n) at i h (omega (arith, within.1, offset, f.least, f.inside)) (omega (arith, low)) (header-after p.version (at + i) (omega (arith, within.0, f.starts, least)))
    (subst (λ (c : Carried). OutsideTransportChecksum c (at + i)) (sym is) (inl (omega (arith, low, within.1, offset))))
    in
    port-at side s ys n small (omega (arith, offset, f.least)) (ap (slice_index ys) (sym (add-zero at)) ∙ byte 0 (omega arith)) (byte 1 (omega arith))

-- the call, for a packet with such a port
pub port-set : (o : Offload) (xs : List ℕ) (side : Side) (n : ℕ) (p : Places) (s : Segment) → places_of xs ≡ Some p → p.carried ≡ carried.Segment s
    → (s.protocol ≡ protocol.Tcp) ⊎ (s.protocol ≡ protocol.Udp) → port_set o xs side n ≡ Some (edited o p xs (place_in side s) (big_bytes 2 n))
port-set o xs side n p s here is q = port-is o xs side n (place_in side s) p (place-is side p.carried s is (left-is s.protocol q)) here

-- ---- any bytes

pub bytes-read : (o : Offload) (p : Places) (xs bytes : List ℕ) (at : ℕ) → Holds p xs → at + length bytes ≤ length xs → allows p at (at + length bytes) ≡ true
    → slice_range (edited o p xs at bytes) at (at + length bytes) ≡ bytes
bytes-read o p xs bytes at h room allowed =
    let n = length bytes in
    let both = both-true (keeps_header p.version p.start at (at + n)) (keeps_carried p.carried p at (at + n)) allowed in
    edited-part o p xs bytes at h room (header-apart p.version p.start at n both.0) (λ s is. transport-apart p.carried s p at n both.1 is)
