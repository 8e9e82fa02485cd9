-- What locates the parts of a packet: frames with the same lengths, protocols and fragment fields have the same places.
use Rattle.std.proofs.Common.{ℕ, ◌≡◌, ◌∙◌, ◌⊎◌, ◌+◌, ◌-◌, ◌/◌, ◌<◌, ◌≤◌, ◌==◌, ◌&&◌, ◌||◌, Bool, List, None, Option, Some, ap, arith, drop, false, if◌then◌else◌, inl, inr, is_some, length, length-drop, min, nat_le, nat_lt, not, refl, slice_index, slice_range, subst, sym, true}
use Rattle.std.proofs.lemmas.Bool.Decides.{nat_tests}
use Rattle.std.proofs.lemmas.Bool.{cases_lt}
use Rattle.std.proofs.lemmas.List.{get_or-drop, get_or_past, length-take}
use Rattle.ip_wire.proofs.Readings.{if-Some}
use Rattle.ip_wire.specs.Ethernet as ethernet
use Rattle.ip_wire.specs.Field.{field}
use Rattle.ip_wire.specs.Ipv4 as ipv4
use Rattle.ip_wire.specs.Ipv6 as ipv6
use Rattle.ip_wire.specs.Protocol.{protocol_of}
use Rattle.ip_wire.specs.Types.{EthernetProtocol, IpProtocol, IpVersion}
use Rattle.ip_wire.specs.declared.EthernetProtocol.TheVariants as ethertype
use Rattle.ip_wire.specs.declared.IpProtocol.TheVariants as protocol
use Rattle.ip_wire.specs.declared.IpVersion.TheVariants as version
use Rattle.wire_extensions.proofs.Same.{IsEnd, Reads, chain-end, chain-same}
use Rattle.wire_extensions.specs.Chain.{end_of, ends_at_part}
use Rattle.wire_extensions.specs.declared.chain.Chain.{Chain}
use Rattle.wire_extensions.specs.declared.chain.ExtensionFault.{ExtensionFault}
use Rattle.app_edit.proofs.Totals.{range-index}
use Rattle.app_edit.specs.Places.{carried_after, carried_by, datagram_at, datagram_len, extensions, ipv4_carried, ipv4_places, ipv6_places, is_later, number_after, places_after, places_by, places_of}
use Rattle.app_edit.specs.declared.places.Carried.{Carried}
use Rattle.app_edit.specs.declared.places.Carried.TheVariants as carried
use Rattle.app_edit.specs.declared.places.Places.{Places}

-- ---- two frames that are the same where the parts of the packet are located

-- the first byte of an IP header: the version, and the header length of IPv4
abbrev pub SameFirst : IpVersion → ℕ → ℕ → Type 0
SameFirst version.Ipv4 old new = new ≡ old
SameFirst version.Ipv6 old new = new / 16 ≡ old / 16

-- The bytes of the IP header after it: from the total length to the fragment offset and the protocol; from the payload
-- length to the next header, and the extension headers.
abbrev pub Locates : IpVersion → ℕ → ℕ → Type 0
Locates version.Ipv4 start k = ((16 ≤ k) × (k < 22)) ⊎ (k ≡ 23)
Locates version.Ipv6 start k = ((18 ≤ k) × (k < 21)) ⊎ ((54 ≤ k) × (k < start))

pub record Same (p : Places) (xs ys : List ℕ) : Type 0 where
  pub long : length ys ≡ length xs
  pub link : (k : ℕ) → k < 14 → slice_index ys k ≡ slice_index xs k
  pub first : SameFirst p.version (slice_index xs 14) (slice_index ys 14)
  pub header : (k : ℕ) → Locates p.version p.start k → slice_index ys k ≡ slice_index xs k
  pub hidden : p.version ≡ version.Ipv6 → p.carried ≡ carried.Hidden → (k : ℕ) → 54 ≤ k → k < p.end → slice_index ys k ≡ slice_index xs k
  pub datagram : (whole : Bool) → p.carried ≡ datagram_at xs p.start p.end whole → p.start + 8 ≤ p.end → datagram_len ys p.start ≡ datagram_len xs p.start

-- ---- what the packet carries

-- the length field of UDP, where it is used
abbrev SameLength : List ℕ → List ℕ → ℕ → ℕ → Carried → Type 0
SameLength xs ys start end c = (whole : Bool) → c ≡ datagram_at xs start end whole → start + 8 ≤ end → datagram_len ys start ≡ datagram_len xs start

datagram-same : (b : Bool) (xs ys : List ℕ) (start end : ℕ) (whole : Bool) → nat_lt end (start + 8) ≡ b
    → SameLength xs ys start end (if b then carried.Hidden else datagram_at xs start end whole)
    → (if b then carried.Hidden else datagram_at ys start end whole) ≡ (if b then carried.Hidden else datagram_at xs start end whole)
datagram-same true xs ys start end whole short same = refl
datagram-same false xs ys start end whole short same =
    let room : start + 8 ≤ end = grind (arith, nat_tests) in
    let len = same whole refl room in
    λ i. if nat_lt (len i) 8 then carried.Hidden
    else carried.Segment (record { protocol = protocol.Udp; start = start; end = min end (start + len i); is_whole = whole && nat_le (start + len i) end })

carried-same : (q : IpProtocol) (xs ys : List ℕ) (over_ipv4 : Bool) (start end : ℕ) (whole : Bool) → SameLength xs ys start end (carried_by xs over_ipv4 q start end whole)
    → carried_by ys over_ipv4 q start end whole ≡ carried_by xs over_ipv4 q start end whole
carried-same protocol.Udp xs ys over_ipv4 start end whole same = datagram-same (nat_lt end (start + 8)) xs ys start end whole refl same
carried-same q xs ys over_ipv4 start end whole same = refl

-- also in a fragment
first-same : (first : Bool) (q : IpProtocol) (xs ys : List ℕ) (over_ipv4 : Bool) (start end : ℕ) (whole : Bool)
    → SameLength xs ys start end (if first then carried_by xs over_ipv4 q start end whole else carried.Fragment)
    → (if first then carried_by ys over_ipv4 q start end whole else carried.Fragment) ≡ (if first then carried_by xs over_ipv4 q start end whole else carried.Fragment)
first-same true q xs ys over_ipv4 start end whole same = carried-same q xs ys over_ipv4 start end whole same
first-same false q xs ys over_ipv4 start end whole same = refl

-- ---- the places

-- byte k after the first n
index-same : (xs ys : List ℕ) (n k : ℕ) → slice_index ys (n + k) ≡ slice_index xs (n + k) → slice_index (drop n ys) k ≡ slice_index (drop n xs) k
index-same xs ys n k same = get_or-drop n ys k 0 ∙ same ∙ sym (get_or-drop n xs k 0)

-- the places of an IPv4 packet, if it parses
abbrev of_ipv4 : List ℕ → Places
of_ipv4 xs =
    let bytes = drop 14 xs in
    let start = 14 + ipv4.header_len bytes in
    let end = 14 + ipv4.total_len bytes in
    record { version = version.Ipv4; start = start; end = end; carried = ipv4_carried xs start end }

ipv4-same : (xs ys : List ℕ) → Same (of_ipv4 xs) xs ys → ipv4_places ys ≡ ipv4_places xs
ipv4-same xs ys s =
    let b0 = index-same xs ys 14 0 s.first in
    let b2 = index-same xs ys 14 2 (s.header 16 (inl (omega arith, omega arith))) in
    let b3 = index-same xs ys 14 3 (s.header 17 (inl (omega arith, omega arith))) in
    let b6 = index-same xs ys 14 6 (s.header 20 (inl (omega arith, omega arith))) in
    let b7 = index-same xs ys 14 7 (s.header 21 (inl (omega arith, omega arith))) in
    let b9 = index-same xs ys 14 9 (s.header 23 (inr refl)) in
    let header : ipv4.header_len (drop 14 ys) ≡ ipv4.header_len (drop 14 xs) = omega (arith, b0) in
    let total : ipv4.total_len (drop 14 ys) ≡ ipv4.total_len (drop 14 xs) = omega (arith, b2, b3) in
    let four : ipv4.ip_version_of (drop 14 ys) ≡ ipv4.ip_version_of (drop 14 xs) = omega (arith, b0) in
    let offset : ipv4.fragment_offset (drop 14 ys) ≡ ipv4.fragment_offset (drop 14 xs) = omega (arith, b6, b7) in
    let more : field (drop 14 ys) 50 1 ≡ field (drop 14 xs) 50 1 = omega (arith, b6) in
    let number : field (drop 14 ys) 72 8 ≡ field (drop 14 xs) 72 8 = omega (arith, b9) in
    let long : length (drop 14 ys) ≡ length (drop 14 xs) = length-drop 14 ys ∙ ap (λ k. k - 14) s.long ∙ sym (length-drop 14 xs) in
    let inner = (λ i. if offset i == 0
    then carried_by ys true (protocol_of (number i)) (14 + header i) (14 + total i) (not (more i == 1))
    else carried.Fragment)
    ∙ first-same (ipv4.fragment_offset (drop 14 xs) == 0) (protocol_of (field (drop 14 xs) 72 8)) xs ys true (14 + ipv4.header_len (drop 14 xs)) (14 + ipv4.total_len (drop 14 xs))
    (not (field (drop 14 xs) 50 1 == 1)) s.datagram
    in
    λ i. if (nat_le 20 (long i) && nat_le 20 (header i) && nat_le (header i) (total i) && nat_le (total i) (long i)) && four i == 4 && true
    then Some (record { version = version.Ipv4; start = 14 + header i; end = 14 + total i; carried = inner i })
    else None

-- ---- after IPv6 extension headers

number-same : (b : Bool) (xs ys : List ℕ) (at n : ℕ) → (b ≡ true → slice_index ys at ≡ slice_index xs at)
    → (if b then slice_index ys at else n) ≡ (if b then slice_index xs at else n)
number-same true xs ys at n same = same refl
number-same false xs ys at n same = refl

next-same : (hides later : Bool) (n m : ℕ) (xs ys : List ℕ) (start end : ℕ) (whole : Bool) → m ≡ n
    → SameLength xs ys start end (if hides then carried.Hidden else if later then carried.Fragment else carried_by xs false (protocol_of n) start end whole)
    → (if hides then carried.Hidden else if later then carried.Fragment else carried_by ys false (protocol_of m) start end whole)
    ≡ (if hides then carried.Hidden else if later then carried.Fragment else carried_by xs false (protocol_of n) start end whole)
next-same true later n m xs ys start end whole is same = refl
next-same false true n m xs ys start end whole is same = refl
next-same false false n m xs ys start end whole is same =
    ap (λ (k : ℕ). carried_by ys false (protocol_of k) start end whole) is ∙ carried-same (protocol_of n) xs ys false start end whole same

-- a chain that ends at the header of a fragment has its 8 bytes
part-len : (c : Chain) → ends_at_part c.fragment ≡ true → end_of c ≡ c.len + 8
part-len c part = ap (λ (b : Bool). c.len + (if b then 8 else 0)) part

after-same : (xs ys : List ℕ) (c : Chain) (end : ℕ) → Same (places_after xs c end) xs ys → places_after ys c end ≡ places_after xs c end
after-same xs ys c end s =
    let number = number-same (ends_at_part c.fragment) xs ys (54 + c.len) c.protocol
    (λ part. s.header (54 + c.len) (inr (omega arith, let long = part-len c part in omega (arith, long))))
    in
    let inner = next-same (is_some c.fault || c.is_authenticated) (is_later c.fragment) (number_after xs c) (number_after ys c) xs ys (54 + end_of c) end
    (not (ends_at_part c.fragment)) number s.datagram
    in
    λ i. record { version = version.Ipv6; start = 54 + end_of c; end = end; carried = inner i }

hidden-by : (xs : List ℕ) (c : Chain) (end : ℕ) (why : ExtensionFault) → c.fault ≡ Some why → carried_after xs c end ≡ carried.Hidden
hidden-by xs c end why is = rw is refl

-- the bytes that the chain was read from
read-same : (xs ys : List ℕ) (c : Chain) (end k : ℕ) → Same (places_after xs c end) xs ys → IsEnd c → Reads c k → 54 + k < end
    → slice_index ys (54 + k) ≡ slice_index xs (54 + k)
read-same xs ys c end k s at_end (inl before) room = s.header (54 + k) (inr (omega arith, omega (arith, before)))
read-same xs ys c end k s at_end (inr (is, near)) room = by-fault c.fault refl
  where
    by-fault : (o : Option ExtensionFault) → c.fault ≡ o → slice_index ys (54 + k) ≡ slice_index xs (54 + k)
    by-fault (Some why) e = s.hidden refl (hidden-by xs c end why e) (54 + k) (omega arith) room
    by-fault None e = let long = part-len c (at_end is e) in s.header (54 + k) (inr (omega arith, omega (arith, long, near)))

-- a byte of a range of the frame; past its end there is none
range-same : (xs ys : List ℕ) (end k : ℕ) → (54 + k < end → slice_index ys (54 + k) ≡ slice_index xs (54 + k))
    → slice_index (slice_range ys 54 end) k ≡ slice_index (slice_range xs 54 end) k
range-same xs ys end k same = elim (cases_lt k (end - 54)) [
  | inl inside ↦ range-index ys 54 end k inside ∙ same (omega (arith, inside)) ∙ sym (range-index xs 54 end k inside)
  | inr past ↦ none ys past ∙ sym (none xs past)
]
  where
    none : (l : List ℕ) → end - 54 ≤ k → slice_index (slice_range l 54 end) k ≡ 0
    none l past = get_or_past (slice_range l 54 end) k 0 (let short = length-take (end - 54) (drop 54 l) in omega (arith, short, past))

extensions-same : (xs ys : List ℕ) (n end : ℕ) → Same (places_after xs (extensions xs n end) end) xs ys → extensions ys n end ≡ extensions xs n end
extensions-same xs ys n end s =
    let inner = slice_range xs 54 end in
    let long : length (slice_range ys 54 end) ≡ length inner =
    length-take (end - 54) (drop 54 ys) ∙ ap (λ (k : ℕ). min (end - 54) k) (length-drop 54 ys ∙ ap (λ (k : ℕ). k - 54) s.long ∙ sym (length-drop 54 xs))
    ∙ sym (length-take (end - 54) (drop 54 xs))
    in
    chain-same n (end - 54) inner (slice_range ys 54 end) long
    (λ k read. range-same xs ys end k (λ room. read-same xs ys (extensions xs n end) end k s (chain-end n (end - 54) inner) read room))

-- the places of an IPv6 packet, if it parses
abbrev of_ipv6 : List ℕ → Places
of_ipv6 xs =
    let end = 14 + ipv6.total_len (drop 14 xs) in
    places_after xs (extensions xs (field (drop 14 xs) 48 8) end) end

ipv6-same : (xs ys : List ℕ) → Same (of_ipv6 xs) xs ys → ipv6_places ys ≡ ipv6_places xs
ipv6-same xs ys s =
    let n = field (drop 14 xs) 48 8 in
    let end = 14 + ipv6.total_len (drop 14 xs) in
    let c = extensions xs n end in
    let first : slice_index ys 14 / 16 ≡ slice_index xs 14 / 16 = s.first in
    let b0 : slice_index (drop 14 ys) 0 / 16 ≡ slice_index (drop 14 xs) 0 / 16 = ap (λ n. n / 16) (get_or-drop 14 ys 0 0) ∙ first ∙ sym (ap (λ n. n / 16) (get_or-drop 14 xs 0 0)) in
    let b4 = index-same xs ys 14 4 (s.header 18 (inl (omega arith, omega arith))) in
    let b5 = index-same xs ys 14 5 (s.header 19 (inl (omega arith, omega arith))) in
    let b6 = index-same xs ys 14 6 (s.header 20 (inl (omega arith, omega arith))) in
    let total : ipv6.total_len (drop 14 ys) ≡ ipv6.total_len (drop 14 xs) = omega (arith, b4, b5) in
    let six : ipv6.ip_version_of (drop 14 ys) ≡ ipv6.ip_version_of (drop 14 xs) = omega (arith, b0) in
    let next : field (drop 14 ys) 48 8 ≡ n = omega (arith, b6) in
    let long : length (drop 14 ys) ≡ length (drop 14 xs) = length-drop 14 ys ∙ ap (λ k. k - 14) s.long ∙ sym (length-drop 14 xs) in
    (λ i. if nat_le (total i) (long i) && six i == 6 then Some (places_after ys (extensions ys (next i) (14 + total i)) (14 + total i)) else None)
    ∙ ap (λ (v : Places). if ipv6.is_read (drop 14 xs) then Some v else None)
    (ap (λ (d : Chain). places_after ys d end) (extensions-same xs ys n end s) ∙ after-same xs ys c end s)

by-type : (e : EthernetProtocol) (xs ys : List ℕ) (p : Places) → places_by e xs ≡ Some p → Same p xs ys → places_by e ys ≡ Some p
by-type ethertype.Ipv4 xs ys p is s =
    ipv4-same xs ys (subst (λ (v : Places). Same v xs ys) (sym ((if-Some (ipv4.is_read false (drop 14 xs)) (of_ipv4 xs) p).0 is).1) s) ∙ is
by-type ethertype.Ipv6 xs ys p is s =
    ipv6-same xs ys (subst (λ (v : Places). Same v xs ys) (sym ((if-Some (ipv6.is_read (drop 14 xs)) (of_ipv6 xs) p).0 is).1) s) ∙ is
by-type ethertype.Arp xs ys p is s = is
by-type (ethertype.Unknown n) xs ys p is s = is

in-length : (b : Bool) (e : EthernetProtocol) (xs ys : List ℕ) (p : Places) → (if b then None else places_by e xs) ≡ Some p → Same p xs ys
    → (if b then None else places_by e ys) ≡ Some p
in-length true e xs ys p is s = is
in-length false e xs ys p is s = by-type e xs ys p is s

pub places-same : (xs ys : List ℕ) (p : Places) → places_of xs ≡ Some p → Same p xs ys → places_of ys ≡ Some p
unfolding places_of
places-same xs ys p is s =
    let type : field ys 96 16 ≡ field xs 96 16 = omega (arith, s.link 12 (omega arith), s.link 13 (omega arith)) in
    (λ i. if nat_lt (s.long i) 14 then None else places_by (ethernet.protocol_of (type i)) ys)
    ∙ in-length (nat_lt (length xs) 14) (ethernet.protocol_of (field xs 96 16)) xs ys p is s
