-- What the places in a frame tell of its bytes.
use Rattle.std.proofs.Common.{ℕ, ◌≡◌, ◌+◌, ◌≤◌, ◌==◌, ◌&&◌, ◌||◌, Bool, List, None, Some, arith, drop, false, if◌then◌else◌, is_some, length, min, nat_le, nat_lt, not, refl, subst, true}
use Rattle.std.proofs.lemmas.Bool.Decides.{nat_tests}
use Rattle.ip_wire.proofs.Readings.{if-Some}
use Rattle.ip_wire.specs.Ethernet as ethernet
use Rattle.ip_wire.specs.Field.{field}
use Rattle.ip_wire.specs.Ipv4 as ipv4
use Rattle.ip_wire.specs.Ipv6 as ipv6
use Rattle.ip_wire.specs.Protocol.{protocol_of}
use Rattle.ip_wire.specs.Types.{EthernetProtocol, IpProtocol}
use Rattle.ip_wire.specs.declared.EthernetProtocol.TheVariants as ethertype
use Rattle.ip_wire.specs.declared.IpProtocol.TheVariants as protocol
use Rattle.ip_wire.specs.declared.IpVersion.TheVariants as version
use Rattle.wire_extensions.specs.Chain.{end_of, ends_at_part}
use Rattle.wire_extensions.specs.declared.chain.Chain.{Chain}
use Rattle.app_edit.specs.Places.{carried_by, covers_addresses, datagram_at, datagram_len, extensions, has_checksum, hides_next, ipv4_carried, is_ipv4, is_later, number_after, places_after, places_by, places_of}
use Rattle.app_edit.specs.declared.places.Carried.{Carried}
use Rattle.app_edit.specs.declared.places.Carried.TheVariants as carried
use Rattle.app_edit.specs.declared.places.Places.{Places}

-- a transport packet has a checksum, and UDP is no longer than its length field says
abbrev pub Carries : Bool → List ℕ → Carried → Type 0
Carries four xs (carried.Segment s) = (has_checksum four s.protocol ≡ true) × (s.protocol ≡ protocol.Udp → s.end ≤ s.start + datagram_len xs s.start)
Carries four xs _ = Unit {0}

-- an IPv4 header has version 4, and ends where its length says
abbrev IsHeader : List ℕ → Places → Type 0
IsHeader xs p = p.version ≡ version.Ipv4 → (p.start ≡ 14 + ipv4.header_len (drop 14 xs)) × (ipv4.ip_version_of (drop 14 xs) ≡ 4)

pub record Tells (xs : List ℕ) (p : Places) : Type 0 where
  pub carries : Carries (is_ipv4 p.version) xs p.carried
  pub header : IsHeader xs p

-- ---- what a packet carries

by-test : (four : Bool) (xs : List ℕ) (b : Bool) (k l : Carried) → Carries four xs k → Carries four xs l → Carries four xs (if b then k else l)
by-test four xs true k l a b = a
by-test four xs false k l a b = b

carries-by : (q : IpProtocol) (four : Bool) (xs : List ℕ) (start end : ℕ) (whole : Bool) → Carries four xs (carried_by xs four q start end whole)
carries-by protocol.Tcp four xs start end whole =
    by-test four xs (nat_lt end (start + 16 + 2)) carried.Hidden (carried.Segment (record { protocol = protocol.Tcp; start = start; end = end; is_whole = whole })) tt
    (refl, λ udp. absurd (cc))
carries-by protocol.Udp four xs start end whole =
    let len = datagram_len xs start in
    by-test four xs (nat_lt end (start + 8)) carried.Hidden (datagram_at xs start end whole) tt
    (by-test four xs (nat_lt len 8) carried.Hidden
    (carried.Segment (record { protocol = protocol.Udp; start = start; end = min end (start + len); is_whole = whole && nat_le (start + len) end })) tt (refl, λ udp. omega arith))
carries-by protocol.Icmp true xs start end whole =
    by-test true xs (nat_lt end (start + 2 + 2)) carried.Hidden (carried.Segment (record { protocol = protocol.Icmp; start = start; end = end; is_whole = whole })) tt
    (refl, λ udp. absurd (cc))
carries-by protocol.Icmp false xs start end whole = tt
carries-by protocol.Icmpv6 true xs start end whole = tt
carries-by protocol.Icmpv6 false xs start end whole =
    by-test false xs (nat_lt end (start + 2 + 2)) carried.Hidden (carried.Segment (record { protocol = protocol.Icmpv6; start = start; end = end; is_whole = whole })) tt
    (refl, λ udp. absurd (cc))
carries-by q four xs start end whole = by-test four xs (hides_next four q || covers_addresses four q) carried.Hidden carried.Other tt tt

-- ---- the places

-- the version field of a header that parses
four-is : (a b : Bool) (n : ℕ) → (a && n == 4 && b) ≡ true → n ≡ 4
four-is a b n h = grind (arith, nat_tests)

tells-ipv4 : (xs : List ℕ) (p : Places) → places_by ethertype.Ipv4 xs ≡ Some p → Tells xs p
tells-ipv4 xs p is =
    let bytes = drop 14 xs in
    let start = 14 + ipv4.header_len bytes in
    let end = 14 + ipv4.total_len bytes in
    let made : Places = record { version = version.Ipv4; start = start; end = end; carried = ipv4_carried xs start end } in
    let both = (if-Some (ipv4.is_read false bytes) made p).0 is in
    subst (Tells xs) both.1
    (record {
      carries =
          by-test true xs (ipv4.fragment_offset bytes == 0) (carried_by xs true (protocol_of (field bytes 72 8)) start end (not (field bytes 50 1 == 1))) carried.Fragment
          (carries-by (protocol_of (field bytes 72 8)) true xs start end (not (field bytes 50 1 == 1))) tt;
      header = λ four. (refl, four-is _ _ (ipv4.ip_version_of bytes) both.0);
    })

tells-after : (xs : List ℕ) (c : Chain) (end : ℕ) → Tells xs (places_after xs c end)
tells-after xs c end =
    let next = carried_by xs false (protocol_of (number_after xs c)) (54 + end_of c) end (not (ends_at_part c.fragment)) in
    record {
      carries =
          by-test false xs (is_some c.fault || c.is_authenticated) carried.Hidden (if is_later c.fragment then carried.Fragment else next) tt
          (by-test false xs (is_later c.fragment) carried.Fragment next tt
          (carries-by (protocol_of (number_after xs c)) false xs (54 + end_of c) end (not (ends_at_part c.fragment))));
      header = λ four. absurd (cc);
    }

tells-ipv6 : (xs : List ℕ) (p : Places) → places_by ethertype.Ipv6 xs ≡ Some p → Tells xs p
tells-ipv6 xs p is =
    let end = 14 + ipv6.total_len (drop 14 xs) in
    let c = extensions xs (field (drop 14 xs) 48 8) end in
    subst (Tells xs) ((if-Some (ipv6.is_read (drop 14 xs)) (places_after xs c end) p).0 is).1 (tells-after xs c end)

by-type : (b : Bool) (e : EthernetProtocol) (xs : List ℕ) (p : Places) → (if b then None else places_by e xs) ≡ Some p → Tells xs p
by-type false ethertype.Ipv4 xs p is = tells-ipv4 xs p is
by-type false ethertype.Ipv6 xs p is = tells-ipv6 xs p is
by-type false e xs p is = absurd (cc)
by-type true e xs p is = absurd (cc)

pub tells : (xs : List ℕ) (p : Places) → places_of xs ≡ Some p → Tells xs p
unfolding places_of
tells xs p is = by-type (nat_lt (length xs) 14) (ethernet.protocol_of (field xs 96 16)) xs p is
