-- Where the fields of a packet are in its Ethernet frame. All places count from the first byte of the frame.
-- Pinned by: `worked/edit`
use Rattle.std.specs.Prelude.{ℕ, ◌≡◌, ◌≤◌, ◌+◌, ◌-◌, ◌%◌, ◌==◌, ◌&&◌, ◌||◌, not, nat_le, nat_lt, min, if◌then◌else◌, Bool, true, false, List, Option, None, Some, is_some, drop, length, slice_index, slice_range}
use Rattle.byteorder.specs.Endian.{big_number}
use Rattle.ip_wire.specs.Ethernet as ethernet
use Rattle.ip_wire.specs.Field.{field}
use Rattle.ip_wire.specs.Ipv4 as ipv4
use Rattle.ip_wire.specs.Ipv6 as ipv6
use Rattle.ip_wire.specs.Protocol.{protocol_of}
use Rattle.ip_wire.specs.Types.{EthernetProtocol, IpProtocol, IpVersion}
use Rattle.ip_wire.specs.declared.EthernetProtocol.TheVariants as ethertype
use Rattle.ip_wire.specs.declared.IpProtocol.TheVariants as protocol
use Rattle.ip_wire.specs.declared.IpVersion.TheVariants as version
use Rattle.ip_wire.specs.declared.Ipv6FragmentRepr.{Ipv6FragmentRepr}
use Rattle.wire_extensions.specs.Chain.{chain_of, end_of, ends_at_part}
use Rattle.wire_extensions.specs.declared.chain.Chain.{Chain}
use Rattle.app_edit.specs.Layout.{payload_end, payload_start}
use Rattle.app_edit.specs.Offsets.{icmp_checksum, ip_header, ipv4_end, ipv4_src, ipv6_end, ipv6_src, tcp_checksum, udp_checksum, udp_len}
use Rattle.app_edit.specs.declared.places.Carried.{Carried}
use Rattle.app_edit.specs.declared.places.Carried.TheVariants as carried
use Rattle.app_edit.specs.declared.places.Places.{Places}
use Rattle.app_edit.specs.declared.places.Segment.{Segment}

-- ---- protocols

-- whether this is IPv4
abbrev pub is_ipv4 : IpVersion → Bool
is_ipv4 version.Ipv4 = true
is_ipv4 version.Ipv6 = false

-- whether it is the protocol of a transport packet with a checksum: TCP, UDP, ICMP over IPv4, ICMPv6 over IPv6
abbrev pub has_checksum : Bool → IpProtocol → Bool
has_checksum over_ipv4 protocol.Tcp = true
has_checksum over_ipv4 protocol.Udp = true
has_checksum over_ipv4 protocol.Icmp = over_ipv4
has_checksum over_ipv4 protocol.Icmpv6 = not over_ipv4
has_checksum over_ipv4 _ = false

-- Whether it is the number of a header after which the transport packet is not looked for: over IPv4 the authentication
-- header (RFC 4302); over IPv6, after the header of a fragment, also hop-by-hop options, routing, fragment, destination
-- options (RFC 8200, section 4).
abbrev pub hides_next : Bool → IpProtocol → Bool
hides_next over_ipv4 protocol.HopByHop = not over_ipv4
hides_next over_ipv4 protocol.Ipv6Route = not over_ipv4
hides_next over_ipv4 protocol.Ipv6Frag = not over_ipv4
hides_next over_ipv4 protocol.Ipv6Opts = not over_ipv4
hides_next over_ipv4 protocol.IpSecAh = true
hides_next over_ipv4 _ = false

-- Whether it is the number of another protocol whose checksum covers the addresses. Over both versions: DCCP (33; RFC
-- 4340, section 9.1), OSPF version 3 (89; RFC 5340, appendix A.3.1, and RFC 7949 over IPv4), VRRP (112; RFC 5798, section
-- 5.2.8), UDP-Lite (136; RFC 3828, section 3.2) and HIP (139; RFC 7401, section 5.1.1). Over IPv6: PIM (103; RFC 7761,
-- section 4.9) and Mobility (135; RFC 6275, section 6.1.1).
abbrev pub covers_addresses : Bool → IpProtocol → Bool
covers_addresses over_ipv4 (protocol.Unknown n) =
    n == 33 || n == 89 || n == 112 || n == 136 || n == 139 || (not over_ipv4 && (n == 103 || n == 135))
covers_addresses over_ipv4 _ = false

-- the offset of the checksum field in a transport header (RFC 9293, RFC 768, RFC 792, RFC 4443)
abbrev pub checksum_offset : IpProtocol → ℕ
checksum_offset protocol.Tcp = tcp_checksum
checksum_offset protocol.Udp = udp_checksum
checksum_offset _ = icmp_checksum

-- the place of the checksum field of a transport packet
abbrev pub checksum_place : Segment → ℕ
checksum_place s = s.start + checksum_offset s.protocol

-- ---- what a packet carries

-- the length field of a UDP packet at this place
abbrev pub datagram_len : List ℕ → ℕ → ℕ
datagram_len frame start = big_number 2 (drop (start + udp_len) frame)

-- the UDP packet from `start` on: its checksum covers as many bytes as its length field says
abbrev pub datagram_at : List ℕ → ℕ → ℕ → Bool → Carried
datagram_at frame start end whole =
    if nat_lt (datagram_len frame start) 8 then carried.Hidden
    else carried.Segment (record {
      protocol = protocol.Udp;
      start = start;
      end = min end (start + datagram_len frame start);
      is_whole = whole && nat_le (start + datagram_len frame start) end;
    })

-- the transport packet of a protocol with a checksum, from `start` up to `end`
abbrev pub segment_at : List ℕ → IpProtocol → ℕ → ℕ → Bool → Carried
segment_at frame protocol.Udp start end whole = if nat_lt end (start + 8) then carried.Hidden else datagram_at frame start end whole
segment_at frame p start end whole =
    if nat_lt end (start + checksum_offset p + 2) then carried.Hidden
    else carried.Segment (record { protocol = p; start = start; end = end; is_whole = whole })

-- what a packet of this protocol carries from `start` up to `end`, if it is no later fragment
abbrev pub carried_by : List ℕ → Bool → IpProtocol → ℕ → ℕ → Bool → Carried
carried_by frame over_ipv4 p start end whole =
    if has_checksum over_ipv4 p then segment_at frame p start end whole
    else if hides_next over_ipv4 p || covers_addresses over_ipv4 p then carried.Hidden
    else carried.Other

-- ---- the places in a frame

-- what an IPv4 packet carries from `start` up to `end`
abbrev pub ipv4_carried : List ℕ → ℕ → ℕ → Carried
ipv4_carried frame start end =
    let bytes = drop ip_header frame in
    if ipv4.fragment_offset bytes == 0 then carried_by frame true (protocol_of (field bytes 72 8)) start end (not (field bytes 50 1 == 1))
    else carried.Fragment

-- the places in a frame with the EtherType of IPv4, if its header parses; its checksum is not verified
abbrev pub ipv4_places : List ℕ → Option Places
ipv4_places frame =
    let start = ip_header + payload_start version.Ipv4 (drop ip_header frame) in
    let end = ip_header + payload_end version.Ipv4 (drop ip_header frame) in
    if ipv4.is_read false (drop ip_header frame) then Some (record { version = version.Ipv4; start = start; end = end; carried = ipv4_carried frame start end })
    else None

-- the extension headers of an IPv6 packet that ends at `end`, from this protocol on
abbrev pub extensions : List ℕ → ℕ → ℕ → Chain
extensions frame number end = chain_of number (end - ipv6_end) (slice_range frame ipv6_end end)

-- whether the last fragment header of a chain, if there is one, is that of a fragment other than the first
abbrev pub is_later : Option Ipv6FragmentRepr → Bool
is_later None = false
is_later (Some v) = not (v.frag_offset == 0)

-- the number of what follows a chain, also after the header of a fragment (RFC 8200, section 4.5)
abbrev pub number_after : List ℕ → Chain → ℕ
number_after frame c = if ends_at_part c.fragment then slice_index frame (ipv6_end + c.len) else c.protocol

-- What an IPv6 packet with these extension headers carries. It is hidden after a header that is rejected, and after an
-- authentication header, whose value an edit would make wrong.
abbrev pub carried_after : List ℕ → Chain → ℕ → Carried
carried_after frame c end =
    if is_some c.fault || c.is_authenticated then carried.Hidden
    else if is_later c.fragment then carried.Fragment
    else carried_by frame false (protocol_of (number_after frame c)) (ipv6_end + end_of c) end (not (ends_at_part c.fragment))

-- the places of an IPv6 packet with these extension headers that ends at `end`
abbrev pub places_after : List ℕ → Chain → ℕ → Places
places_after frame c end = record { version = version.Ipv6; start = ipv6_end + end_of c; end = end; carried = carried_after frame c end }

-- the places in a frame with the EtherType of IPv6, if its header parses
abbrev pub ipv6_places : List ℕ → Option Places
ipv6_places frame =
    let bytes = drop ip_header frame in
    let end = ip_header + payload_end version.Ipv6 bytes in
    if ipv6.is_read bytes then Some (places_after frame (extensions frame (field bytes 48 8) end) end) else None

-- the places in a frame with this EtherType
abbrev pub places_by : EthernetProtocol → List ℕ → Option Places
places_by ethertype.Ipv4 frame = ipv4_places frame
places_by ethertype.Ipv6 frame = ipv6_places frame
places_by _ frame = None

-- the places in an Ethernet II frame, if its packet is IPv4 or IPv6
unfoldable pub places_of : List ℕ → Option Places
places_of frame = if nat_lt (length frame) ip_header then None else places_by (ethernet.protocol_of (field frame 96 16)) frame

-- ---- places that are in a frame

-- where the two addresses begin (RFC 791, section 3.1; RFC 8200, section 3)
abbrev pub addresses_start : IpVersion → ℕ
addresses_start v = if is_ipv4 v then ipv4_src else ipv6_src

-- where they end
abbrev pub addresses_end : IpVersion → ℕ
addresses_end v = if is_ipv4 v then ipv4_end else ipv6_end

-- a transport packet is in the frame, with its checksum field and after the addresses; its words are words of the frame
pub record InFrame (v : IpVersion) (s : Segment) (frame : List ℕ) : Type 0 where
  pub starts : addresses_end v ≤ s.start
  pub even : s.start % 2 ≡ 0
  pub least : checksum_place s + 2 ≤ s.end
  pub inside : s.end ≤ length frame

-- what a packet carries from `start` on is in the frame
abbrev pub HoldsCarried : Carried → IpVersion → ℕ → List ℕ → Type 0
HoldsCarried (carried.Segment s) v start frame = InFrame v s frame × (s.start ≡ start)
HoldsCarried _ v start frame = start ≡ start

-- the places are in the frame
pub record Holds (p : Places) (frame : List ℕ) : Type 0 where
  pub header : addresses_end p.version ≤ p.start
  pub even : p.start % 2 ≡ 0
  pub inside : p.start ≤ p.end
  pub whole : p.end ≤ length frame
  pub carried : HoldsCarried p.carried p.version p.start frame

-- where the transport packet begins, if there is one
abbrev pub carried_start : Carried → ℕ
carried_start (carried.Segment s) = s.start
carried_start _ = 0
