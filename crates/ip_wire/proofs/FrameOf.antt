-- The values that are computed are those that the bytes are read as.
use Rattle.std.proofs.Common.{ℕ, ◌≡◌, ◌≢◌, ◌↔◌, ◌∙◌, List, Some, drop, refl, sym, ap, subst}
use Rattle.std.specs.Option.{option_map}
use Rattle.ip_wire.proofs.Options.{else-Some, option_and_then-Some, option_map-Some}
use Rattle.ip_wire.specs.Frame.{Carried, ReadsCarried, ReadsFrame, ReadsPacket, ReadsTransportBy, Transport, carried_by, datagram, frame_of, header_by, message, other, packet, segment, transport_after, transport_by, type_of}
use Rattle.ip_wire.specs.Types.{EthernetProtocol, EthernetRepr, IpAddress, IpProtocol, IpRepr, Ipv4, Ipv6}
use Rattle.net_base.specs.Checksum.{verifies}
use Rattle.net_base.specs.declared.ChecksumCapabilities.{ChecksumCapabilities}
use Rattle.wire_arp.proofs.ArpComputed.{arp_of-Reads}
use Rattle.wire_arp.specs.Arp.{arp_of}
use Rattle.wire_addr.specs.declared.IpProtocol.TheVariants as protocol
use Rattle.wire_ethernet.proofs.EthernetComputed.{ethernet_of-Reads}
use Rattle.wire_ethernet.specs.Ethernet.{ethernet_of}
use Rattle.wire_ethernet.specs.declared.EthernetProtocol.TheVariants as ethertype
use Rattle.wire_ipv4.proofs.Ipv4Computed.{ipv4_of-Reads}
use Rattle.wire_ipv4.specs.Ipv4 as ipv4
use Rattle.wire_ipv6.proofs.Ipv6Computed.{ipv6_of-Reads}
use Rattle.wire_ipv6.specs.Ipv6 as ipv6
use Rattle.wire_tcp.proofs.TcpComputed.{tcp_of-Reads}
use Rattle.wire_tcp.specs.TcpRepr as tcp
use Rattle.wire_udp.proofs.UdpComputed.{udp_of-Reads}
use Rattle.wire_udp.specs.Udp as udp

-- ---- the transport

other-by : (caps : ChecksumCapabilities) (p : IpProtocol) (src dst : IpAddress) (bytes : List ℕ) → p ≢ protocol.Udp → p ≢ protocol.Tcp
    → transport_by caps p src dst bytes ≡ Some (other bytes)
other-by caps protocol.Udp src dst bytes n k = absurd (n refl)
other-by caps protocol.Tcp src dst bytes n k = absurd (k refl)
other-by caps _ src dst bytes n k = refl

pub transport-read : (caps : ChecksumCapabilities) (p : IpProtocol) (src dst : IpAddress) (bytes : List ℕ) (t : Transport) → ReadsTransportBy caps p src dst bytes t
    → transport_by caps p src dst bytes ≡ Some t
transport-read caps p src dst bytes (datagram u q) (is, r) =
    let read = (udp_of-Reads src dst (verifies caps.udp) bytes u).1 (subst (λ x. udp.Reads bytes src dst (verifies caps.udp) u x) r.body r) in
    rw (is, read) (ap (λ x. Some (datagram u x)) (sym r.body))
transport-read caps p src dst bytes (segment u q) (is, r) =
    let read = (tcp_of-Reads src dst (verifies caps.tcp) bytes u).1 (subst (λ x. tcp.Reads bytes src dst (verifies caps.tcp) u x) r.body r) in
    rw (is, read) (ap (λ x. Some (segment u x)) (sym r.body))
transport-read caps p src dst bytes (other q) (n, k, is) = other-by caps p src dst bytes n k ∙ ap (λ x. Some (other x)) (sym is)

pub transport-only : (caps : ChecksumCapabilities) (p : IpProtocol) (src dst : IpAddress) (bytes : List ℕ) (t : Transport) → transport_by caps p src dst bytes ≡ Some t
    → ReadsTransportBy caps p src dst bytes t
transport-only caps protocol.Udp src dst bytes t e =
    let (u, read, is) = option_map-Some (λ u. datagram u (udp.payload_of bytes)) (udp.udp_of src dst (verifies caps.udp) bytes) t e in
    subst (ReadsTransportBy caps protocol.Udp src dst bytes) is (refl, (udp_of-Reads src dst (verifies caps.udp) bytes u).0 read)
transport-only caps protocol.Tcp src dst bytes t e =
    let (u, read, is) = option_map-Some (λ u. segment u _) (tcp.tcp_of src dst (verifies caps.tcp) bytes) t e in
    subst (ReadsTransportBy caps protocol.Tcp src dst bytes) is (refl, (tcp_of-Reads src dst (verifies caps.tcp) bytes u).0 read)
transport-only caps p src dst bytes t e =
    let is : other bytes ≡ t = cc in
    subst (ReadsTransportBy caps p src dst bytes) is ((λ udp. absurd (cc)), (λ tcp. absurd (cc)), refl)

-- ---- the IP header

pub header-read : (caps : ChecksumCapabilities) (t : EthernetProtocol) (bytes : List ℕ) (v : IpRepr) → t ≡ type_of v → ReadsPacket caps bytes v
    → header_by caps t bytes ≡ Some v
header-read caps t bytes (Ipv4 v) type (read, whole) = rw (type, whole, (ipv4_of-Reads (verifies caps.ipv4) bytes v).1 read) refl
header-read caps t bytes (Ipv6 v) type read = rw (type, (ipv6_of-Reads bytes v).1 read) refl

pub header-only : (caps : ChecksumCapabilities) (t : EthernetProtocol) (bytes : List ℕ) (v : IpRepr) → header_by caps t bytes ≡ Some v
    → (t ≡ type_of v) × ReadsPacket caps bytes v
header-only caps ethertype.Ipv4 bytes v e =
    let (whole, some) = else-Some (ipv4.is_fragment bytes) (option_map Ipv4 (ipv4.ipv4_of (verifies caps.ipv4) bytes)) v e in
    let (w, read, is) = option_map-Some Ipv4 (ipv4.ipv4_of (verifies caps.ipv4) bytes) v some in
    subst (λ x. (ethertype.Ipv4 ≡ type_of x) × ReadsPacket caps bytes x) is (refl, ((ipv4_of-Reads (verifies caps.ipv4) bytes w).0 read, whole))
header-only caps ethertype.Ipv6 bytes v e =
    let (w, read, is) = option_map-Some Ipv6 (ipv6.ipv6_of bytes) v e in
    subst (λ x. (ethertype.Ipv6 ≡ type_of x) × ReadsPacket caps bytes x) is (refl, (ipv6_of-Reads bytes w).0 read)
header-only caps _ bytes v e = absurd (cc)

-- ---- the frame

-- where an IP header is read, the packet is what the frame carries
pub carried-packet : (caps : ChecksumCapabilities) (t : EthernetProtocol) (bytes : List ℕ) (v : IpRepr) → t ≡ type_of v → ReadsPacket caps bytes v
    → carried_by caps t bytes ≡ option_map (packet v) (transport_after caps v bytes)
carried-packet caps t bytes (Ipv4 v) type read = rw (type, header-read caps ethertype.Ipv4 bytes (Ipv4 v) refl read) refl
carried-packet caps t bytes (Ipv6 v) type read = rw (type, header-read caps ethertype.Ipv6 bytes (Ipv6 v) refl read) refl

pub carried-read : (caps : ChecksumCapabilities) (t : EthernetProtocol) (bytes : List ℕ) (c : Carried) → ReadsCarried caps t bytes c → carried_by caps t bytes ≡ Some c
carried-read caps t bytes (message v) (type, read) = rw (type, (arp_of-Reads bytes v).1 read) refl
carried-read caps t bytes (packet v inner) (type, read, following) =
    carried-packet caps t bytes v type read ∙ ap (option_map (packet v)) (transport-read caps _ _ _ _ inner following)

pub carried-only : (caps : ChecksumCapabilities) (t : EthernetProtocol) (bytes : List ℕ) (c : Carried) → carried_by caps t bytes ≡ Some c → ReadsCarried caps t bytes c
carried-only caps ethertype.Arp bytes c e =
    let (v, read, is) = option_map-Some message (arp_of bytes) c e in
    subst (ReadsCarried caps ethertype.Arp bytes) is (refl, (arp_of-Reads bytes v).0 read)
carried-only caps t bytes c e =
    let (v, header, following) = option_and_then-Some (λ v. option_map (packet v) (transport_after caps v bytes)) (header_by caps t bytes) c e in
    let (s, found, is) = option_map-Some (packet v) (transport_after caps v bytes) c following in
    let (type, read) = header-only caps t bytes v header in
    subst (ReadsCarried caps t bytes) is (type, read, transport-only caps _ _ _ _ s found)

-- a frame has these values exactly if it reads as them
pub frame_of-Reads : (caps : ChecksumCapabilities) (frame : List ℕ) (link : EthernetRepr) (c : Carried)
    → (frame_of caps frame ≡ Some (link, c)) ↔ ReadsFrame caps frame link c
unfolding frame_of
frame_of-Reads caps frame link c = (
  λ e.
      let (l, header, following) = option_and_then-Some (λ l. option_map (λ c. (l, c)) (carried_by caps l.ethertype (drop 14 frame))) (ethernet_of frame) (link, c) e in
      let (d, found, is) = option_map-Some (λ c. (l, c)) (carried_by caps l.ethertype (drop 14 frame)) (link, c) following in
      let whole : ReadsFrame caps frame l d =
      record { reads_header = (ethernet_of-Reads frame l).0 header; reads_carried = carried-only caps l.ethertype (drop 14 frame) d found } in
      subst (λ (x : EthernetRepr × Carried). ReadsFrame caps frame x.0 x.1) is whole,
  λ r. rw ((ethernet_of-Reads frame link).1 r.reads_header, carried-read caps link.ethertype (drop 14 frame) c r.reads_carried) refl,
)
