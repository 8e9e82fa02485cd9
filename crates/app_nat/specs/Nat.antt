-- Network address translation of one address and port (RFC 3022, sections 2.2 and 4.1), with updated checksums (RFC 1624).
-- Pinned by: `worked/nat`, `worked/mappings`, `NatOnce`
use Rattle.std.specs.Prelude.{ℕ, ⊤, ◌≡◌, ◌≢◌, ◌⊎◌, ◌↔◌, ◌++◌, ◌==◌, ◌&&◌, not, is_some, if◌then◌else◌, Bool, true, List, [], Option, Some, None, drop, take, slice_range}
use Rattle.std.specs.Option.{option_map, option_map_or, option_or}
use Rattle.ip_wire.specs.Ethernet as ethernet
use Rattle.ip_wire.specs.Ethernet.{ethernet_of}
use Rattle.ip_wire.specs.Field.{field, with_field, with_range}
use Rattle.ip_wire.specs.Frame as whole
use Rattle.ip_wire.specs.Frame.{IsReadWhole, ReadsPacket, ReadsTransport, all_checked, ipv4_payload, packet, transport_by}
use Rattle.ip_wire.specs.HeaderFault.{ipv4_fault}
use Rattle.ip_wire.specs.Ipv4 as ipv4
use Rattle.ip_wire.specs.Protocol.{protocol_of}
use Rattle.ip_wire.specs.Tcp as tcp
use Rattle.ip_wire.specs.TcpRepr.{TcpHeader}
use Rattle.ip_wire.specs.Udp as udp
use Rattle.ip_wire.specs.WordSum.{sum_of_bytes}
use Rattle.ip_wire.specs.declared.EthernetProtocol.TheVariants as ethertype
use Rattle.ip_wire.specs.declared.HeaderFault.{HeaderFault}
use Rattle.ip_wire.specs.declared.HeaderFault.TheVariants as header
use Rattle.ip_wire.specs.Types.{EthernetProtocol, EthernetRepr, IpProtocol, Ipv4, Ipv4Repr, UdpRepr}
use Rattle.ip_wire.specs.declared.IpAddress.TheVariants as address
use Rattle.ip_wire.specs.declared.IpProtocol.TheVariants as protocol
use Rattle.ip_wire.specs.declared.IpVersion.TheVariants as version
use Rattle.wire_icmp.specs.Icmp as icmp
use Rattle.wire_icmp.specs.declared.icmp.repr.IcmpRepr.{IcmpRepr}
use Rattle.wire_icmp.specs.declared.icmp.repr.IcmpRepr.TheVariants.{EchoRequest, EchoReply}
use Rattle.app_nat.specs.declared.translation.Rejection.{Rejection}
use Rattle.app_nat.specs.declared.translation.Rejection.TheVariants.{NotIpv4, BadHeader, WrongChecksum, Fragment, OtherProtocol, BadTransport, ZeroPort}
use Rattle.app_edit.specs.Layout.{with_payload}
use Rattle.app_edit.specs.declared.side.Side.{Side}
use Rattle.app_edit.specs.declared.side.Side.TheVariants.{Source, Destination}
use Rattle.app_nat.specs.declared.packet.Kind.{Kind}
use Rattle.app_nat.specs.declared.packet.Kind.TheVariants as kind
use Rattle.app_nat.specs.declared.packet.Packet.{Packet}

-- ---- values

-- the address of a header on this side
abbrev pub addr_of : Side → Ipv4Repr → List ℕ
addr_of Source v = v.src_addr
addr_of Destination v = v.dst_addr

-- the header with another address on this side
abbrev pub with_addr : Side → List ℕ → Ipv4Repr → Ipv4Repr
with_addr Source addr v = record v { src_addr = addr }
with_addr Destination addr v = record v { dst_addr = addr }

-- the UDP header with another port on this side
abbrev pub with_udp_port : Side → ℕ → UdpRepr → UdpRepr
with_udp_port Source port v = record v { src_port = port }
with_udp_port Destination port v = record v { dst_port = port }

-- the TCP header with another port on this side
abbrev pub with_tcp_port : Side → ℕ → TcpHeader → TcpHeader
with_tcp_port Source port v = record v { src_port = port }
with_tcp_port Destination port v = record v { dst_port = port }

-- what a NAT translates in a packet: a UDP packet, a TCP segment, or an ICMP echo message with its identifier, its sequence
-- number and its data
pub data Transport : Type 0 where
  datagram : UdpRepr → List ℕ → Transport
  segment : TcpHeader → List ℕ → Transport
  request : ℕ → ℕ → List ℕ → Transport
  reply : ℕ → ℕ → List ℕ → Transport

-- the port on a side, of a source and a destination port
abbrev pub on_side : ℕ → ℕ → Side → ℕ
on_side src dst Source = src
on_side src dst Destination = dst

-- The port of a transport on a side. The identifier of an echo message counts as its port on either side (RFC 5508,
-- section 3.1).
abbrev pub port_of : Side → Transport → ℕ
port_of side (datagram v payload) = on_side v.src_port v.dst_port side
port_of side (segment v payload) = on_side v.src_port v.dst_port side
port_of side (request ident seq_no payload) = ident
port_of side (reply ident seq_no payload) = ident

-- the transport with another port on this side
abbrev pub with_port : Side → ℕ → Transport → Transport
with_port side port (datagram v payload) = datagram (with_udp_port side port v) payload
with_port side port (segment v payload) = segment (with_tcp_port side port v) payload
with_port side port (request ident seq_no payload) = request port seq_no payload
with_port side port (reply ident seq_no payload) = reply port seq_no payload

-- A receiver accepts this port on this side: any source port of a UDP packet, where 0 means that no reply is expected
-- (RFC 768), any identifier of an echo message, else any port but 0.
abbrev pub AllowsPort : Side → Transport → ℕ → Type 0
AllowsPort Source (datagram v payload) port = ⊤
AllowsPort side (request ident seq_no payload) port = ⊤
AllowsPort side (reply ident seq_no payload) port = ⊤
AllowsPort _ _ port = port ≢ 0

-- the kind of a transport, with the control flag of a TCP segment
abbrev pub kind_of : Transport → Kind
kind_of (datagram v payload) = kind.Udp
kind_of (segment v payload) = kind.Tcp v.control
kind_of (request ident seq_no payload) = kind.EchoRequest
kind_of (reply ident seq_no payload) = kind.EchoReply

-- the ports and the kind of this packet are those of the transport
pub record Describes (p : Packet) (transport : Transport) : Type 0 where
  pub src_port : p.src_port ≡ port_of Source transport
  pub dst_port : p.dst_port ≡ port_of Destination transport
  pub kind : p.kind ≡ kind_of transport

-- ---- bytes

-- the first bit of the port on this side of a UDP or TCP header
abbrev pub port_bit : Side → ℕ
port_bit Source = 0
port_bit Destination = 16

-- The bytes of a packet with another port on this side, for a new address there; this function updates its checksum.
-- The checksum is updated for the address; then the port is written and the checksum updated for it.
abbrev pub with_end_by : (List ℕ → ℕ → ℕ → List ℕ) → Side → List ℕ → List ℕ → ℕ → List ℕ → List ℕ
with_end_by update side old new port bytes =
    let covered = update bytes (sum_of_bytes old) (sum_of_bytes new) in
    update (with_field covered (port_bit side) 16 port) (field covered (port_bit side) 16) port

-- the bytes of a UDP packet with another port on this side, for a new address there; a checksum of 0 stays 0
abbrev pub with_udp_end : Side → List ℕ → List ℕ → ℕ → List ℕ → List ℕ
with_udp_end = with_end_by udp.with_updated_checksum

-- the bytes of a TCP segment with another port on this side, for a new address there
abbrev pub with_tcp_end : Side → List ℕ → List ℕ → ℕ → List ℕ → List ℕ
with_tcp_end = with_end_by tcp.with_updated_checksum

-- The bytes of an echo message with this identifier and a new checksum. Over IPv4 the checksum covers no address.
abbrev pub with_echo_ident : List ℕ → ℕ → List ℕ → List ℕ
with_echo_ident addr ident bytes = icmp.with_checksum (address.Ipv4 addr) (address.Ipv4 addr) (with_field bytes 32 16 ident)

-- the payload of a packet of this protocol, for a new address on this side, with this port
abbrev pub with_end : IpProtocol → Side → List ℕ → List ℕ → ℕ → List ℕ → List ℕ
with_end protocol.Udp side old new port bytes = with_udp_end side old new port bytes
with_end protocol.Tcp side old new port bytes = with_tcp_end side old new port bytes
with_end protocol.Icmp side old new port bytes = with_echo_ident new port bytes
with_end _ side old new port bytes = bytes

-- the address of an IPv4 header on this side
abbrev pub addr_at : Side → List ℕ → List ℕ
addr_at Source bytes = slice_range bytes 12 16
addr_at Destination bytes = slice_range bytes 16 20

-- the bytes of an IPv4 packet with another address on this side and an updated header checksum
abbrev pub with_address : Side → List ℕ → List ℕ → List ℕ
with_address Source addr bytes =
    ipv4.with_updated_checksum (with_range bytes 12 16 addr) (sum_of_bytes (slice_range bytes 12 16)) (sum_of_bytes addr)
with_address Destination addr bytes =
    ipv4.with_updated_checksum (with_range bytes 16 20 addr) (sum_of_bytes (slice_range bytes 16 20)) (sum_of_bytes addr)

-- the bytes of an IPv4 packet with another address and port on this side and updated checksums
abbrev pub translated_packet : Side → List ℕ → ℕ → List ℕ → List ℕ
translated_packet side addr port bytes =
    let payload = with_end (protocol_of (field bytes 72 8)) side (addr_at side bytes) addr port (ipv4_payload bytes) in
    with_address side addr (with_payload version.Ipv4 bytes payload)

-- the bytes of a frame with the translated packet
abbrev pub translated : Side → List ℕ → ℕ → List ℕ → List ℕ
translated side addr port frame = take 14 frame ++ translated_packet side addr port (drop 14 frame)

-- the frame carries a UDP packet with checksum 0: its sender computed none
abbrev pub LacksChecksum : List ℕ → Type 0
LacksChecksum frame = (protocol_of (field (drop 14 frame) 72 8) ≡ protocol.Udp) × (field (ipv4_payload (drop 14 frame)) 48 16 ≡ 0)

-- ---- accepted frames

-- the payload of a packet with this header is an ICMP message that parses as this value and data, with its checksum
abbrev pub ReadsMessage : Ipv4Repr → List ℕ → IcmpRepr → List ℕ → Type 0
ReadsMessage header bytes v payload =
    (header.next_header ≡ protocol.Icmp) × icmp.Reads bytes (address.Ipv4 header.src_addr) (address.Ipv4 header.dst_addr) true v payload

-- the payload of a packet with this header parses as this transport, with its checksum
abbrev pub ReadsPorts : Ipv4Repr → List ℕ → Transport → Type 0
ReadsPorts header bytes (datagram v payload) = ReadsTransport all_checked (Ipv4 header) bytes (whole.datagram v payload)
ReadsPorts header bytes (segment v payload) = ReadsTransport all_checked (Ipv4 header) bytes (whole.segment v payload)
ReadsPorts header bytes (request ident seq_no payload) = ReadsMessage header bytes (EchoRequest ident seq_no) payload
ReadsPorts header bytes (reply ident seq_no payload) = ReadsMessage header bytes (EchoReply ident seq_no) payload

-- the bytes are an IPv4 packet with this header that is no fragment and carries this transport; all checksums are valid
pub record CarriesPorts (bytes : List ℕ) (header : Ipv4Repr) (transport : Transport) : Type 0 where
  pub reads : ReadsPacket all_checked bytes (Ipv4 header)
  pub carries : ReadsPorts header (ipv4_payload bytes) transport

-- If a receiver accepts the other port: bytes that parse as this transport after this header parse, after the change,
-- as the transport with the other port, after the header with the other address.
abbrev pub Rewrites : Ipv4Repr → List ℕ → List ℕ → Side → List ℕ → ℕ → Transport → Type 0
Rewrites header old new side addr port transport =
    AllowsPort side transport port → ReadsPorts header old transport → ReadsPorts (with_addr side addr header) new (with_port side port transport)

-- the frame has this Ethernet header, with EtherType IPv4
pub record IsIpv4Frame (frame : List ℕ) (link : EthernetRepr) : Type 0 where
  pub reads : ethernet.Reads frame link
  pub names : link.ethertype ≡ ethertype.Ipv4

-- the frame carries a whole IPv4 packet with this header and payload; its header checksum is valid
pub record CarriesWhole (frame : List ℕ) (header : Ipv4Repr) (payload : List ℕ) : Type 0 where
  pub link : EthernetRepr
  pub is : IsIpv4Frame frame link
  pub reads : ReadsPacket all_checked (drop 14 frame) (Ipv4 header)
  pub inner : payload ≡ ipv4_payload (drop 14 frame)

-- the transport of a packet with this payload, as a receiver without ICMP parses it
abbrev pub plain : Transport → List ℕ → whole.Transport
plain (datagram v payload) bytes = whole.datagram v payload
plain (segment v payload) bytes = whole.segment v payload
plain _ bytes = whole.other bytes

-- the frame has this Ethernet header, and carries an IPv4 packet with this header and this transport; all checksums
-- are valid
pub record Carries (frame : List ℕ) (link : EthernetRepr) (header : Ipv4Repr) (transport : Transport) : Type 0 where
  pub reads : IsReadWhole frame link (packet (Ipv4 header) (plain transport (ipv4_payload (drop 14 frame))))
  pub ports : ReadsPorts header (ipv4_payload (drop 14 frame)) transport

-- the frame carries this packet
pub record IsPacket (frame : List ℕ) (p : Packet) : Type 0 where
  pub link : EthernetRepr
  pub transport : Transport
  pub carries : Carries frame link p.header transport
  pub described : Describes p transport

-- why a packet that parses as this transport is not translated, or does not parse: it is neither UDP nor TCP
abbrev pub ports_fault : Option whole.Transport → Option Rejection
ports_fault None = Some BadTransport
ports_fault (Some (whole.other bytes)) = Some OtherProtocol
ports_fault (Some t) = None

-- the kind of an ICMP message with this type and code, if it is an echo request or an echo reply (RFC 792)
abbrev pub echo_kind : ℕ → ℕ → Option Kind
echo_kind type code =
    if type == 8 && code == 0 then Some kind.EchoRequest else if type == 0 && code == 0 then Some kind.EchoReply else None

-- the bytes are long enough for an ICMP message over IPv4, and have its checksum
abbrev pub is_message : List ℕ → Bool
is_message bytes = icmp.has_header bytes && sum_of_bytes bytes == 65535

-- Why this ICMP message is not translated: it is no echo, or it is too short or has a wrong checksum. In a message of less
-- than 2 bytes, the type and the code count as 0 if they are missing.
abbrev pub echo_fault : List ℕ → Option Rejection
echo_fault bytes =
    if not (is_some (echo_kind (field bytes 0 8) (field bytes 8 8))) then Some OtherProtocol
    else if is_message bytes then None
    else Some BadTransport

-- why the payload of a packet of this protocol, with this header, is not translated
abbrev pub transport_fault_by : IpProtocol → Ipv4Repr → List ℕ → Option Rejection
transport_fault_by protocol.Icmp v bytes = echo_fault bytes
transport_fault_by p v bytes = ports_fault (transport_by all_checked p (address.Ipv4 v.src_addr) (address.Ipv4 v.dst_addr) bytes)

-- why the payload of a packet with this header is not translated
abbrev pub transport_fault : Ipv4Repr → List ℕ → Option Rejection
transport_fault v bytes = transport_fault_by v.next_header v bytes

-- the rejection for a fault of an IPv4 header
abbrev pub of_header : HeaderFault → Rejection
of_header header.BadHeader = BadHeader
of_header header.WrongChecksum = WrongChecksum
of_header _ = NotIpv4

-- why the packet in a frame of this type is no whole IPv4 packet: its header is rejected, or it is a fragment
abbrev pub whole_fault_by : EthernetProtocol → List ℕ → Option Rejection
whole_fault_by ethertype.Ipv4 bytes = option_or (option_map of_header (ipv4_fault bytes)) (if ipv4.is_fragment bytes then Some Fragment else None)
whole_fault_by _ bytes = Some NotIpv4

-- the reason why the frame with these bytes is not translated
abbrev pub whole_fault : List ℕ → Option Rejection
whole_fault frame = option_map_or (λ link. whole_fault_by link.ethertype (drop 14 frame)) (ethernet_of frame) (Some NotIpv4)

-- why a frame is rejected: it carries no whole IPv4 packet, or else for the reason that this function gives for its header
-- and payload
abbrev pub frame_fault : (Ipv4Repr → List ℕ → Option Rejection) → List ℕ → Option Rejection
frame_fault fault_of frame = option_or (whole_fault frame) (fault_of (ipv4.header_of (drop 14 frame)) (ipv4_payload (drop 14 frame)))

-- why a frame does not carry one of these transports
abbrev pub packet_fault : List ℕ → Option Rejection
packet_fault frame = frame_fault transport_fault frame

-- the frame is rejected for this reason
abbrev pub IsRejected : List ℕ → Rejection → Type 0
IsRejected frame reason = packet_fault frame ≡ Some reason

-- the frame carries a packet that no receiver accepts with this port on this side
pub record RejectsPort (frame : List ℕ) (side : Side) (port : ℕ) : Type 0 where
  pub link : EthernetRepr
  pub header : Ipv4Repr
  pub transport : Transport
  pub carries : Carries frame link header transport
  pub disallowed : ¬ AllowsPort side transport port

-- the reason why a frame does not get this port on this side: it is not parsed, or no receiver accepts the port
abbrev pub IsUntranslated : List ℕ → Side → ℕ → Rejection → Type 0
IsUntranslated frame side port reason = IsRejected frame reason ⊎ ((reason ≡ ZeroPort) × RejectsPort frame side port)

-- ---- before and after

-- The old frame parses with valid checksums. The new one parses as the same values, except the address and the port on
-- this side, and its checksums are valid. A UDP packet has a checksum exactly if it had one. These are all the bytes.
pub record IsTranslated (old new : List ℕ) (side : Side) (addr : List ℕ) (port : ℕ) : Type 0 where
  pub link : EthernetRepr
  pub header : Ipv4Repr
  pub transport : Transport
  pub before : Carries old link header transport
  pub after : Carries new link (with_addr side addr header) (with_port side port transport)
  pub unsummed : LacksChecksum old ↔ LacksChecksum new
  pub bytes : new ≡ translated side addr port old

-- the checksum of the ICMP message is the one that a sender over IPv4 computes
abbrev pub HasUsualSum : List ℕ → Type 0
HasUsualSum bytes = icmp.with_checksum (address.Ipv4 []) (address.Ipv4 []) bytes ≡ bytes

-- Neither the IPv4 checksum nor that of a TCP segment is 0xffff. A sender that computes it writes 0 instead of 0xffff. The
-- checksum of an ICMP message is the one that a sender computes.
pub record HasUsualChecksums (frame : List ℕ) : Type 0 where
  pub ipv4 : field (drop 14 frame) 80 16 ≢ 65535
  pub tcp : protocol_of (field (drop 14 frame) 72 8) ≡ protocol.Tcp → field (ipv4_payload (drop 14 frame)) 128 16 ≢ 65535
  pub icmp : protocol_of (field (drop 14 frame) 72 8) ≡ protocol.Icmp → HasUsualSum (ipv4_payload (drop 14 frame))
