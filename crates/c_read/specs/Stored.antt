-- The struct of a frame, by the values that the frame parses as.
-- Pinned by: `worked/read`
use Rattle.std.specs.Prelude.{ℕ, ◌≡◌, ◌≢◌, ◌⊎◌, ◌↔◌, ◌==◌, ◌&&◌, ◌+◌, ◌/◌, ◌%◌, nat_lt, if◌then◌else◌, IfSome, IsSome, IsTrue, Option, false, None, List, drop, length, slice_range, ⊤}
use Rattle.ip_wire.specs.Ethernet as ethernet
use Rattle.ip_wire.specs.Field.{field}
use Rattle.ip_wire.specs.Frame.{Carried, ReadsCarried, ReadsPacket, ReadsTransportBy, Transport, datagram, describe_carried, describe_transport, ipv4_payload, message, other, packet, packet_payload, segment, type_of}
use Rattle.ip_wire.specs.Ip.{dst_addr_of, next_header_of, src_addr_of}
use Rattle.ip_wire.specs.Ipv6.{payload_of}
use Rattle.ip_wire.specs.Protocol.{number_of, protocol_of}
use Rattle.ip_wire.specs.Tcp as tcp
use Rattle.ip_wire.specs.TcpRepr.{TcpHeader, seq_of}
use Rattle.ip_wire.specs.Types.{EthernetProtocol, EthernetRepr, IpAddress, IpProtocol, IpRepr, Ipv4, Ipv4Repr, Ipv6}
use Rattle.ip_wire.specs.declared.EthernetProtocol.TheVariants as ethertype
use Rattle.ip_wire.specs.declared.IpProtocol.TheVariants as protocol
use Rattle.ip_wire.specs.declared.TcpControl.{TcpControl}
use Rattle.ip_wire.specs.declared.TcpControl.TheVariants as control
use Rattle.ip_wire.specs.Checksum.{all_are, verifies}
use Rattle.ip_wire.specs.declared.Checksum.TheVariants as checksum
use Rattle.ip_wire.specs.declared.ChecksumCapabilities.{ChecksumCapabilities}
use Rattle.c_structs.specs.Codes.{network_code, transport_code, verdict_code}
use Rattle.c_structs.specs.Nothing.{nothing_of}
use Rattle.c_structs.specs.declared.codes.NetworkKind.TheVariants as network
use Rattle.c_structs.specs.declared.codes.Reason.{Reason}
use Rattle.c_structs.specs.declared.codes.Reason.TheVariants as reason
use Rattle.c_structs.specs.declared.codes.TransportKind.TheVariants as transport
use Rattle.c_structs.specs.declared.codes.Verdict.TheVariants as verdict
use Rattle.c_structs.specs.declared.types.FrameFields.{FrameFields}
use Rattle.wire_extensions.specs.Extension.{is_extension}
use Rattle.wire_extensions.specs.declared.chain.ExtensionFault.{ExtensionFault}
use Rattle.c_read.specs.FrameFields.{arp_fault, after_header, has_message, ipv4_fault, ipv6_fault, rejected, rejected_transport, tcp_fault, udp_fault, ipv6_chain, with_captured, with_chain, with_ipv4_header, with_ipv6_header, with_link, with_message, with_message_by, with_part, with_tcp_header, with_udp_header}

-- no checksum is verified
abbrev pub unchecked : ChecksumCapabilities
unchecked = all_are checksum.None

-- ---- what follows the extension headers of IPv6

-- the protocol that a packet carries after its IPv6 extension headers
abbrev pub upper_protocol : IpRepr → List ℕ → IpProtocol
upper_protocol (Ipv4 w) bytes = w.next_header
upper_protocol (Ipv6 w) bytes = protocol_of (ipv6_chain bytes).protocol

-- the bytes that a packet carries after its IPv6 extension headers
abbrev pub upper_payload : IpRepr → List ℕ → List ℕ
upper_payload (Ipv4 w) bytes = ipv4_payload bytes
upper_payload (Ipv6 w) bytes = drop (ipv6_chain bytes).len (payload_of bytes)

-- why an extension header of the packet is rejected, if one is
abbrev pub extension_fault_of : IpRepr → List ℕ → Option ExtensionFault
extension_fault_of (Ipv4 w) bytes = None
extension_fault_of (Ipv6 w) bytes = (ipv6_chain bytes).fault

-- the IP header is directly before what the packet carries
abbrev pub HasNoExtension : IpRepr → Type 0
HasNoExtension (Ipv4 w) = ⊤
HasNoExtension (Ipv6 w) = is_extension (number_of w.next_header) ≡ false

-- The payload of a frame of this type parses as what it carries. No IPv6 extension header is rejected, and they are stepped
-- through.
abbrev pub StepsCarried : ChecksumCapabilities → EthernetProtocol → List ℕ → Carried → Type 0
StepsCarried caps t bytes (message w) = ReadsCarried caps t bytes (message w)
StepsCarried caps t bytes (packet w inner) =
    (t ≡ type_of w) × ReadsPacket caps bytes w × (extension_fault_of w bytes ≡ None)
    × ReadsTransportBy caps (upper_protocol w bytes) (src_addr_of w) (dst_addr_of w) (upper_payload w bytes) inner

-- the frame parses as this header and what it carries, after IPv6 extension headers
pub record StepsFrame (caps : ChecksumCapabilities) (frame : List ℕ) (v : EthernetRepr) (w : Carried) : Type 0 where
  pub reads_header : ethernet.Reads frame v
  pub reads_carried : StepsCarried caps v.ethertype (drop 14 frame) w

-- ---- the struct of the headers

-- the struct of a frame after its Ethernet header
abbrev pub linked : List ℕ → EthernetRepr → FrameFields
linked frame v = with_link (nothing_of (length frame)) v (length (drop 14 frame))

-- the struct of a packet after its IP header and its IPv6 extension headers
abbrev pub headed_by : FrameFields → List ℕ → IpRepr → FrameFields
headed_by f bytes (Ipv4 w) = with_ipv4_header f bytes w
headed_by f bytes (Ipv6 w) = with_chain (with_ipv6_header f bytes w) (ipv6_chain bytes) (upper_payload (Ipv6 w) bytes)

-- the struct of a frame after its IP header and its IPv6 extension headers
abbrev pub headed : List ℕ → EthernetRepr → IpRepr → FrameFields
headed frame v w = headed_by (linked frame v) (drop 14 frame) w

-- the struct of a frame after a transport header of this protocol between two addresses, which the bytes begin with
abbrev pub transported : FrameFields → IpProtocol → IpAddress → IpAddress → List ℕ → Transport → FrameFields
transported f p src dst bytes (datagram v payload) = after_header (with_udp_header f src dst bytes) 8 (length payload)
transported f p src dst bytes (segment v payload) = after_header (with_tcp_header f src dst bytes) (tcp.header_len bytes) (length payload)
transported f p src dst bytes (other payload) = with_message_by f p src dst payload

-- the struct of a frame that parses as a whole
abbrev pub struct_of : List ℕ → EthernetRepr → Carried → FrameFields
struct_of frame v (message w) = with_message (linked frame v) w
struct_of frame v (packet w t) =
    let bytes = drop 14 frame in
    transported (headed frame v w) (upper_protocol w bytes) (src_addr_of w) (dst_addr_of w) (upper_payload w bytes) t

-- the struct of a frame whose UDP header is rejected; the header is stored if all of it is there
abbrev pub rejected_udp : FrameFields → IpAddress → IpAddress → List ℕ → FrameFields
rejected_udp f src dst bytes =
    if nat_lt (length bytes) 8 then rejected f reason.TooShort else rejected_transport (with_udp_header f src dst bytes) (udp_fault bytes)

-- the struct of a frame whose TCP header is rejected; the header is stored if all of it is there
abbrev pub rejected_tcp : FrameFields → IpAddress → IpAddress → List ℕ → FrameFields
rejected_tcp f src dst bytes =
    if nat_lt (length bytes) 20 then rejected f reason.TooShort else rejected_transport (with_tcp_header f src dst bytes) (tcp_fault bytes (length bytes))

-- why the header in a frame of this type is rejected; in a frame of an unknown type none is
abbrev pub network_fault : EthernetProtocol → List ℕ → Reason
network_fault ethertype.Arp bytes = arp_fault bytes
network_fault ethertype.Ipv4 bytes = ipv4_fault bytes
network_fault ethertype.Ipv6 bytes = ipv6_fault bytes
network_fault (ethertype.Unknown n) bytes = reason.Read

-- ---- the values in the struct in the struct

-- Of the flags FIN (1), SYN (2), RST (4) and PSH (8), the one that the control names is set. With FIN, SYN or RST,
-- PSH may be set too.
abbrev pub HasFlag : ℕ → TcpControl → Type 0
HasFlag flags control.Fin = flags % 8 ≡ 1
HasFlag flags control.Syn = flags % 8 ≡ 2
HasFlag flags control.Rst = flags % 8 ≡ 4
HasFlag flags control.Psh = flags % 16 ≡ 8
HasFlag flags control.None = flags % 16 ≡ 0

-- the struct has the values of a TCP header; in its flags ACK is 16
pub record HasSegment (f : FrameFields) (v : TcpHeader) : Type 0 where
  pub src_port : f.src.port ≡ v.src_port
  pub dst_port : f.dst.port ≡ v.dst_port
  pub seq_number : seq_of f.tcp.seq_number ≡ v.seq_number
  pub ack_number : IfSome v.ack_number (λ n. seq_of f.tcp.ack_number ≡ n)
  pub ack : IsSome v.ack_number ↔ (f.tcp.flags / 16 % 2 ≡ 1)
  pub control : HasFlag f.tcp.flags v.control
  pub window_len : f.tcp.window_len ≡ v.window_len

-- the struct has the values of a transport header
abbrev pub HasTransport : FrameFields → Transport → Type 0
HasTransport f (datagram v payload) = (f.src.port ≡ v.src_port) × (f.dst.port ≡ v.dst_port)
HasTransport f (segment v payload) = HasSegment f v
HasTransport f (other payload) = ⊤

-- the struct has the protocol of an IP header
abbrev pub HasProtocol : FrameFields → IpRepr → Type 0
HasProtocol f v = f.ip.protocol ≡ number_of (next_header_of v)

-- the struct has the values of what the frame carries
abbrev pub HasValues : FrameFields → Carried → Type 0
HasValues f (message v) = ⊤
HasValues f (packet v t) = HasProtocol f v × HasTransport f t

-- the payload after a transport header of this protocol, which may be that of an ICMP message
abbrev pub payload_after : IpProtocol → IpAddress → Transport → List ℕ
payload_after p src (other payload) = if has_message p src payload then drop 8 payload else payload
payload_after p src t = (describe_transport t).payload

-- the innermost payload of what these bytes of a frame hold
abbrev pub innermost : List ℕ → Carried → List ℕ
innermost bytes (message v) = (describe_carried (message v)).payload
innermost bytes (packet w t) = payload_after (upper_protocol w bytes) (src_addr_of w) t

-- the payload of the struct is these bytes of the frame
pub record Locates (f : FrameFields) (frame bytes : List ℕ) : Type 0 where
  pub len : f.payload_len ≡ length bytes
  pub octets : slice_range frame f.payload_offset (f.payload_offset + f.payload_len) ≡ bytes

-- ---- the whole frame

-- the struct stores all values of a frame that parses as a whole, and locates its innermost payload
pub record Stores (f : FrameFields) (frame : List ℕ) (v : EthernetRepr) (w : Carried) : Type 0 where
  pub fields : f ≡ with_captured (length frame) (struct_of frame v w)
  pub values : HasValues f w
  pub payload : Locates f frame (innermost (drop 14 frame) w)

-- the struct stores the headers of an IPv4 fragment and its ports; its payload is not parsed
pub record StoresFragment (f : FrameFields) (frame : List ℕ) (v : EthernetRepr) (w : Ipv4Repr) : Type 0 where
  pub part : f.is_fragment ≡ 1
  pub fields : f ≡ with_captured (length frame) (with_part (headed frame v (Ipv4 w)) (packet_payload (Ipv4 w) (drop 14 frame)))
  pub values : HasProtocol f (Ipv4 w)
  pub payload : Locates f frame (packet_payload (Ipv4 w) (drop 14 frame))

-- the struct stores these headers and a rejected header of this protocol after them; a header of another protocol is
-- not rejected
abbrev pub StoresRejectedBy : IpProtocol → FrameFields → FrameFields → IpAddress → IpAddress → List ℕ → Type 0
StoresRejectedBy protocol.Udp f headers src dst bytes = f ≡ rejected_udp headers src dst bytes
StoresRejectedBy protocol.Tcp f headers src dst bytes = f ≡ rejected_tcp headers src dst bytes
StoresRejectedBy _ f headers src dst bytes = ⊥

-- the struct stores a rejected transport header of a packet, or the headers before a rejected extension header
abbrev pub StoresFault : FrameFields → List ℕ → EthernetRepr → IpRepr → Type 0
StoresFault f frame v w =
    let bytes = drop 14 frame in
    ((extension_fault_of w bytes ≢ None) × (f ≡ headed frame v w))
    ⊎ StoresRejectedBy (upper_protocol w bytes) f (headed frame v w) (src_addr_of w) (dst_addr_of w) (upper_payload w bytes)

-- the struct stores a rejected header and the headers before it, and the payload begins at the rejected one
pub record StoresRejected (f : FrameFields) (frame : List ℕ) (v : EthernetRepr) (w : IpRepr) : Type 0 where
  pub part : f.is_fragment ≡ 0
  pub fields : (g : FrameFields) × (f ≡ with_captured (length frame) g) × StoresFault g frame v w
  pub values : HasProtocol f w
  pub payload : Locates f frame (upper_payload w (drop 14 frame))

-- the struct stores the Ethernet header before a rejected header or a payload of unknown type, where the payload
-- begins
pub record StoresUnread (f : FrameFields) (frame : List ℕ) (v : EthernetRepr) : Type 0 where
  pub fields : f ≡ with_captured (length frame) (rejected (linked frame v) (network_fault v.ethertype (drop 14 frame)))
  pub payload : Locates f frame (drop 14 frame)

-- each checksum of the frame that is verified is valid; that of a UDP packet over IPv4 may be missing
pub record HasVerdicts (caps : ChecksumCapabilities) (f : FrameFields) : Type 0 where
  pub ipv4 : IsTrue (verifies caps.ipv4) → f.network ≡ network_code network.Ipv4 → f.ipv4_checksum ≡ verdict_code verdict.Right
  pub udp : IsTrue (verifies caps.udp) → f.transport ≡ transport_code transport.Udp
      → (f.transport_checksum ≡ verdict_code verdict.Right) ⊎ (f.transport_checksum ≡ verdict_code verdict.LeftOut)
  pub tcp : IsTrue (verifies caps.tcp) → f.transport ≡ transport_code transport.Tcp → f.transport_checksum ≡ verdict_code verdict.Right

-- ---- a packet in a frame

-- a frame of this type holds IP packets of the version that these bytes begin with
abbrev pub IsTypeOf : EthernetProtocol → List ℕ → Type 0
IsTypeOf ethertype.Ipv4 bytes = field bytes 0 4 ≡ 4
IsTypeOf ethertype.Ipv6 bytes = field bytes 0 4 ≡ 6
IsTypeOf _ bytes = ⊥

-- the struct of a packet after an Ethernet header, from that of the packet by itself; each stored header begins 14
-- bytes later
abbrev pub in_frame : EthernetRepr → FrameFields → FrameFields
in_frame v f = record f {
  network_offset = if f.network == 0 then 0 else f.network_offset + 14;
  transport_offset = if f.transport == 0 && (f.rejected == 0) then 0 else f.transport_offset + 14;
  payload_offset = f.payload_offset + 14;
  ethernet = (with_link f v 0).ethernet;
}
