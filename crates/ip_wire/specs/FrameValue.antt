-- Whole frames as values: parsed, emitted and printed.
-- Pinned by: `wire/frame`, `FrameOnce`, `tests/frames/again_lines.py`, `apps/uses`, `UnreadWorked`
use Rattle.std.specs.Prelude.{List, ℕ, [], ⊤, ◌≡◌, ◌≤◌, ◌++◌, ◌+◌, Option, Some, None, Result, Ok, Err, MatchOption, drop, length, true}
use Rattle.std.specs.Option.{option_and_then, option_map, option_map_or}
use Rattle.ip_wire.specs.Frame as frame
use Rattle.ip_wire.specs.Frame.{IsComputed, ReadsCarried, ReadsFrame, ReadsPacket, ReadsTransport, describe_transport, next_line, packet_payload, type_of}
use Rattle.ip_wire.specs.declared.frame.Frame.{Frame}
use Rattle.ip_wire.specs.declared.frame.carried.Carried.{Carried}
use Rattle.ip_wire.specs.declared.frame.carried.Carried.TheVariants as carried
use Rattle.ip_wire.specs.declared.frame.transport.Transport.{Transport}
use Rattle.ip_wire.specs.declared.frame.transport.Transport.TheVariants as transport
use Rattle.net_base.specs.Checksum.{computes, verifies}
use Rattle.net_base.specs.declared.ChecksumCapabilities.{ChecksumCapabilities}
use Rattle.ip_wire.specs.Types.{ArpRepr, EthernetAddress, EthernetProtocol, EthernetRepr, IpProtocol, IpRepr, Ipv4, Ipv4Repr, Ipv6}
use Rattle.wire_arp.specs.Arp as arp
use Rattle.wire_arp.specs.ArpText as arp_text
use Rattle.wire_addr.specs.declared.IpVersion.TheVariants as version
use Rattle.wire_ethernet.specs.Ethernet as ethernet
use Rattle.wire_ethernet.specs.declared.EthernetProtocol.TheVariants as ethertype
use Rattle.wire_ip.specs.Ip as ip
use Rattle.wire_ip.specs.Ip.{dst_addr_of, header_before, src_addr_of, with_payload_len}
use Rattle.wire_ipv4.specs.Ipv4 as ipv4
use Rattle.wire_ipv4.specs.Ipv4Text as ipv4_text
use Rattle.wire_ipv6.specs.Ipv6Text as ipv6_text
use Rattle.wire_tcp.specs.TcpRepr as tcp

-- ---- what a packet carries

-- the values of a parsed transport, without borrows; none for bytes that do not parse
abbrev pub transport_of : Transport → Option frame.Transport
transport_of (transport.Udp u payload) = Some (frame.datagram u payload.now)
transport_of (transport.Tcp u) = Some (frame.segment (tcp.header_of u) u.payload.now)
transport_of (transport.Other payload) = Some (frame.other payload.now)
transport_of (transport.Unread kept) = None

-- the bytes of a transport that do not parse
abbrev pub kept_of : Transport → List ℕ
kept_of (transport.Unread kept) = kept.now
kept_of _ = []

-- the emitted bytes of a transport in a packet with this header; bytes that do not parse are copied
abbrev pub transport_bytes : ChecksumCapabilities → IpRepr → Transport → List ℕ
transport_bytes caps v t =
    option_map_or (λ read. (describe_transport read).bytes caps (src_addr_of v) (dst_addr_of v)) (transport_of t) (kept_of t)

-- the number of bytes of a transport with its header
abbrev pub transport_len : Transport → ℕ
transport_len t = option_map_or (λ read. (describe_transport read).len) (transport_of t) (length (kept_of t))

-- the length fields of the transport header can express its lengths
abbrev pub FitsTransport : Transport → Type 0
FitsTransport t = MatchOption (transport_of t) ⊤ (λ read. (describe_transport read).fits)

-- the IP header names this transport, and no port is 0 that must not be
abbrev pub NamesTransport : IpRepr → Transport → Type 0
NamesTransport v t = MatchOption (transport_of t) ⊥ (λ read. (describe_transport read).named_by v)

-- the line of a transport; bytes that do not parse have none
abbrev pub transport_text : Transport → List ℕ
transport_text t = option_map_or (λ read. (describe_transport read).text) (transport_of t) []

-- the payload of a transport, if it parses
abbrev pub transport_payload : Transport → Option (List ℕ)
transport_payload t = option_map (λ read. (describe_transport read).payload) (transport_of t)

-- the normal form of a transport, if it parses
abbrev pub normal_transport_of : Transport → Option frame.Transport
normal_transport_of t = option_map frame.normal_transport (transport_of t)

-- the payload of a packet with this header parses as this transport
abbrev pub ParsesTransport : ChecksumCapabilities → IpRepr → List ℕ → Transport → Type 0
ParsesTransport caps v bytes t = (read : frame.Transport) × (transport_of t ≡ Some read) × ReadsTransport caps v bytes read

-- the result is this transport
abbrev pub GivesTransport : {E : Type 0} → Result Transport E → frame.Transport → Type 0
GivesTransport (Ok t) read = transport_of t ≡ Some read
GivesTransport (Err e) read = ⊥

-- the payload of a packet with this header parses as this transport, or it does not parse and its bytes are kept
abbrev pub FindsTransport : ChecksumCapabilities → IpRepr → List ℕ → Transport → Type 0
FindsTransport caps v bytes t =
    MatchOption (transport_of t) (((read : frame.Transport) → ¬ ReadsTransport caps v bytes read) × (transport_bytes caps v t ≡ bytes))
    (ReadsTransport caps v bytes)

-- ---- what a frame carries

-- The bytes begin with an IP header of the version that the type names. Its checksum is valid if it is verified.
abbrev pub ReadsHeader : ChecksumCapabilities → EthernetProtocol → List ℕ → IpRepr → Type 0
ReadsHeader caps t bytes v = (t ≡ type_of v) × ip.ReadsHeader bytes (verifies caps.ipv4) v

-- the payload of a frame of this type is no ARP packet, and begins with no IP header
pub record ReadsNothing (caps : ChecksumCapabilities) (t : EthernetProtocol) (bytes : List ℕ) : Type 0 where
  pub no_message : (v : ArpRepr) → t ≡ ethertype.Arp → ¬ arp.Reads bytes v
  pub no_header : (v : IpRepr) → ¬ ReadsHeader caps t bytes v

-- the emitted bytes of an IP packet: its header gets the length of the transport
abbrev pub packet_bytes : ChecksumCapabilities → IpRepr → Transport → List ℕ
packet_bytes caps v t = ip.bytes_of (with_payload_len v (transport_len t)) (computes caps.ipv4) ++ transport_bytes caps v t

-- the printed text of an IP header
abbrev pub header_text : IpRepr → List ℕ
header_text (Ipv4 v) = ipv4_text.value_text v
header_text (Ipv6 v) = ipv6_text.value_text v

-- What is defined for each kind of payload of a frame: an ARP packet, an IP packet, a fragment, or bytes that do not
-- parse.
pub record CarriedDescription : Type 1 where
  -- the values without borrows, if all of them were parsed, and their normal form: an IP header has the length of the
  -- payload that follows it
  pub value : Option frame.Carried
  pub normal : Option frame.Carried
  -- the emitted bytes, and their number
  pub bytes : ChecksumCapabilities → List ℕ
  pub len : ℕ
  -- the innermost payload, if all of it was parsed; ARP has none
  pub payload : Option (List ℕ)
  -- the length fields of the headers can express their lengths
  pub fits : Type 0
  -- the EtherType names it, and each of its headers names what follows it
  pub named_by : EthernetProtocol → Type 0
  -- the sender computed each checksum that the receiver verifies
  pub computed : ChecksumCapabilities → ChecksumCapabilities → Type 0
  -- the payload of a frame of this type is parsed up to a header that does not parse, and the bytes from there on are kept
  pub found_in : ChecksumCapabilities → EthernetProtocol → List ℕ → Type 0
  -- the lines that it prints as; bytes that do not parse have none
  pub text : List ℕ

-- what is defined for an ARP packet
abbrev pub describe_message : ArpRepr → CarriedDescription
describe_message v = record {
  value = Some (frame.message v);
  normal = Some (frame.message (arp.normal v));
  bytes = λ caps. arp.bytes_of v;
  len = 28;
  payload = None;
  fits = ⊤;
  named_by = λ t. ethernet.number_of t ≡ 0x0806;
  computed = λ sent received. ⊤;
  found_in = λ caps t bytes. (t ≡ ethertype.Arp) × arp.Reads bytes v;
  text = next_line (arp_text.value_text v);
}

-- what is defined for an IP packet with this header and transport
abbrev pub describe_packet : IpRepr → Transport → CarriedDescription
describe_packet v inner = record {
  value = option_map (frame.packet v) (transport_of inner);
  normal = option_map (frame.packet (ip.normal (with_payload_len v (transport_len inner)))) (normal_transport_of inner);
  bytes = λ caps. packet_bytes caps v inner;
  len = ip.header_len_of v + transport_len inner;
  payload = transport_payload inner;
  fits = (transport_len inner ≤ ip.max_payload_len v) × FitsTransport inner;
  named_by = λ t. (ethernet.number_of t ≡ ethernet.number_of (type_of v)) × NamesTransport v inner;
  computed = λ sent received.
      (ip.version_of v ≡ version.Ipv4 → IsComputed sent.ipv4 received.ipv4)
      × MatchOption (transport_of inner) ⊤ (λ read. (describe_transport read).computed sent received);
  found_in = λ caps t bytes. (t ≡ type_of v) × ReadsPacket caps bytes v × FindsTransport caps v (packet_payload v bytes) inner;
  text = next_line (header_text v) ++ transport_text inner;
}

-- what is defined for bytes that are emitted as they are
abbrev pub describe_kept : List ℕ → (ChecksumCapabilities → EthernetProtocol → List ℕ → Type 0) → List ℕ → CarriedDescription
describe_kept kept found_in text = record {
  value = None;
  normal = None;
  bytes = λ caps. kept;
  len = length kept;
  payload = None;
  fits = ⊤;
  named_by = λ t. ⊥;
  computed = λ sent received. ⊤;
  found_in = found_in;
  text = text;
}

-- what is defined for a fragment of an IPv4 packet
abbrev pub describe_fragment : List ℕ → CarriedDescription
describe_fragment part =
    describe_kept part (λ caps t bytes. (part ≡ bytes) × (ipv4.is_fragment bytes ≡ true) × ((v : Ipv4Repr) × ReadsHeader caps t bytes (Ipv4 v)))
    (next_line (ipv4_text.packet_text part))

-- what is defined for each kind of payload of a frame
abbrev pub describe_carried : Carried → CarriedDescription
describe_carried (carried.Arp v) = describe_message v
describe_carried (carried.Packet v inner) = describe_packet v inner
describe_carried (carried.Fragment part) = describe_fragment (ipv4.packet_bytes part)
describe_carried (carried.Unread kept) = describe_kept kept.now (λ caps t bytes. ReadsNothing caps t bytes × (kept.now ≡ bytes)) []

-- the values of what a frame carries, without borrows, if all of them were parsed
abbrev pub carried_of : Carried → Option frame.Carried
carried_of c = (describe_carried c).value

-- the normal form of what a frame carries, if all of it was parsed
abbrev pub normal_carried_of : Carried → Option frame.Carried
normal_carried_of c = (describe_carried c).normal

-- the emitted bytes of what a frame carries
abbrev pub carried_bytes : ChecksumCapabilities → Carried → List ℕ
carried_bytes caps c = (describe_carried c).bytes caps

-- the number of bytes of what a frame carries
abbrev pub carried_len : Carried → ℕ
carried_len c = (describe_carried c).len

-- the innermost payload of what a frame carries, if all of it was parsed; ARP has none
abbrev pub carried_payload : Carried → Option (List ℕ)
carried_payload c = (describe_carried c).payload

-- the length fields of the headers in a frame's payload can express their lengths
abbrev pub FitsCarried : Carried → Type 0
FitsCarried c = (describe_carried c).fits

-- an EtherType names what the frame carries, and each header in it names what follows
abbrev pub AgreesCarried : EthernetProtocol → Carried → Type 0
AgreesCarried t c = (describe_carried c).named_by t

-- the payload of a frame of this type is parsed up to a header that does not parse, and the bytes from there on are
-- kept
abbrev pub FindsCarried : ChecksumCapabilities → EthernetProtocol → List ℕ → Carried → Type 0
FindsCarried caps t bytes c = (describe_carried c).found_in caps t bytes

-- the printed lines of what a frame carries; bytes that do not parse have none
abbrev pub carried_text : Carried → List ℕ
carried_text c = (describe_carried c).text

-- the payload of a frame of this type parses as these values
abbrev pub ParsesCarried : ChecksumCapabilities → EthernetProtocol → List ℕ → Carried → Type 0
ParsesCarried caps t bytes c = (read : frame.Carried) × (carried_of c ≡ Some read) × ReadsCarried caps t bytes read

-- the result is these values
abbrev pub GivesCarried : {E : Type 0} → Result Carried E → frame.Carried → Type 0
GivesCarried (Ok c) read = carried_of c ≡ Some read
GivesCarried (Err e) read = ⊥

-- ---- whole frames

-- the frame parses as this value
abbrev pub Parses : ChecksumCapabilities → List ℕ → Frame → Type 0
Parses caps bytes f = (read : frame.Carried) × (carried_of f.carried ≡ Some read) × ReadsFrame caps bytes f.header read

-- the result is these values
abbrev pub Gives : {E : Type 0} → Result Frame E → EthernetRepr → frame.Carried → Type 0
Gives (Ok f) header read = (f.header ≡ header) × (carried_of f.carried ≡ Some read)
Gives (Err e) header read = ⊥

-- the frame is parsed up to a header that does not parse, and the bytes from there on are kept
pub record Finds (caps : ChecksumCapabilities) (bytes : List ℕ) (f : Frame) : Type 0 where
  pub header : ethernet.Reads bytes f.header
  pub carried : FindsCarried caps f.header.ethertype (drop 14 bytes) f.carried

-- the emitted bytes of a frame
abbrev pub frame_bytes : ChecksumCapabilities → Frame → List ℕ
frame_bytes caps f = ethernet.bytes_of f.header ++ carried_bytes caps f.carried

-- the number of bytes of an emitted frame
abbrev pub frame_len : Frame → ℕ
frame_len f = 14 + carried_len f.carried

-- the length fields of the headers of a frame can express their lengths
abbrev pub Fits : Frame → Type 0
Fits f = FitsCarried f.carried

-- each header of a frame names what follows it
abbrev pub Agrees : Frame → Type 0
Agrees f = AgreesCarried f.header.ethertype f.carried

-- the bytes parse layer by layer as the normal forms of this header and of what it carries
abbrev pub Composes : ChecksumCapabilities → List ℕ → EthernetRepr → Carried → Type 0
Composes caps bytes header c =
    (read : frame.Carried) × (normal_carried_of c ≡ Some read) × ReadsFrame caps bytes (ethernet.normal header) read

-- the bytes parse as the normal form of this value
abbrev pub ReadsNormalOf : ChecksumCapabilities → List ℕ → Frame → Type 0
ReadsNormalOf caps bytes f = Composes caps bytes f.header f.carried

-- each checksum of these headers that the receiver verifies was computed by the sender
abbrev pub Computes : ChecksumCapabilities → ChecksumCapabilities → Carried → Type 0
Computes sent received c = (describe_carried c).computed sent received

-- ---- frames that are put together

-- the protocol that the header before this transport must name; bytes of another protocol keep that of their header
abbrev pub protocol_before : IpRepr → Transport → IpProtocol
protocol_before v t = option_map_or (λ p. p) (option_and_then (λ read. (describe_transport read).protocol) (transport_of t)) (ip.next_header_of v)

-- the packet of this header and transport, with the protocol and the length of the transport in the header
abbrev pub packet_around : IpRepr → Transport → Carried
packet_around v t = carried.Packet (header_before v (protocol_before v t) (transport_len t)) t

-- the frame between two hosts with a packet of this header and transport
abbrev pub frame_around : EthernetAddress → EthernetAddress → IpRepr → Transport → Frame
frame_around src dst v t = record {
  header = record { src_addr = src; dst_addr = dst; ethertype = type_of v };
  carried = packet_around v t;
}

-- the frame between two hosts with an ARP packet
abbrev pub arp_frame : EthernetAddress → EthernetAddress → ArpRepr → Frame
arp_frame src dst v = record {
  header = record { src_addr = src; dst_addr = dst; ethertype = ethertype.Arp };
  carried = carried.Arp v;
}

-- the printed text of a frame: a line for each layer, without a line feed after the last
abbrev pub frame_text : Frame → List ℕ
frame_text f = ethernet.header_text f.header ++ carried_text f.carried
