-- The values of a frame as the struct of C.
-- Pinned by: `worked/read`, `worked/options`, `worked/ports`
use Rattle.std.specs.Prelude.{ℕ, ◌+◌, ◌*◌, ◌/◌, ◌%◌, ◌-◌, ◌==◌, ◌&&◌, ◌||◌, not, nat_le, nat_lt, is_none, if◌then◌else◌, Bool, true, false, List, drop, length, min}
use Rattle.std.specs.Option.{option_map_or}
use Rattle.ip_wire.specs.Arp as arp
use Rattle.ip_wire.specs.Arp.{arp_of}
use Rattle.ip_wire.specs.Ethernet as ethernet
use Rattle.ip_wire.specs.Ethernet.{ethernet_of}
use Rattle.ip_wire.specs.Field.{field}
use Rattle.ip_wire.specs.Frame.{ipv4_payload}
use Rattle.ip_wire.specs.Protocol.{protocol_of}
use Rattle.ip_wire.specs.Ip.{dst_addr_of, next_header_of, src_addr_of}
use Rattle.ip_wire.specs.Ipv4 as ipv4
use Rattle.ip_wire.specs.Ipv4.{ipv4_of}
use Rattle.ip_wire.specs.Ipv6 as ipv6
use Rattle.ip_wire.specs.Ipv6.{ipv6_of}
use Rattle.ip_wire.specs.Tcp as tcp
use Rattle.ip_wire.specs.TcpRepr.{control_of, tcp_of}
use Rattle.ip_wire.specs.Udp as udp
use Rattle.ip_wire.specs.Udp.{udp_of}
use Rattle.ip_wire.specs.Types.{ArpRepr, EthernetProtocol, EthernetRepr, IpAddress, IpProtocol, IpRepr, Ipv4, Ipv4Repr, Ipv6Repr}
use Rattle.ip_wire.specs.declared.ArpRepr.TheVariants.{EthernetIpv4}
use Rattle.ip_wire.specs.declared.EthernetProtocol.TheVariants as ethertype
use Rattle.ip_wire.specs.declared.IpAddress.TheVariants as address
use Rattle.ip_wire.specs.declared.IpProtocol.TheVariants as protocol
use Rattle.ip_wire.specs.declared.Ipv6FragmentRepr.{Ipv6FragmentRepr}
use Rattle.c_structs.specs.Addresses.{endpoint_of}
use Rattle.c_structs.specs.Codes.{network_code, reason_code, transport_code, verdict_code}
use Rattle.c_structs.specs.Nothing.{nothing_of}
use Rattle.c_structs.specs.Verdicts.{icmp_verdict, ipv4_verdict, tcp_verdict, udp_verdict}
use Rattle.c_structs.specs.Written.{flag}
use Rattle.c_structs.specs.declared.codes.NetworkKind.TheVariants as network
use Rattle.c_structs.specs.declared.codes.Reason.{Reason}
use Rattle.c_structs.specs.declared.codes.Reason.TheVariants as reason
use Rattle.c_structs.specs.declared.codes.TransportKind.TheVariants as transport
use Rattle.c_structs.specs.declared.codes.Verdict.{Verdict}
use Rattle.c_structs.specs.declared.codes.Verdict.TheVariants as verdict
use Rattle.c_structs.specs.declared.types.FrameFields.{FrameFields}
use Rattle.c_structs.specs.declared.types.Icmp.{Icmp}
use Rattle.c_structs.specs.declared.types.Ip.{Ip}
use Rattle.c_structs.specs.declared.types.Tcp.{Tcp}
use Rattle.wire_extensions.specs.Chain.{chain_of, is_part}
use Rattle.wire_extensions.specs.declared.chain.Chain.{Chain}
use Rattle.wire_extensions.specs.declared.chain.ExtensionFault.{ExtensionFault}
use Rattle.wire_extensions.specs.declared.chain.ExtensionFault.TheVariants as fault

-- ---- where the payload is

-- the fields after a header of this length: the payload begins after it, and has this length
abbrev pub after_header : FrameFields → ℕ → ℕ → FrameFields
after_header f header_len len = record f { payload_offset = f.payload_offset + header_len; payload_len = len }

-- the fields of a frame or packet whose first n bytes are there, with how many bytes of the payload are among them
abbrev pub with_captured : ℕ → FrameFields → FrameFields
with_captured n f = record f { payload_captured = min f.payload_len (n - f.payload_offset) }

-- the fields after the next header was rejected for this reason; the payload begins at that header
abbrev pub rejected : FrameFields → Reason → FrameFields
rejected f why = record f { reason = reason_code why }

-- the fields after the transport header, whose fields are stored, was rejected for this reason
abbrev pub rejected_transport : FrameFields → Reason → FrameFields
rejected_transport f why = let next = rejected f why in record next { transport = transport_code transport.None; rejected = f.transport }

-- ---- why bytes that are no header are rejected: the first test that fails

-- why bytes that do not parse as an ARP packet are rejected
abbrev pub arp_fault : List ℕ → Reason
arp_fault bytes = if nat_lt (length bytes) 28 then reason.TooShort else reason.OtherArp

-- why bytes that do not parse as an IPv4 packet are rejected
abbrev pub ipv4_fault : List ℕ → Reason
ipv4_fault bytes =
    if nat_lt (length bytes) 20 then reason.TooShort
    else if not (field bytes 0 4 == 4) then reason.BadVersion
    else reason.BadLength

-- why bytes that do not parse as an IPv6 packet are rejected
abbrev pub ipv6_fault : List ℕ → Reason
ipv6_fault bytes =
    if nat_lt (length bytes) 40 then reason.TooShort
    else if not (field bytes 0 4 == 6) then reason.BadVersion
    else reason.BadLength

-- why an IPv6 extension header is rejected
abbrev pub extension_reason : ExtensionFault → Reason
extension_reason fault.TooShort = reason.TooShort
extension_reason fault.HeaderCut = reason.HeaderCut
extension_reason fault.HopsLeft = reason.HopsLeft
extension_reason fault.BadOrder = reason.BadOrder

-- why at least 8 bytes that do not parse as a UDP packet are rejected
abbrev pub udp_fault : List ℕ → Reason
udp_fault bytes = if not (udp.has_lengths bytes) then reason.BadLength else reason.PortZero

-- why a TCP segment of this length, of which at least the first 20 bytes were captured, is rejected
abbrev pub tcp_fault : List ℕ → ℕ → Reason
tcp_fault bytes len =
    if nat_lt (tcp.header_len bytes) 20 || nat_lt len (tcp.header_len bytes) then reason.BadLength
    else if field bytes 0 16 == 0 || (field bytes 16 16 == 0) then reason.PortZero
    else if is_none (control_of bytes) then reason.BadFlags
    else if nat_lt (length bytes) (tcp.header_len bytes) then reason.HeaderCut
    else reason.BadOptions

-- ---- UDP, TCP and ICMP

-- the fields with the ports of a transport header, its first 4 bytes
abbrev pub with_ports : FrameFields → List ℕ → FrameFields
with_ports f bytes = record f {
  transport_offset = f.payload_offset;
  src = record f.src { port = field bytes 0 16 };
  dst = record f.dst { port = field bytes 16 16 };
}

-- the fields with those of a UDP header whose checksum has this verdict
abbrev pub with_udp_fields : FrameFields → List ℕ → Verdict → FrameFields
with_udp_fields f bytes v = let next = with_ports f bytes in record next {
  transport = transport_code transport.Udp;
  transport_checksum = verdict_code v;
}

-- the fields with those of a UDP header between two addresses; if the length is invalid, no checksum can be computed
abbrev pub with_udp_header : FrameFields → IpAddress → IpAddress → List ℕ → FrameFields
with_udp_header f src dst bytes = with_udp_fields f bytes (if udp.has_lengths bytes then udp_verdict src dst bytes else verdict.None)

-- the fields with those of a UDP packet; a rejected header is stored too, if all of it is there
abbrev pub with_udp : FrameFields → IpAddress → IpAddress → List ℕ → FrameFields
with_udp f src dst bytes =
    if nat_lt (length bytes) 8 then rejected f reason.TooShort
    else let next = with_udp_header f src dst bytes in
    option_map_or (λ v. after_header next 8 (length (udp.payload_of bytes))) (udp_of src dst false bytes) (rejected_transport next (udp_fault bytes))

-- the values of a TCP header without its ports
abbrev pub tcp_values : List ℕ → Tcp
tcp_values bytes = record {
  seq_number = field bytes 32 32;
  ack_number = field bytes 64 32;
  window_len = field bytes 112 16;
  urgent_at = field bytes 144 16;
  flags = field bytes 104 8;
  header_len = tcp.header_len bytes;
}

-- the fields with those of a TCP header whose checksum has this verdict
abbrev pub with_tcp_fields : FrameFields → List ℕ → Verdict → FrameFields
with_tcp_fields f bytes v = let next = with_ports f bytes in record next {
  tcp = tcp_values bytes;
  transport = transport_code transport.Tcp;
  transport_checksum = verdict_code v;
}

-- the fields with those of a TCP header between two addresses
abbrev pub with_tcp_header : FrameFields → IpAddress → IpAddress → List ℕ → FrameFields
with_tcp_header f src dst bytes = with_tcp_fields f bytes (tcp_verdict src dst bytes)

-- the fields with those of a TCP segment; a rejected header is stored too, if all of it is there
abbrev pub with_tcp : FrameFields → IpAddress → IpAddress → List ℕ → FrameFields
with_tcp f src dst bytes =
    if nat_lt (length bytes) 20 then rejected f reason.TooShort
    else let next = with_tcp_header f src dst bytes in
    option_map_or (λ v. after_header next (tcp.header_len bytes) (length (tcp.payload_of bytes))) (tcp_of src dst false bytes) (rejected_transport next (tcp_fault bytes (length bytes)))

-- whether a packet of this protocol with this source carries ICMP, which has a protocol number for each version
abbrev pub is_icmp : IpProtocol → IpAddress → Bool
is_icmp protocol.Icmp src = udp.is_ipv4 src
is_icmp protocol.Icmpv6 src = not (udp.is_ipv4 src)
is_icmp _ src = false

-- whether it carries a message with a whole header
abbrev pub has_message : IpProtocol → IpAddress → List ℕ → Bool
has_message p src bytes = is_icmp p src && nat_le 8 (length bytes)

-- the values of the header of a message
abbrev pub icmp_values : List ℕ → Icmp
icmp_values bytes = record { word = field bytes 32 32; msg_type = field bytes 0 8; code = field bytes 8 8 }

-- the fields with those of the header of a message whose checksum has this verdict; the payload begins after it
abbrev pub with_icmp : FrameFields → List ℕ → Verdict → FrameFields
with_icmp f bytes v = let next = after_header f 8 (f.payload_len - 8) in record next {
  transport_offset = f.payload_offset;
  transport = transport_code transport.Icmp;
  transport_checksum = verdict_code v;
  icmp = icmp_values bytes;
}

-- the fields with those of an ICMP message in the payload of a packet of this protocol; a shorter one has no header
abbrev pub with_message_by : FrameFields → IpProtocol → IpAddress → IpAddress → List ℕ → FrameFields
with_message_by f p src dst bytes = if has_message p src bytes then with_icmp f bytes (icmp_verdict src dst bytes) else f

-- the fields with those of the payload of a packet of this protocol between two addresses, if it is UDP, TCP or ICMP
abbrev pub with_transport_by : FrameFields → IpProtocol → IpAddress → IpAddress → List ℕ → FrameFields
with_transport_by f protocol.Udp src dst bytes = with_udp f src dst bytes
with_transport_by f protocol.Tcp src dst bytes = with_tcp f src dst bytes
with_transport_by f p src dst bytes = with_message_by f p src dst bytes

-- the fields with those of the payload of a packet with this header
abbrev pub with_payload : FrameFields → IpRepr → List ℕ → FrameFields
with_payload f v bytes = with_transport_by f (next_header_of v) (src_addr_of v) (dst_addr_of v) bytes

-- ---- the ports of a fragment

-- whether a header of this protocol begins with two ports: UDP and TCP
abbrev pub begins_with_ports : IpProtocol → Bool
begins_with_ports protocol.Udp = true
begins_with_ports protocol.Tcp = true
begins_with_ports _ = false

-- The fields of a fragment, with the ports of the UDP or TCP header that it begins with, if it is the first one and these
-- 4 bytes are there. `bytes` are those after its headers.
abbrev pub with_first_ports : FrameFields → Bool → IpProtocol → List ℕ → FrameFields
with_first_ports f first p bytes = let there = first && nat_le 4 (length bytes) && begins_with_ports p in record f {
  src = record f.src { port = if there then field bytes 0 16 else f.src.port };
  dst = record f.dst { port = if there then field bytes 16 16 else f.dst.port };
}

-- ---- ARP, IPv4 and IPv6

-- the fields with those of an ARP packet; only padding follows it
abbrev pub with_message : FrameFields → ArpRepr → FrameFields
with_message f (EthernetIpv4 operation source_hardware source_protocol target_hardware target_protocol) =
    let next = after_header f 28 0 in record next {
      network = network_code network.Arp;
      network_offset = f.payload_offset;
      src = endpoint_of (address.Ipv4 source_protocol) 0;
      dst = endpoint_of (address.Ipv4 target_protocol) 0;
      arp = record {
        operation = arp.operation_number operation;
        src_hardware = source_hardware.0;
        dst_hardware = target_hardware.0;
      };
    }

-- the fields with those of an ARP packet, or why it is rejected
abbrev pub with_arp : FrameFields → List ℕ → FrameFields
with_arp f bytes = option_map_or (with_message f) (arp_of bytes) (rejected f (arp_fault bytes))

-- the values of an IPv4 header without its addresses
abbrev pub ipv4_values : List ℕ → Ipv4Repr → Ip
ipv4_values bytes v = record {
  ident = field bytes 32 16;
  flow_label = 0;
  fragment_offset = ipv4.fragment_offset bytes;
  protocol = field bytes 72 8;
  hop_limit = v.hop_limit;
  dscp = field bytes 8 6;
  ecn = field bytes 14 2;
  more_fragments = field bytes 50 1;
  dont_fragment = field bytes 49 1;
}

-- the fields with those of an IPv4 header before a payload of this length
abbrev pub with_ipv4_fields : FrameFields → List ℕ → Ipv4Repr → ℕ → FrameFields
with_ipv4_fields f bytes v payload_len =
    let next = after_header f (ipv4.header_len bytes) payload_len in record next {
      network = network_code network.Ipv4;
      network_offset = f.payload_offset;
      src = endpoint_of (address.Ipv4 v.src_addr) 0;
      dst = endpoint_of (address.Ipv4 v.dst_addr) 0;
      ip = ipv4_values bytes v;
      protocol = field bytes 72 8;
      is_fragment = flag (ipv4.is_fragment bytes);
      ipv4_checksum = verdict_code (ipv4_verdict bytes);
    }

-- the fields with those of an IPv4 header before the payload in these bytes
abbrev pub with_ipv4_header : FrameFields → List ℕ → Ipv4Repr → FrameFields
with_ipv4_header f bytes v = with_ipv4_fields f bytes v (length (ipv4_payload bytes))

-- the fields after the header of an IPv4 fragment with this payload, which is not parsed: only the ports are stored
abbrev pub with_part : FrameFields → List ℕ → FrameFields
with_part f payload = with_first_ports f (f.ip.fragment_offset == 0) (protocol_of f.protocol) payload

-- the fields with those of an IPv4 packet, or why it is rejected
abbrev pub with_ipv4 : FrameFields → List ℕ → FrameFields
with_ipv4 f bytes =
    option_map_or (λ v. let next = with_ipv4_header f bytes v in
    if ipv4.is_fragment bytes then with_part next (ipv4_payload bytes) else with_payload next (Ipv4 v) (ipv4_payload bytes))
    (ipv4_of false bytes) (rejected f (ipv4_fault bytes))

-- the values of an IPv6 header without its addresses; the traffic class is a DSCP of 6 bits, followed by ECN
abbrev pub ipv6_values : Ip → List ℕ → Ipv6Repr → Ip
ipv6_values f bytes v = record f {
  flow_label = field bytes 12 20;
  protocol = field bytes 48 8;
  hop_limit = v.hop_limit;
  dscp = field bytes 4 8 / 4;
  ecn = field bytes 4 8 % 4;
}

-- the fields with those of an IPv6 header before a payload of this length
abbrev pub with_ipv6_fields : FrameFields → List ℕ → Ipv6Repr → ℕ → FrameFields
with_ipv6_fields f bytes v payload_len =
    let next = after_header f 40 payload_len in record next {
      network = network_code network.Ipv6;
      network_offset = f.payload_offset;
      src = endpoint_of (address.Ipv6 v.src_addr) 0;
      dst = endpoint_of (address.Ipv6 v.dst_addr) 0;
      ip = ipv6_values f.ip bytes v;
      protocol = field bytes 48 8;
    }

-- the fields with those of an IPv6 header before the payload in these bytes
abbrev pub with_ipv6_header : FrameFields → List ℕ → Ipv6Repr → FrameFields
with_ipv6_header f bytes v = with_ipv6_fields f bytes v (length (ipv6.payload_of bytes))

-- the values of an IP header with those of an IPv6 fragment header
abbrev pub fragment_values : Ip → Ipv6FragmentRepr → Ip
fragment_values ip v = record ip { ident = v.ident; fragment_offset = 8 * v.frag_offset; more_fragments = flag v.more_frags }

-- whether a fragment header with these values is that of the first fragment
abbrev pub is_first : Ipv6FragmentRepr → Bool
is_first v = v.more_frags && (v.frag_offset == 0)

-- the fields with those of an IPv6 fragment header, and with the ports after it; `rest` begins with this header
abbrev pub with_fragment_header : FrameFields → Ipv6FragmentRepr → List ℕ → FrameFields
with_fragment_header f v rest =
    with_first_ports (record f { ip = fragment_values f.ip v; is_fragment = flag (is_part v) }) (is_first v)
    (protocol_of (field rest 0 8)) (drop 8 rest)

-- the fields with those of the extension headers of an IPv6 packet, but for ports; what follows them is the payload
abbrev pub stepped_over : FrameFields → Chain → FrameFields
stepped_over f c = let next = after_header f c.len (f.payload_len - c.len) in record next {
  ip = option_map_or (fragment_values f.ip) c.fragment f.ip;
  protocol = c.protocol;
  is_fragment = option_map_or (λ v. flag (is_part v)) c.fragment f.is_fragment;
  reason = option_map_or (λ why. reason_code (extension_reason why)) c.fault f.reason;
}

-- the fields with those of the extension headers of an IPv6 packet. Of a first fragment, `rest` begins with the fragment
-- header, which the ports follow.
abbrev pub with_chain : FrameFields → Chain → List ℕ → FrameFields
with_chain f c rest =
    with_first_ports (stepped_over f c) (option_map_or is_first c.fragment false) (protocol_of (field rest 0 8)) (drop 8 rest)

-- the extension headers of an IPv6 packet
abbrev pub ipv6_chain : List ℕ → Chain
ipv6_chain bytes = chain_of (field bytes 48 8) (length (ipv6.payload_of bytes)) (ipv6.payload_of bytes)

-- the fields with those of the payload of an IPv6 packet: of its extension headers, and of what they lead to
abbrev pub with_extended : FrameFields → IpAddress → IpAddress → List ℕ → FrameFields
with_extended f src dst bytes =
    let c = chain_of f.protocol (length bytes) bytes in let rest = drop c.len bytes in
    with_transport_by (with_chain f c rest) (protocol_of c.protocol) src dst rest

-- whether this is the number of TCP, UDP or ICMPv6
abbrev pub is_ipv6_transport : ℕ → Bool
is_ipv6_transport n = (n == 6) || (n == 17) || (n == 58)

-- the fields with those of an IPv6 packet, or why it is rejected
abbrev pub with_ipv6 : FrameFields → List ℕ → FrameFields
with_ipv6 f bytes =
    option_map_or (λ v. with_extended (with_ipv6_header f bytes v) (address.Ipv6 v.src_addr) (address.Ipv6 v.dst_addr) (ipv6.payload_of bytes))
    (ipv6_of bytes) (rejected f (ipv6_fault bytes))

-- the fields with those of an IP packet of either version, or why it is rejected
abbrev pub with_packet : FrameFields → List ℕ → FrameFields
with_packet f bytes =
    if field bytes 0 4 == 4 then with_ipv4 f bytes
    else if field bytes 0 4 == 6 then with_ipv6 f bytes
    else rejected f reason.BadVersion

-- the struct of a packet of this length without an Ethernet header, of which nothing is parsed yet
abbrev pub bare_of : ℕ → FrameFields
bare_of len = rejected (nothing_of len) reason.Read

-- the values of the headers of a packet without an Ethernet header, up to one that is rejected
unfoldable pub packet_headers : List ℕ → FrameFields
packet_headers bytes = if nat_lt (length bytes) 1 then nothing_of (length bytes) else with_packet (bare_of (length bytes)) bytes

-- the struct of a packet without an Ethernet header
unfoldable pub packet_fields_of : List ℕ → FrameFields
packet_fields_of bytes = with_captured (length bytes) (packet_headers bytes)

-- ---- Ethernet

-- the fields with those of the payload of a frame of this type; that of another type is not parsed
abbrev pub with_carried : FrameFields → EthernetProtocol → List ℕ → FrameFields
with_carried f ethertype.Arp bytes = with_arp f bytes
with_carried f ethertype.Ipv4 bytes = with_ipv4 f bytes
with_carried f ethertype.Ipv6 bytes = with_ipv6 f bytes
with_carried f (ethertype.Unknown n) bytes = f

-- the fields with those of an Ethernet header, for a payload of this length
abbrev pub with_link : FrameFields → EthernetRepr → ℕ → FrameFields
with_link f v payload_len =
    let next = after_header f 14 payload_len in record next {
      ethernet = record { src = v.src_addr.0; dst = v.dst_addr.0; ethertype = ethernet.number_of v.ethertype };
      reason = reason_code reason.Read;
    }

-- the fields with those of a frame with this Ethernet header
abbrev pub with_frame : FrameFields → EthernetRepr → List ℕ → FrameFields
with_frame f v bytes = with_carried (with_link f v (length bytes)) v.ethertype bytes

-- the values of the headers of a frame, up to one that is rejected
unfoldable pub frame_headers : List ℕ → FrameFields
frame_headers frame =
    option_map_or (λ v. with_frame (nothing_of (length frame)) v (drop 14 frame)) (ethernet_of frame) (nothing_of (length frame))

-- the struct of a frame
unfoldable pub fields_of : List ℕ → FrameFields
fields_of frame = with_captured (length frame) (frame_headers frame)
