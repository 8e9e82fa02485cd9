-- The struct of a frame of which only the first bytes were captured. The payload's length in the struct counts all
-- bytes of the frame, and `payload_captured` those that were captured. The bytes are those that were captured, and fewer.
-- Pinned by: `CutWorked`, `worked/captured`
use Rattle.std.specs.Prelude.{ℕ, ◌≡◌, ◌<◌, ◌≤◌, ◌⊎◌, ◌+◌, ◌-◌, ◌==◌, ◌||◌, not, nat_le, nat_lt, if◌then◌else◌, Bool, false, List, drop, length}
use Rattle.std.specs.Option.{option_map_or}
use Rattle.ip_wire.specs.Ethernet as ethernet
use Rattle.ip_wire.specs.Field.{field}
use Rattle.ip_wire.specs.Protocol.{protocol_of}
use Rattle.ip_wire.specs.Ip.{dst_addr_of, next_header_of, src_addr_of}
use Rattle.ip_wire.specs.Ipv4 as ipv4
use Rattle.ip_wire.specs.Ipv6 as ipv6
use Rattle.ip_wire.specs.Tcp as tcp
use Rattle.ip_wire.specs.TcpRepr.{tcp_of}
use Rattle.ip_wire.specs.Udp as udp
use Rattle.ip_wire.specs.Types.{EthernetProtocol, EthernetRepr, IpAddress, IpProtocol, IpRepr, Ipv4}
use Rattle.ip_wire.specs.declared.EthernetProtocol.TheVariants as ethertype
use Rattle.ip_wire.specs.declared.IpAddress.TheVariants as address
use Rattle.ip_wire.specs.declared.IpProtocol.TheVariants as protocol
use Rattle.c_structs.specs.Codes.{network_code, reason_code, transport_code, verdict_code}
use Rattle.c_structs.specs.Nothing.{nothing_of, no_icmp, no_tcp}
use Rattle.c_structs.specs.Verdicts.{cut_udp_verdict}
use Rattle.c_structs.specs.declared.codes.NetworkKind.TheVariants as network_kind
use Rattle.c_structs.specs.declared.codes.Reason.TheVariants as reason
use Rattle.c_structs.specs.declared.codes.TransportKind.TheVariants as transport
use Rattle.c_structs.specs.declared.codes.Verdict.TheVariants as verdict
use Rattle.c_structs.specs.declared.types.FrameFields.{FrameFields}
use Rattle.wire_extensions.specs.Chain.{chain_of}
use Rattle.c_read.specs.Summary.{transport_of}
use Rattle.c_read.specs.FrameFields.{bare_of, after_header, frame_headers, has_message, ipv4_fault, ipv6_fault, packet_headers, rejected, rejected_transport, tcp_fault, with_arp, with_captured, with_chain, with_icmp, with_ipv4, with_ipv4_fields, with_ipv6, with_ipv6_fields, with_link, with_part, with_tcp_fields, with_udp, with_udp_fields}

-- ---- the headers

-- the fields after a header of at least `least` bytes was rejected, because it was not captured or because the frame
-- is too short for it
abbrev pub cut_header : FrameFields → ℕ → FrameFields
cut_header f least = rejected f (if nat_lt f.payload_len least then reason.TooShort else reason.HeaderCut)

-- The fields with those of a UDP packet. A packet that was captured as a whole, or whose length is invalid, is stored
-- as in a whole frame.
abbrev pub cut_udp : FrameFields → IpAddress → IpAddress → List ℕ → FrameFields
cut_udp f src dst bytes =
    if nat_lt (length bytes) 8 then cut_header f 8
    else if nat_le (udp.packet_len bytes) (length bytes) || nat_lt f.payload_len (udp.packet_len bytes) then with_udp f src dst bytes
    else let next = with_udp_fields f bytes (cut_udp_verdict src bytes) in
    if field bytes 16 16 == 0 then rejected_transport next reason.PortZero else after_header next 8 (udp.packet_len bytes - 8)

-- the fields with those of a TCP segment; its checksum covers all of it, and cannot be verified
abbrev pub cut_tcp : FrameFields → IpAddress → IpAddress → List ℕ → FrameFields
cut_tcp f src dst bytes =
    if nat_lt (length bytes) 20 then cut_header f 20
    else let next = with_tcp_fields f bytes verdict.ChecksumCut in
    option_map_or (λ v. after_header next (tcp.header_len bytes) (f.payload_len - tcp.header_len bytes)) (tcp_of src dst false bytes)
    (rejected_transport next (tcp_fault bytes f.payload_len))

-- the fields with those of the payload of a packet of this protocol between two addresses, if it is UDP, TCP or ICMP; the
-- checksum of a message covers all of it, and cannot be verified
abbrev pub cut_transport_by : FrameFields → IpProtocol → IpAddress → IpAddress → List ℕ → FrameFields
cut_transport_by f protocol.Udp src dst bytes = cut_udp f src dst bytes
cut_transport_by f protocol.Tcp src dst bytes = cut_tcp f src dst bytes
cut_transport_by f p src dst bytes = if has_message p src bytes then with_icmp f bytes verdict.ChecksumCut else f

-- the fields with those of the payload of a packet with this header
abbrev pub cut_payload : FrameFields → IpRepr → List ℕ → FrameFields
cut_payload f v bytes = cut_transport_by f (next_header_of v) (src_addr_of v) (dst_addr_of v) bytes

-- the fields with those of an ARP packet
abbrev pub cut_arp : FrameFields → List ℕ → FrameFields
cut_arp f bytes = if nat_lt (length bytes) 28 then cut_header f 28 else with_arp f bytes

-- the fields with those of an IPv4 packet whose header was captured, but not all of its payload
abbrev pub begun_ipv4 : FrameFields → List ℕ → FrameFields
begun_ipv4 f bytes =
    let v = ipv4.header_of bytes in let next = with_ipv4_fields f bytes v v.payload_len in
    let payload = drop (ipv4.header_len bytes) bytes in
    if ipv4.is_fragment bytes then with_part next payload else cut_payload next (Ipv4 v) payload

-- whether the bytes are no IPv4 header, whatever follows them
abbrev pub is_no_ipv4 : FrameFields → List ℕ → Bool
is_no_ipv4 f bytes =
    not (field bytes 0 4 == 4) || nat_lt (ipv4.header_len bytes) 20 || nat_lt (ipv4.total_len bytes) (ipv4.header_len bytes)
    || nat_lt f.payload_len (ipv4.total_len bytes)

-- The fields with those of an IPv4 packet. A packet that was captured as a whole is stored as in a whole frame.
abbrev pub cut_ipv4 : FrameFields → List ℕ → FrameFields
cut_ipv4 f bytes =
    if nat_lt (length bytes) 20 then cut_header f 20
    else if nat_le (ipv4.total_len bytes) (length bytes) then with_ipv4 f bytes
    else if is_no_ipv4 f bytes then rejected f (ipv4_fault bytes)
    else if nat_lt (length bytes) (ipv4.header_len bytes) then rejected f reason.HeaderCut
    else begun_ipv4 f bytes

-- the fields with those of the payload of an IPv6 packet: of its extension headers, and of what they lead to
abbrev pub cut_extended : FrameFields → IpAddress → IpAddress → List ℕ → FrameFields
cut_extended f src dst bytes =
    let c = chain_of f.protocol f.payload_len bytes in let rest = drop c.len bytes in
    cut_transport_by (with_chain f c rest) (protocol_of c.protocol) src dst rest

-- the fields with those of an IPv6 packet whose header was captured, but not all of its payload
abbrev pub begun_ipv6 : FrameFields → List ℕ → FrameFields
begun_ipv6 f bytes =
    let v = ipv6.header_of bytes in
    cut_extended (with_ipv6_fields f bytes v v.payload_len) (address.Ipv6 v.src_addr) (address.Ipv6 v.dst_addr) (drop 40 bytes)

-- the fields with those of an IPv6 packet
abbrev pub cut_ipv6 : FrameFields → List ℕ → FrameFields
cut_ipv6 f bytes =
    if nat_lt (length bytes) 40 then cut_header f 40
    else if nat_le (ipv6.total_len bytes) (length bytes) then with_ipv6 f bytes
    else if not (field bytes 0 4 == 6) || nat_lt f.payload_len (ipv6.total_len bytes) then rejected f (ipv6_fault bytes)
    else begun_ipv6 f bytes

-- the fields with those of an IP packet of either version
abbrev pub cut_packet : FrameFields → List ℕ → FrameFields
cut_packet f bytes =
    if field bytes 0 4 == 4 then cut_ipv4 f bytes
    else if field bytes 0 4 == 6 then cut_ipv6 f bytes
    else rejected f reason.BadVersion

-- the fields with those of the payload of a frame of this type
abbrev pub cut_carried : FrameFields → EthernetProtocol → List ℕ → FrameFields
cut_carried f ethertype.Arp bytes = cut_arp f bytes
cut_carried f ethertype.Ipv4 bytes = cut_ipv4 f bytes
cut_carried f ethertype.Ipv6 bytes = cut_ipv6 f bytes
cut_carried f (ethertype.Unknown n) bytes = f

-- the fields with those of a frame with this Ethernet header
abbrev pub cut_frame : FrameFields → EthernetRepr → List ℕ → FrameFields
cut_frame f v bytes = cut_carried (with_link f v (f.payload_len - 14)) v.ethertype bytes

-- ---- the frame

-- the values of the headers of a frame of which these bytes were captured, and `missing` bytes after them were not
unfoldable pub captured_headers : List ℕ → ℕ → FrameFields
captured_headers bytes missing =
    if missing == 0 then frame_headers bytes
    else let f = nothing_of (length bytes + missing) in
    if nat_lt (length bytes) 14 then cut_header f 14 else cut_frame f (ethernet.header_of bytes) (drop 14 bytes)

-- the struct of a frame of which these bytes were captured, and `missing` bytes after them were not
unfoldable pub captured_of : List ℕ → ℕ → FrameFields
captured_of bytes missing = with_captured (length bytes) (captured_headers bytes missing)

-- the values of the headers of a packet without an Ethernet header of which these bytes were captured, and `missing`
-- bytes after them were not
unfoldable pub captured_packet_headers : List ℕ → ℕ → FrameFields
captured_packet_headers bytes missing =
    if missing == 0 then packet_headers bytes
    else let f = bare_of (length bytes + missing) in
    if nat_lt (length bytes) 1 then cut_header f 1 else cut_packet f bytes

-- the struct of a packet without an Ethernet header of which these bytes were captured, and `missing` bytes after them
-- were not
unfoldable pub captured_packet_of : List ℕ → ℕ → FrameFields
captured_packet_of bytes missing = with_captured (length bytes) (captured_packet_headers bytes missing)

-- ---- the same by the struct of the whole frame

-- a header that was not captured as a whole, but no IPv6 extension header; `options` are those of TCP
pub data CutHeader : Type 0 where
  link : CutHeader
  network : CutHeader
  transport_header : CutHeader
  options : CutHeader

-- the fields of the whole frame without those of a header that was cut, and of what follows it
abbrev pub before : CutHeader → FrameFields → FrameFields
before link g = nothing_of 0
before network g = record (nothing_of 0) { ethernet = g.ethernet }
before transport_header g = record g {
  transport_offset = 0;
  src = record g.src { port = 0 };
  dst = record g.dst { port = 0 };
  tcp = no_tcp;
  transport = transport_code transport.None;
  rejected = transport_code transport.None;
  transport_checksum = verdict_code verdict.None;
  icmp = no_icmp;
}
before options g = record g {
  transport = transport_code transport.None;
  rejected = transport_code transport.Tcp;
  transport_checksum = verdict_code verdict.ChecksumCut;
  icmp = no_icmp;
}

-- where the header after the network header and its extension headers begins, or the payload if there is none
abbrev pub after_network : FrameFields → ℕ
after_network g = if transport_of g == transport_code transport.None then g.payload_offset else g.transport_offset

-- the end of the payload
abbrev pub payload_end : FrameFields → ℕ
payload_end g = g.payload_offset + g.payload_len

-- Where a header begins, by the struct of the whole frame. A rejected network header begins where the payload does. TCP
-- options have the place of their header.
abbrev pub begin_of : CutHeader → FrameFields → ℕ
begin_of link g = 0
begin_of network g = if g.network == network_code network_kind.None then g.payload_offset else g.network_offset
begin_of transport_header g = g.transport_offset
begin_of options g = g.transport_offset

-- Where a header ends, by the struct of the whole frame. A rejected network header may reach to the end of the frame. The
-- header of the transport ends without its options.
abbrev pub end_of : CutHeader → FrameFields → ℕ
end_of link g = begin_of network g
end_of network g = if g.network == network_code network_kind.None then payload_end g else after_network g
end_of transport_header g = g.transport_offset + (if transport_of g == transport_code transport.Udp then 8 else 20)
end_of options g = g.transport_offset + g.tcp.header_len

-- The first n bytes were captured, and end before this header does: the fields before it are those of the whole frame,
-- and the payload begins at it.
pub record IsCutAt (n : ℕ) (h : CutHeader) (f g : FrameFields) : Type 0 where
  pub reason : f.reason ≡ reason_code reason.HeaderCut
  pub offset : f.payload_offset ≡ begin_of h g
  pub missing : n < end_of h g
  pub fields : f ≡ record (before h g) {
    reason = f.reason;
    payload_offset = f.payload_offset;
    payload_len = f.payload_len;
    payload_captured = f.payload_captured;
  }

-- The first n bytes end within an IPv6 extension header: the fields before it are those of the whole frame, and the payload
-- begins at it. Of the whole frame this header was stepped through, or the payload begins at it too. The identification is
-- that of an earlier atomic fragment header, if there is one.
pub record IsCutWithin (n : ℕ) (f g : FrameFields) : Type 0 where
  pub reason : f.reason ≡ reason_code reason.HeaderCut
  pub after : g.network_offset + 40 ≤ f.payload_offset
  pub missing : (n < after_network g) ⊎ (f.payload_offset ≡ g.payload_offset)
  pub order : f.payload_offset ≤ after_network g
  pub fields : f ≡ record (before transport_header g) {
    ip = record g.ip { ident = f.ip.ident; fragment_offset = 0; more_fragments = 0 };
    is_fragment = 0;
    protocol = f.protocol;
    reason = f.reason;
    payload_offset = f.payload_offset;
    payload_len = f.payload_len;
    payload_captured = f.payload_captured;
  }

-- no header was cut: all fields are those of the whole frame, but a checksum may cover bytes that are missing
pub record HasHeaders (n : ℕ) (f g : FrameFields) : Type 0 where
  pub checksum : (f.transport_checksum ≡ g.transport_checksum)
      ⊎ ((f.transport_checksum ≡ verdict_code verdict.ChecksumCut) × (n < payload_end g))
  pub fields : f ≡ record g { transport_checksum = f.transport_checksum; payload_captured = f.payload_captured }

-- the header of an ICMP message was cut, and is not rejected: the message is payload
pub record LacksMessage (n : ℕ) (f g : FrameFields) : Type 0 where
  pub named : g.transport ≡ transport_code transport.Icmp
  pub missing : n < g.transport_offset + 8
  pub fields : f ≡ record g {
    transport_offset = 0;
    payload_offset = g.transport_offset;
    payload_len = g.payload_len + 8;
    payload_captured = f.payload_captured;
    transport = transport_code transport.None;
    transport_checksum = verdict_code verdict.None;
    icmp = no_icmp;
  }

-- where the ports of a first fragment end: they begin with its payload, and over IPv6 after the fragment header
abbrev pub ports_end : FrameFields → ℕ
ports_end g = g.payload_offset + (if g.network == network_code network_kind.Ipv4 then 4 else 12)

-- the ports of a first fragment were cut: they are not stored, and all other fields are those of the whole frame
pub record LacksPorts (n : ℕ) (f g : FrameFields) : Type 0 where
  pub part : g.is_fragment ≡ 1
  pub missing : n < ports_end g
  pub fields : f ≡ record g { src = record g.src { port = 0 }; dst = record g.dst { port = 0 }; payload_captured = f.payload_captured }

-- the fields of a frame of which the first n bytes were captured, by those of the whole frame
abbrev pub IsCutOf : ℕ → FrameFields → FrameFields → Type 0
IsCutOf n f g =
    (HasHeaders n f g ⊎ LacksMessage n f g) ⊎ (((h : CutHeader) × IsCutAt n h f g) ⊎ (IsCutWithin n f g ⊎ LacksPorts n f g))
