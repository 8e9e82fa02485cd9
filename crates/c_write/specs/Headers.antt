-- The bytes that are written for the structs of headers.
-- Pinned by: `worked/write`, `judge`
use Rattle.std.specs.Prelude.{ℕ, ◌+◌, ◌*◌, ◌/◌, ◌%◌, ◌&&◌, ◌||◌, ◌==◌, not, nat_le, nat_lt, if◌then◌else◌, ◌++◌, Bool, false, List, length, map, slice_get, Option, None, Some}
use Rattle.std.specs.Bool.{then_some}
use Rattle.std.specs.List.{flat_map, range_with_len}
use Rattle.std.specs.Option.{option_and_then, option_map}
use Rattle.byteorder.specs.Endian.{big_bytes}
use Rattle.ip_wire.specs.Arp as arp
use Rattle.ip_wire.specs.Ethernet as ethernet
use Rattle.ip_wire.specs.Field.{with_field}
use Rattle.ip_wire.specs.Ip.{max_payload_len, payload_len_of}
use Rattle.ip_wire.specs.Ipv4 as ipv4
use Rattle.ip_wire.specs.Ipv6 as ipv6
use Rattle.ip_wire.specs.Tcp as segment
use Rattle.ip_wire.specs.TcpRepr as tcp
use Rattle.ip_wire.specs.TcpRepr.{TcpHeader}
use Rattle.ip_wire.specs.Udp as udp
use Rattle.ip_wire.specs.declared.ArpOperation.TheVariants as operation
use Rattle.ip_wire.specs.Types.{ArpRepr, EthernetRepr, IpAddress, IpRepr, Ipv4, Ipv6, UdpRepr}
use Rattle.ip_wire.specs.declared.ArpRepr.TheVariants.{EthernetIpv4}
use Rattle.ip_wire.specs.declared.EthernetProtocol.TheVariants as ethertype
use Rattle.ip_wire.specs.declared.IpAddress.TheVariants as address
use Rattle.ip_wire.specs.declared.IpProtocol.TheVariants as protocol
use Rattle.ip_wire.specs.declared.TcpControl.TheVariants as control
use Rattle.c_structs.specs.Addresses.{pair_of}
use Rattle.c_structs.specs.Written.{flag}
use Rattle.c_structs.specs.declared.flags.TheConstants.{FLOW_LABELS}
use Rattle.c_structs.specs.declared.types.Addr.{Addr}
use Rattle.c_structs.specs.declared.types.Arp.{Arp}
use Rattle.c_structs.specs.declared.types.Endpoint.{Endpoint}
use Rattle.c_structs.specs.declared.types.Ethernet.{Ethernet}
use Rattle.c_structs.specs.declared.types.Ip.{Ip}
use Rattle.c_structs.specs.declared.types.SackRange.{SackRange}
use Rattle.c_structs.specs.declared.types.Tcp.{Tcp}
use Rattle.c_structs.specs.declared.types.TcpOptions.{TcpOptions}

-- whether a number of a struct means yes: it is not 0
abbrev pub is_yes : ℕ → Bool
is_yes n = not (n == 0)

-- the value if the test is true, else none
abbrev pub only_if : {T : Type 0} → Bool → T → Option T
only_if b x = then_some b x

-- ---- Ethernet and ARP

-- the values of the Ethernet header in a struct, with this EtherType
abbrev pub link_of : Ethernet → ℕ → EthernetRepr
link_of h type_number = record {
  dst_addr = record { 0 = h.dst };
  src_addr = record { 0 = h.src };
  ethertype = ethertype.Unknown type_number;
}

-- the bytes of the Ethernet header in a struct, with this EtherType
abbrev pub link_bytes : Ethernet → ℕ → List ℕ
link_bytes h type_number = ethernet.bytes_of (link_of h type_number)

-- the values of the ARP packet in a struct for two addresses, if they are IPv4 addresses
abbrev pub arp_between : Arp → IpAddress → IpAddress → Option ArpRepr
arp_between h (address.Ipv4 src) (address.Ipv4 dst) =
    Some (EthernetIpv4 (operation.Unknown h.operation) (record { 0 = h.src_hardware }) src (record { 0 = h.dst_hardware }) dst)
arp_between h (address.Ipv4 src) (address.Ipv6 dst) = None
arp_between h (address.Ipv6 src) dst = None

-- the values of the ARP packet in a struct for the addresses in two structs, if they are IPv4 addresses
abbrev pub arp_value : Arp → Addr → Addr → Option ArpRepr
arp_value h src dst = option_and_then (λ pair. arp_between h pair.0 pair.1) (pair_of src dst)

-- the bytes of the ARP packet in a struct, if it can be written
abbrev pub arp_bytes : Arp → Addr → Addr → Option (List ℕ)
arp_bytes h src dst = option_map arp.bytes_of (arp_value h src dst)

-- ---- IP

-- the values of an IP header between two addresses of the same version, for a payload of this length
abbrev pub ip_between : Ip → ℕ → ℕ → IpAddress → IpAddress → Option IpRepr
ip_between h number len (address.Ipv4 src) (address.Ipv4 dst) = Some (Ipv4 (record {
  src_addr = src;
  dst_addr = dst;
  next_header = protocol.Unknown number;
  payload_len = len;
  hop_limit = h.hop_limit;
}))
ip_between h number len (address.Ipv6 src) (address.Ipv6 dst) = Some (Ipv6 (record {
  src_addr = src;
  dst_addr = dst;
  next_header = protocol.Unknown number;
  payload_len = len;
  hop_limit = h.hop_limit;
}))
ip_between h number len (address.Ipv4 src) (address.Ipv6 dst) = None
ip_between h number len (address.Ipv6 src) (address.Ipv4 dst) = None

-- whether a header of this version can express the identification, the fragment fields and the flow label; IPv6 has
-- no fields for fragments
abbrev pub has_place : Ip → IpRepr → Bool
has_place h (Ipv4 v) = nat_lt h.ident 65536 && (h.fragment_offset % 8 == 0)
has_place h (Ipv6 v) = (h.ident == 0) && (h.fragment_offset == 0) && (h.more_fragments == 0) && nat_lt h.flow_label FLOW_LABELS

-- whether the header can express all values, and the hop limit is not 0
abbrev pub is_expressible : Ip → IpRepr → Bool
is_expressible h v =
    nat_le (payload_len_of v) (max_payload_len v) && nat_lt 0 h.hop_limit && nat_lt h.dscp 64 && nat_lt h.ecn 4 && has_place h v

-- the values of the IP header in a struct with this protocol, if it can be written
abbrev pub ip_value : Ip → ℕ → Addr → Addr → ℕ → Option IpRepr
ip_value h number src dst len =
    option_and_then (λ v. only_if (is_expressible h v) v)
    (option_and_then (λ pair. ip_between h number len pair.0 pair.1) (pair_of src dst))

-- the bytes of an IPv4 header with the fields that its values lack: fragment offset, DF, MF, DSCP, ECN and
-- identification
abbrev pub with_ipv4_fields : Ip → List ℕ → List ℕ
with_ipv4_fields h bytes =
    let placed = with_field bytes 51 13 (h.fragment_offset / 8) in
    let flagged = with_field (with_field placed 49 1 (flag (is_yes h.dont_fragment))) 50 1 (flag (is_yes h.more_fragments)) in
    let marked = with_field (with_field flagged 8 6 h.dscp) 14 2 h.ecn in
    with_field marked 32 16 h.ident

-- the bytes of an IPv6 header with the fields that its values lack: traffic class and flow label
abbrev pub with_ipv6_fields : Ip → List ℕ → List ℕ
with_ipv6_fields h bytes = with_field (with_field bytes 4 8 (4 * h.dscp + h.ecn)) 12 20 h.flow_label

-- the bytes of an IP header with these values; the checksum of IPv4 is 0 if it is not computed
abbrev pub header_bytes : Ip → Bool → IpRepr → List ℕ
header_bytes h computed (Ipv4 v) =
    let bytes = with_ipv4_fields h (ipv4.bytes_of v false) in if computed then ipv4.with_checksum bytes else bytes
header_bytes h computed (Ipv6 v) = with_ipv6_fields h (ipv6.bytes_of v)

-- the bytes of the IP header in a struct for a payload of this length, if it can be written
abbrev pub ip_bytes : Ip → Addr → Addr → ℕ → Bool → Option (List ℕ)
ip_bytes h src dst len computed = option_map (header_bytes h computed) (ip_value h h.protocol src dst len)

-- ---- UDP

-- whether the port of an endpoint is not 0
abbrev pub has_port : Endpoint → Bool
has_port e = not (e.port == 0)

-- the addresses of two endpoints, if they have the same version and their ports are valid
abbrev pub ends_of : Bool → Endpoint → Endpoint → Option (IpAddress × IpAddress)
ends_of has_ports src dst = option_and_then (λ pair. only_if has_ports pair) (pair_of src.addr dst.addr)

-- the ports of a UDP header
abbrev pub ports_of : Endpoint → Endpoint → UdpRepr
ports_of src dst = record { src_port = src.port; dst_port = dst.port }

-- the bytes of a UDP packet between two endpoints, if it can be written
abbrev pub udp_bytes : Endpoint → Endpoint → List ℕ → Bool → Option (List ℕ)
udp_bytes src dst payload computed =
    option_and_then (λ pair. only_if (nat_le (length payload) udp.max_payload_len) (udp.bytes_of (ports_of src dst) payload pair.0 pair.1 computed))
    (ends_of (has_port dst) src dst)

-- ---- TCP

-- SACK range k, if it is one of the first n
abbrev pub range_at : ℕ → List SackRange → ℕ → Option (ℕ × ℕ)
range_at n ranges k = if nat_lt k n then option_map (λ r. (r.left, r.right)) (slice_get ranges k) else None

-- the first n SACK ranges, and none for the others
abbrev pub first_ranges : ℕ → List SackRange → List (Option (ℕ × ℕ))
first_ranges n ranges = map (range_at n ranges) (range_with_len 0 (length ranges))

-- the bytes of SACK ranges: each its left edge, then its right edge
abbrev pub edges : List SackRange → List ℕ
edges ranges = flat_map (λ (r : SackRange). big_bytes 4 r.left ++ big_bytes 4 r.right) ranges

-- the value if the number means yes, else none
abbrev pub where_set : {T : Type 0} → ℕ → T → Option T
where_set n x = only_if (is_yes n) x

-- the values of a TCP header; its flags are written later
abbrev pub tcp_value : Tcp → TcpOptions → ℕ → ℕ → TcpHeader
tcp_value h o src_port dst_port = record {
  src_port = src_port;
  dst_port = dst_port;
  control = control.None;
  seq_number = tcp.seq_of h.seq_number;
  ack_number = Some (tcp.seq_of h.ack_number);
  window_len = h.window_len;
  window_scale = where_set o.has_window_scale o.window_scale;
  max_seg_size = where_set o.has_max_seg_size o.max_seg_size;
  sack_permitted = is_yes o.sack_permitted;
  sack_ranges = first_ranges o.sack_range_count o.sack_ranges;
  timestamp = where_set o.has_timestamp (tcp.stamp_of (o.tsval, o.tsecr));
}

-- the struct of a TCP header of zeros
abbrev pub no_tcp : Tcp
no_tcp = record { seq_number = 0; ack_number = 0; window_len = 0; urgent_at = 0; flags = 0; header_len = 0 }

-- the values of a TCP header with these options and otherwise zeros
abbrev pub options_value : TcpOptions → TcpHeader
options_value o = tcp_value no_tcp o 0 0

-- the length of a TCP header with these options
abbrev pub options_header_len : TcpOptions → ℕ
options_header_len o = tcp.header_len_of (tcp_value no_tcp o 0 0)

-- the length of a TCP header with these options, if they fit
abbrev pub tcp_header_len : TcpOptions → Option ℕ
tcp_header_len o =
    only_if (nat_le o.sack_range_count (length o.sack_ranges) && nat_le (options_header_len o) 60) (options_header_len o)

-- whether at most one of FIN, SYN and RST, the lowest three flags, is set
abbrev pub has_one_control : ℕ → Bool
has_one_control flags = let low = flags % 8 in nat_le low 2 || (low == 4)

-- the first 20 bytes of a TCP header of this length, with 0 as checksum
abbrev pub front_bytes : Tcp → ℕ → ℕ → ℕ → List ℕ
front_bytes h src_port dst_port header_len =
    big_bytes 2 src_port ++ big_bytes 2 dst_port ++ big_bytes 4 h.seq_number ++ big_bytes 4 h.ack_number
    ++ big_bytes 1 (header_len / 4 * 16) ++ big_bytes 1 h.flags ++ big_bytes 2 h.window_len ++ big_bytes 2 0 ++ big_bytes 2 h.urgent_at

-- the bytes of a TCP segment before its checksum: the header with flags and urgent pointer, and the payload
abbrev pub segment_with_flags : Tcp → TcpHeader → List ℕ → List ℕ
segment_with_flags h v payload = with_field (with_field (tcp.header_bytes v 0 ++ payload) 104 8 h.flags) 144 16 h.urgent_at

-- the bytes of a TCP segment between two addresses, with its checksum if it is computed, else with 0
abbrev pub segment_bytes : Tcp → TcpHeader → List ℕ → IpAddress → IpAddress → Bool → List ℕ
segment_bytes h v payload src dst computed =
    let bytes = segment_with_flags h v payload in if computed then segment.with_checksum src dst bytes else bytes

-- whether at most one control flag is set, and an IP packet can carry header and payload of these lengths
abbrev pub is_segment : Tcp → ℕ → ℕ → Bool
is_segment h header_len payload_len = has_one_control h.flags && nat_le (header_len + payload_len) 65535

-- the length of the header of a segment with a payload of this length, if it can be written
abbrev pub segment_header_len : Tcp → TcpOptions → ℕ → Option ℕ
segment_header_len h o payload_len = option_and_then (λ len. only_if (is_segment h len payload_len) len) (tcp_header_len o)

-- the bytes of a TCP segment between two endpoints, if it can be written
abbrev pub tcp_bytes : Tcp → TcpOptions → Endpoint → Endpoint → List ℕ → Bool → Option (List ℕ)
tcp_bytes h o src dst payload computed =
    option_and_then (λ pair. option_map (λ len. segment_bytes h (tcp_value h o src.port dst.port) payload pair.0 pair.1 computed)
    (segment_header_len h o (length payload)))
    (ends_of (has_port src && has_port dst) src dst)
