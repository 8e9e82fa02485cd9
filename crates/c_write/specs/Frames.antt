-- The bytes of whole packets and frames that are written from the struct of a frame.
-- Pinned by: `worked/write`, `judge`, `example.c`
use Rattle.std.specs.Prelude.{ℕ, ◌+◌, ◌&&◌, ◌==◌, nat_le, ◌++◌, if◌then◌else◌, Bool, true, List, drop, length, slice_range, Option}
use Rattle.std.specs.Option.{option_and_then, option_map}
use Rattle.ip_wire.specs.Frame.{rebuilt}
use Rattle.ip_wire.specs.Ip.{header_len_of}
use Rattle.ip_wire.specs.Types.{IpRepr}
use Rattle.c_write.specs.Headers.{arp_bytes, header_bytes, ip_value, link_bytes, only_if, segment_header_len, tcp_bytes, udp_bytes}
use Rattle.c_structs.specs.declared.types.Arp.{Arp}
use Rattle.c_structs.specs.declared.types.Ethernet.{Ethernet}
use Rattle.c_structs.specs.declared.types.FrameFields.{FrameFields}
use Rattle.c_structs.specs.declared.types.Ip.{Ip}
use Rattle.c_structs.specs.declared.types.TcpOptions.{TcpOptions}

-- whether the fields say that the packet is whole
abbrev pub is_whole : Ip → Bool
is_whole h = (h.fragment_offset == 0) && (h.more_fragments == 0)

-- the values of the IP header before a packet of this protocol and length
abbrev pub ip_header : FrameFields → ℕ → ℕ → Option IpRepr
ip_header f number len = option_and_then (λ v. only_if (is_whole f.ip) v) (ip_value f.ip number f.src.addr f.dst.addr len)

-- ---- packets

-- the bytes of an IP packet with this payload of this protocol, if its header can be written
abbrev pub ip_packet : FrameFields → ℕ → List ℕ → Option (List ℕ)
ip_packet f number payload = option_map (λ v. header_bytes f.ip true v ++ payload) (ip_header f number (length payload))

-- the bytes of an IP packet with UDP, if it can be written
abbrev pub udp_packet : FrameFields → List ℕ → Option (List ℕ)
udp_packet f payload = option_and_then (ip_packet f 17) (udp_bytes f.src f.dst payload true)

-- the bytes of an IP packet with TCP, if it can be written
abbrev pub tcp_packet : FrameFields → TcpOptions → List ℕ → Option (List ℕ)
tcp_packet f o payload = option_and_then (ip_packet f 6) (tcp_bytes f.tcp o f.src f.dst payload true)

-- ---- packets around a payload in the buffer

-- `len` bytes from index `first` on, if there are so many
abbrev pub part : List ℕ → ℕ → ℕ → Option (List ℕ)
part bytes first len = only_if (nat_le (first + len) (length bytes)) (slice_range bytes first (first + len))

-- the bytes of an IP packet with UDP around the payload that is in the buffer after the headers
abbrev pub udp_packet_around : FrameFields → ℕ → List ℕ → Option (List ℕ)
udp_packet_around f len bytes =
    option_and_then (λ v. option_and_then (udp_packet f) (part bytes (header_len_of v + 8) len)) (ip_header f 17 (8 + len))

-- the bytes of an IP packet with TCP around the payload that is in the buffer after the headers
abbrev pub tcp_packet_around : FrameFields → TcpOptions → ℕ → List ℕ → Option (List ℕ)
tcp_packet_around f o len bytes =
    option_and_then (λ size. option_and_then (λ v. option_and_then (tcp_packet f o) (part bytes (header_len_of v + size) len))
    (ip_header f 6 (size + len)))
    (segment_header_len f.tcp o len)

-- ---- frames

-- the number of the EtherType of a packet between addresses of this version
abbrev pub type_number : ℕ → ℕ
type_number version = if version == 4 then 0x0800 else 0x86dd

-- the bytes of the Ethernet header before a packet
abbrev pub packet_link : FrameFields → List ℕ
packet_link f = link_bytes f.ethernet (type_number f.src.addr.version)

-- the bytes of the frame of a packet
abbrev pub framed : FrameFields → Option (List ℕ) → Option (List ℕ)
framed f packet = option_map (λ bytes. packet_link f ++ bytes) packet

-- the bytes of a frame with a UDP packet, if it can be written
abbrev pub udp_frame : FrameFields → List ℕ → Option (List ℕ)
udp_frame f payload = framed f (udp_packet f payload)

-- the bytes of a frame with a TCP segment, if it can be written
abbrev pub tcp_frame : FrameFields → TcpOptions → List ℕ → Option (List ℕ)
tcp_frame f o payload = framed f (tcp_packet f o payload)

-- the bytes of a frame with a UDP packet around the payload that is in the buffer after the headers
abbrev pub udp_frame_around : FrameFields → ℕ → List ℕ → Option (List ℕ)
udp_frame_around f len bytes = framed f (udp_packet_around f len (drop 14 bytes))

-- the bytes of a frame with a TCP segment around the payload that is in the buffer after the headers
abbrev pub tcp_frame_around : FrameFields → TcpOptions → ℕ → List ℕ → Option (List ℕ)
tcp_frame_around f o len bytes = framed f (tcp_packet_around f o len (drop 14 bytes))

-- the bytes of a frame with an ARP packet, if it can be written
abbrev pub arp_frame : FrameFields → Option (List ℕ)
arp_frame f = option_map (λ packet. link_bytes f.ethernet 0x0806 ++ packet) (arp_bytes f.arp f.src.addr f.dst.addr)

-- ---- replies

-- the Ethernet header of a reply: the addresses are exchanged
abbrev pub back_link : Ethernet → Ethernet
back_link h = record { src = h.dst; dst = h.src; ethertype = h.ethertype }

-- the ARP packet of a reply: the hardware addresses are exchanged
abbrev pub back_arp : Arp → Arp
back_arp h = record { operation = h.operation; src_hardware = h.dst_hardware; dst_hardware = h.src_hardware }

-- the IP header of a reply: a new packet with the protocol and DSCP of the other one; with DF it needs no
-- identification (RFC 6864)
abbrev pub back_ip : Ip → Ip
back_ip h = record {
  ident = 0;
  flow_label = 0;
  fragment_offset = 0;
  protocol = h.protocol;
  hop_limit = 64;
  dscp = h.dscp;
  ecn = 0;
  more_fragments = 0;
  dont_fragment = 1;
}

-- the struct of a reply to a frame: hardware addresses and endpoints are exchanged
abbrev pub reply_to : FrameFields → FrameFields
reply_to f = record f { src = f.dst; dst = f.src; ip = back_ip f.ip; ethernet = back_link f.ethernet; arp = back_arp f.arp }

-- ---- rebuilding

-- the rebuilt frame, if there is an Ethernet header
abbrev pub rebuilt_of : List ℕ → Option (List ℕ)
rebuilt_of frame = only_if (nat_le 14 (length frame)) (rebuilt frame)
