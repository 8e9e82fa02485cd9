-- The line of text that a frame prints as.
-- Pinned by: `worked/summary`
use Rattle.std.specs.Prelude.{ℕ, ◌++◌, ◌==◌, ◌||◌, ◌/◌, ◌%◌, if◌then◌else◌, Bool, List, [], Option, Some, None, codes, decimal}
use Rattle.ip_wire.specs.Endpoint.{endpoint_at, endpoint_text}
use Rattle.ip_wire.specs.IpAddress.{address_text}
use Rattle.ip_wire.specs.Ip.{dst_addr_of, src_addr_of}
use Rattle.ip_wire.specs.Printed.{dashed, hex_byte}
use Rattle.ip_wire.specs.TcpRepr.{TcpHeader}
use Rattle.ip_wire.specs.Types.{IpAddress, IpRepr, Ipv4, Ipv6, UdpRepr}
use Rattle.c_structs.specs.Addresses.{ip_of}
use Rattle.c_structs.specs.declared.types.Arp.{Arp}
use Rattle.c_structs.specs.declared.types.Ethernet.{Ethernet}
use Rattle.c_structs.specs.declared.types.FrameFields.{FrameFields}
use Rattle.c_structs.specs.declared.types.Ip.{Ip}
use Rattle.c_structs.specs.declared.types.Tcp.{Tcp}

-- ---- the two ends

-- the word for a network header (`enum lk_network`)
abbrev pub network_word : ℕ → List ℕ
network_word network =
    if network == 1 then codes "ARP " else if network == 2 then codes "IPv4 " else if network == 3 then codes "IPv6 " else []

-- the transport header of a frame (`enum lk_transport`): the one that was read, or that was rejected and is stored
abbrev pub transport_of : FrameFields → ℕ
transport_of f = if f.transport == 0 then f.rejected else f.transport

-- whether a transport header has ports: UDP and TCP
abbrev pub has_ports : ℕ → Bool
has_ports transport = (transport == 1) || (transport == 2)

-- an address, with a port if there is one
abbrev pub end_text : Bool → IpAddress → ℕ → List ℕ
end_text ported address port = if ported then endpoint_text (endpoint_at address port) else address_text address

-- the Ethernet addresses, and the EtherType in hex
abbrev pub ethernet_text : Ethernet → List ℕ
ethernet_text header =
    codes "Ethernet " ++ dashed header.src ++ codes " > " ++ dashed header.dst
    ++ codes " type=0x" ++ hex_byte (header.ethertype / 256) ++ hex_byte (header.ethertype % 256)

-- the sender and the receiver: both IP addresses if there are two, else the Ethernet addresses
abbrev pub ends_text : FrameFields → Option IpAddress → Option IpAddress → List ℕ
ends_text f (Some src) (Some dst) =
    network_word f.network ++ end_text (has_ports (transport_of f)) src f.src.port
    ++ codes " > " ++ end_text (has_ports (transport_of f)) dst f.dst.port
ends_text f (Some src) None = ethernet_text f.ethernet
ends_text f None dst = ethernet_text f.ethernet

-- ---- the innermost header

-- the text if this bit of the flags is set, else nothing
abbrev pub where_set : ℕ → ℕ → List ℕ → List ℕ
where_set flags bit text = if flags / bit % 2 == 1 then text else []

-- the TCP flags that are set, but for ACK and URG
abbrev pub flags_text : ℕ → List ℕ
flags_text flags =
    where_set flags 2 (codes " syn") ++ where_set flags 1 (codes " fin") ++ where_set flags 4 (codes " rst")
    ++ where_set flags 8 (codes " psh") ++ where_set flags 64 (codes " ece") ++ where_set flags 128 (codes " cwr")

-- the flags and numbers of a TCP header
abbrev pub tcp_text : Tcp → List ℕ
tcp_text h =
    codes " TCP" ++ flags_text h.flags ++ codes " seq=" ++ decimal h.seq_number
    ++ where_set h.flags 16 (codes " ack=" ++ decimal h.ack_number) ++ codes " win=" ++ decimal h.window_len
    ++ where_set h.flags 32 (codes " urg=" ++ decimal h.urgent_at)

-- the operation of an ARP packet, and the hardware address of its sender
abbrev pub arp_text : Arp → List ℕ
arp_text h = codes " op=" ++ decimal h.operation ++ codes " hardware=" ++ dashed h.src_hardware

-- the type and code of an ICMP message
abbrev pub icmp_text : ℕ → ℕ → List ℕ
icmp_text msg_type code = codes " ICMP type=" ++ decimal msg_type ++ codes " code=" ++ decimal code

-- the offset of a fragment, with `+` if more fragments follow it
abbrev pub fragment_text : Ip → List ℕ
fragment_text h = codes " fragment=" ++ decimal h.fragment_offset ++ (if h.more_fragments == 0 then [] else codes "+")

-- the protocol of what an IP packet carries after its extension headers, and which part of it a fragment is
abbrev pub protocol_text : FrameFields → List ℕ
protocol_text f = codes " proto=" ++ decimal f.protocol ++ (if f.is_fragment == 0 then [] else fragment_text f.ip)

-- the innermost header of a frame
abbrev pub header_text : FrameFields → ℕ → ℕ → List ℕ
header_text f icmp_type icmp_code =
    if transport_of f == 1 then codes " UDP"
    else if transport_of f == 2 then tcp_text f.tcp
    else if transport_of f == 3 then icmp_text icmp_type icmp_code
    else if f.network == 1 then arp_text f.arp
    else if f.network == 0 then []
    else protocol_text f

-- ---- what is wrong

-- the note about the checksum of an IPv4 header (`enum lk_verdict`)
abbrev pub ipv4_note : ℕ → List ℕ
ipv4_note verdict = if verdict == 2 then codes " (header checksum incorrect)" else []

-- the note about the checksum of a transport header (`enum lk_verdict`)
abbrev pub transport_note : ℕ → List ℕ
transport_note verdict =
    if verdict == 2 then codes " (checksum incorrect)"
    else if verdict == 3 then codes " (no checksum)"
    else if verdict == 4 then codes " (partial checksum correct)"
    else if verdict == 5 then codes " (checksum cut)"
    else []

-- the note about a rejected header (`enum lk_reason`)
abbrev pub reason_note : ℕ → List ℕ
reason_note reason =
    if reason == 1 then codes " (too short)"
    else if reason == 2 then codes " (bad version)"
    else if reason == 3 then codes " (bad length)"
    else if reason == 4 then codes " (other ARP)"
    else if reason == 5 then codes " (port zero)"
    else if reason == 6 then codes " (bad flags)"
    else if reason == 7 then codes " (bad options)"
    else if reason == 8 then codes " (header cut)"
    else if reason == 9 then codes " (unknown link)"
    else if reason == 10 then codes " (hops left)"
    else if reason == 11 then codes " (bad order)"
    else []

-- the line of a frame with an ICMP message of this type and code, if it has one
abbrev pub frame_line : FrameFields → ℕ → ℕ → List ℕ
frame_line f icmp_type icmp_code =
    ends_text f (ip_of f.src.addr) (ip_of f.dst.addr) ++ header_text f icmp_type icmp_code ++ codes " len=" ++ decimal f.payload_len
    ++ ipv4_note f.ipv4_checksum ++ transport_note f.transport_checksum ++ reason_note f.reason

-- ---- the line of a packet with ports, by the values that it parses as

-- the version of an IP header
abbrev pub version_text : IpRepr → List ℕ
version_text (Ipv4 v) = codes "IPv4 "
version_text (Ipv6 v) = codes "IPv6 "

-- the source and the destination of a packet with these ports
abbrev pub endpoints_text : IpRepr → ℕ → ℕ → List ℕ
endpoints_text v src_port dst_port =
    version_text v ++ endpoint_text (endpoint_at (src_addr_of v) src_port)
    ++ codes " > " ++ endpoint_text (endpoint_at (dst_addr_of v) dst_port)

-- the line of a UDP packet with a payload of this length, without what its checksums say
abbrev pub udp_line : IpRepr → UdpRepr → ℕ → List ℕ
udp_line v ports len = endpoints_text v ports.src_port ports.dst_port ++ codes " UDP" ++ codes " len=" ++ decimal len

-- the line of a TCP segment with a payload of this length, without what its checksums say; the struct has its flags and
-- numbers
abbrev pub tcp_line : IpRepr → TcpHeader → Tcp → ℕ → List ℕ
tcp_line v header fields len =
    endpoints_text v header.src_port header.dst_port ++ tcp_text fields ++ codes " len=" ++ decimal len

-- the line with what the checksums of a frame say
abbrev pub with_verdicts : List ℕ → FrameFields → List ℕ
with_verdicts line f = line ++ ipv4_note f.ipv4_checksum ++ transport_note f.transport_checksum
