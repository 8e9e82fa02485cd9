-- Frames with a message of ICMP or of neighbour discovery.
-- Pinned by: `worked/hosts`, `worked/icmp`, `tests/frames/host_lines.py`
use Rattle.std.specs.Prelude.{ℕ, ⊤, ◌≡◌, ◌<◌, ◌≤◌, ◌+◌, ◌/◌, ◌%◌, ◌++◌, List, Option, Some, None, drop, length, true}
use Rattle.ip_wire.specs.Ethernet as ethernet
use Rattle.ip_wire.specs.Field.{field}
use Rattle.ip_wire.specs.Frame.{Carried, IsReadWhole, ReadsPacket, all_checked, other, packet, packet_payload, type_of}
use Rattle.ip_wire.specs.Ip as ip
use Rattle.ip_wire.specs.Ip.{dst_addr_of, header_before, max_payload_len, next_header_of, payload_len_of, src_addr_of, version_of}
use Rattle.ip_wire.specs.IpAddress.{address_bytes}
use Rattle.ip_wire.specs.Reply.{header_bytes, reply_bytes, reply_len}
use Rattle.ip_wire.specs.Types.{EthernetAddress, EthernetRepr, IpRepr, IpVersion}
use Rattle.ip_wire.specs.declared.IpVersion.TheVariants as version
use Rattle.wire_icmp.specs.Icmp as icmp
use Rattle.wire_icmp.specs.Icmp.{protocol_of}
use Rattle.wire_icmp.specs.Ndisc as ndisc
use Rattle.app_host.specs.declared.message.Message.{Message}
use Rattle.app_host.specs.declared.message.Message.TheVariants.{Icmp, Ndisc}
use Rattle.app_host.specs.declared.message.MessageFrame.{MessageFrame}

-- the bytes of a message in a packet with this header, with its checksum
abbrev pub message_bytes : IpRepr → Message → List ℕ
message_bytes v (Icmp value payload) = icmp.bytes_of value payload.now (src_addr_of v) (dst_addr_of v) true
message_bytes v (Ndisc value) = ndisc.bytes_of value (address_bytes (src_addr_of v)) (address_bytes (dst_addr_of v)) true

-- the number of bytes of a message
abbrev pub message_len : Message → ℕ
message_len (Icmp value payload) = 8 + length payload.now
message_len (Ndisc value) = ndisc.len_of value

-- a packet with this header can carry the message: neighbour discovery exists only over IPv6
abbrev pub IsOfVersion : Message → IpRepr → Type 0
IsOfVersion (Icmp value payload) v = ⊤
IsOfVersion (Ndisc value) v = version_of v ≡ version.Ipv6

-- the values of what the frame of a message carries
abbrev pub values_of : MessageFrame → Carried
values_of f = packet f.ip (other (message_bytes f.ip f.message))

-- the emitted bytes of the frame of a message
abbrev pub frame_bytes : MessageFrame → List ℕ
frame_bytes f = ethernet.bytes_of f.header ++ (ip.bytes_of f.ip true ++ message_bytes f.ip f.message)

-- the frame of a message can be emitted: each header names what follows it, and the lengths fit
pub record IsSendable (f : MessageFrame) : Type 0 where
  pub ethertype : f.header.ethertype ≡ type_of f.ip
  pub protocol : next_header_of f.ip ≡ protocol_of (version_of f.ip)
  pub len : payload_len_of f.ip ≡ message_len f.message
  pub written : length (message_bytes f.ip f.message) ≡ message_len f.message
  pub fits : message_len f.message ≤ max_payload_len f.ip
  pub version : IsOfVersion f.message f.ip
  pub dscp : f.dscp < 64

-- a frame of these headers, of the bytes of a message and of any padding parses as their values
abbrev pub Composes : EthernetRepr → IpRepr → Type 0
Composes header v =
    (bytes padding : List ℕ) → header.ethertype ≡ type_of v → next_header_of v ≡ protocol_of (version_of v) → payload_len_of v ≡ length bytes
    → IsReadWhole (ethernet.bytes_of header ++ (ip.bytes_of v true ++ bytes) ++ padding) header (packet v (other bytes))

-- the result is a frame with the values of a reply that can be emitted, or there is no reply
abbrev pub Gives : (EthernetRepr → Carried → Type 0) → Option MessageFrame → Type 0
Gives IsReply None = (header : EthernetRepr) (carried : Carried) → ¬ IsReply header carried
Gives IsReply (Some f) = IsSendable f × IsReply f.header (values_of f)

-- The frame is at the front of the buffer and parses there, and the other bytes are unchanged: the buffer is the bytes
-- of the frame with its DSCP, and the bytes after them. If it does not fit, the whole buffer is unchanged.
abbrev pub IsSent : MessageFrame → List ℕ → List ℕ → Option ℕ → Type 0
IsSent f old new None = (length old < reply_len (values_of f)) × (new ≡ old)
IsSent f old new (Some len) =
    (len ≡ reply_len (values_of f)) × (len ≤ length old) × (drop len new ≡ drop len old) × IsReadWhole new f.header (values_of f)
    × (new ≡ reply_bytes f.header (values_of f) f.dscp ++ drop len old)

-- ---- the DSCP and the ECN of a packet (RFC 2474, section 3; RFC 3168, section 5)

-- the DSCP of a packet of this version: of IPv6 the first 6 bits of the traffic class
abbrev pub dscp_of : IpVersion → List ℕ → ℕ
dscp_of version.Ipv4 bytes = field bytes 8 6
dscp_of version.Ipv6 bytes = field bytes 4 8 / 4

-- the ECN of a packet of this version: of IPv6 the last 2 bits of the traffic class
abbrev pub ecn_of : IpVersion → List ℕ → ℕ
ecn_of version.Ipv4 bytes = field bytes 14 2
ecn_of version.Ipv6 bytes = field bytes 4 8 % 4

-- a packet of this version has this DSCP, and ECN 0
pub record HasClass (version : IpVersion) (bytes : List ℕ) (dscp : ℕ) : Type 0 where
  pub marked : dscp_of version bytes ≡ dscp
  pub unmarked_ecn : ecn_of version bytes ≡ 0

-- the packet in the bytes of the frame of a message has the DSCP of the message, and ECN 0
abbrev pub IsMarked : MessageFrame → List ℕ → Type 0
IsMarked f bytes = HasClass (version_of f.ip) (drop 14 bytes) f.dscp

-- The packet with this header has another DSCP, and else parses as before. If it begins with the emitted header, only
-- that header changes.
pub record IsRemarked (v : IpRepr) (old new : List ℕ) (dscp : ℕ) : Type 0 where
  pub marked : HasClass (version_of v) new dscp
  pub reads : ReadsPacket all_checked new v
  pub payload : packet_payload v new ≡ packet_payload v old
  pub rest : drop (ip.header_len_of v) new ≡ drop (ip.header_len_of v) old
  pub bytes : (payload : List ℕ) → old ≡ ip.bytes_of v true ++ payload → new ≡ header_bytes v dscp ++ payload

-- The frame of a message has its DSCP, and else parses as before. If the buffer begins with the emitted frame, only that
-- changes.
pub record IsFrameRemarked (f : MessageFrame) (old new : List ℕ) : Type 0 where
  pub marked : IsMarked f new
  pub reads : IsReadWhole new f.header (values_of f)
  pub rest : drop (14 + ip.header_len_of f.ip) new ≡ drop (14 + ip.header_len_of f.ip) old
  pub bytes : (rest : List ℕ) → old ≡ frame_bytes f ++ rest → new ≡ reply_bytes f.header (values_of f) f.dscp ++ rest

-- ---- frames that are put together

-- the frame between two hosts with this message, in a packet with the addresses and the hop limit of a header, and with
-- DSCP 0
abbrev pub message_frame : EthernetAddress → EthernetAddress → IpRepr → Message → MessageFrame
message_frame src dst v m = record {
  header = record { src_addr = src; dst_addr = dst; ethertype = type_of v };
  ip = header_before v (protocol_of (version_of v)) (message_len m);
  dscp = 0;
  message = m;
}
