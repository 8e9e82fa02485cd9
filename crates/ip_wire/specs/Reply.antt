-- Replies to frames, as values without borrows and as bytes.
-- Pinned by: `RepliesOnce`, `tests/frames/host_lines.py`
use Rattle.std.specs.Prelude.{ℕ, ◌≡◌, ◌<◌, ◌≤◌, ◌+◌, ◌-◌, ◌*◌, ◌++◌, List, Option, Some, None, drop, length}
use Rattle.wire_arp.specs.Arp as arp
use Rattle.wire_checksum.specs.WordSum.{sum_of_bytes}
use Rattle.wire_ethernet.specs.Ethernet as ethernet
use Rattle.net_base.specs.Field.{with_field}
use Rattle.wire_ip.specs.Ip.{dst_addr_of, src_addr_of}
use Rattle.wire_ipv4.specs.Ipv4 as ipv4
use Rattle.wire_ipv6.specs.Ipv6 as ipv6
use Rattle.ip_wire.specs.Frame.{Carried, IsReadWhole, all_checked, describe_carried, describe_transport, message, packet}
use Rattle.ip_wire.specs.FrameValue.{Agrees, Fits, carried_of, frame_bytes, frame_len, normal_carried_of}
use Rattle.ip_wire.specs.Types.{EthernetRepr, IpRepr, Ipv4, Ipv4Repr, Ipv6}
use Rattle.ip_wire.specs.declared.frame.Frame.{Frame}

-- the frame has this header, and these contents
abbrev pub HasValues : Frame → EthernetRepr → Carried → Type 0
HasValues f header carried = (f.header ≡ header) × (carried_of f.carried ≡ Some carried)

-- The frame can be emitted, and its bytes parse as its values: each header names what follows it, the lengths fit,
-- and the values are in normal form.
pub record IsSendable (f : Frame) : Type 0 where
  pub agrees : Agrees f
  pub fits : Fits f
  pub header : ethernet.normal f.header ≡ f.header
  pub carried : normal_carried_of f.carried ≡ carried_of f.carried

-- the result is a frame with the values of a reply that can be emitted, or there is no reply
abbrev pub Gives : (EthernetRepr → Carried → Type 0) → Option Frame → Type 0
Gives IsReply None = (header : EthernetRepr) (carried : Carried) → ¬ IsReply header carried
Gives IsReply (Some f) = IsSendable f × ((header : EthernetRepr) × (carried : Carried) × HasValues f header carried × IsReply header carried)

-- The frame is at the front of the buffer and parses there, and the other bytes are unchanged: the buffer is the
-- emitted bytes of the frame with all checksums, and the bytes after them. If it does not fit, the whole buffer is
-- unchanged.
abbrev pub IsSent : Frame → List ℕ → List ℕ → Option ℕ → Type 0
IsSent f old new None = (length old < frame_len f) × (new ≡ old)
IsSent f old new (Some len) =
    (len ≡ frame_len f) × (len ≤ length old) × (drop len new ≡ drop len old)
    × ((carried : Carried) × (carried_of f.carried ≡ Some carried) × IsReadWhole new f.header carried)
    × (new ≡ frame_bytes all_checked f ++ drop len old)

-- the reply is sent; if there is none, the buffer is unchanged
abbrev pub IsReplySent : Option Frame → List ℕ → List ℕ → Option ℕ → Type 0
IsReplySent None old new result = (result ≡ None) × (new ≡ old)
IsReplySent (Some f) old new result = IsSent f old new result

-- the length of a frame with these contents
abbrev pub reply_len : Carried → ℕ
reply_len carried = 14 + (describe_carried carried).len

-- the emitted header of IPv4 with this checksum, and with this DSCP instead of 0
abbrev pub ipv4_with : Ipv4Repr → ℕ → ℕ → List ℕ
ipv4_with v dscp sum = with_field (ipv4.header_with v sum) 8 6 dscp

-- The emitted bytes of an IP header with this DSCP (RFC 2474, section 3) and ECN 0. Over IPv4 the identification is 0, DF
-- (don't fragment) is set, and the checksum is computed. Over IPv6 the flow label is 0.
abbrev pub header_bytes : IpRepr → ℕ → List ℕ
header_bytes (Ipv4 v) dscp = ipv4_with v dscp (65535 - sum_of_bytes (ipv4_with v dscp 0))
header_bytes (Ipv6 v) dscp = with_field (ipv6.bytes_of v) 4 8 (4 * dscp)

-- the bytes of a reply with these values: its packet has this DSCP, and all checksums are computed
abbrev pub reply_bytes : EthernetRepr → Carried → ℕ → List ℕ
reply_bytes header (message v) dscp = ethernet.bytes_of header ++ arp.bytes_of v
reply_bytes header (packet v inner) dscp =
    ethernet.bytes_of header ++ (header_bytes v dscp ++ (describe_transport inner).bytes all_checked (src_addr_of v) (dst_addr_of v))

-- the DSCP of replies with any values: 0
abbrev pub unmarked : Carried → ℕ
unmarked carried = 0

-- A reply is at the front of the buffer and parses there, and the other bytes are unchanged. Its DSCP is that of replies
-- with its values.
pub record IsWritten (dscp : Carried → ℕ) (IsReply : EthernetRepr → Carried → Type 0) (old new : List ℕ) (len : ℕ) : Type 0 where
  pub header : EthernetRepr
  pub carried : Carried
  pub replies : IsReply header carried
  pub reads : IsReadWhole new header carried
  pub size : len ≡ reply_len carried
  pub fits : len ≤ length old
  pub rest : drop len new ≡ drop len old
  pub bytes : new ≡ reply_bytes header carried (dscp carried) ++ drop len old

-- the reply is written, or the buffer is unchanged because no reply fits
abbrev pub Sends : (Carried → ℕ) → (EthernetRepr → Carried → Type 0) → List ℕ → List ℕ → Option ℕ → Type 0
Sends dscp IsReply old new None = (new ≡ old) × ((header : EthernetRepr) (carried : Carried) → IsReply header carried → length old < reply_len carried)
Sends dscp IsReply old new (Some len) = IsWritten dscp IsReply old new len
