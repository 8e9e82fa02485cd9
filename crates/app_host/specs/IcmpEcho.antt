-- The reply to an echo request (RFC 792; RFC 1122, section 3.2.2.6; RFC 4443, section 4.2).
-- Pinned by: `tests/frames/host_lines.py`, `worked/hosts`, `MessagesOnce`
use Rattle.std.specs.Prelude.{ℕ, ◌≡◌, ◌≤◌, ◌==◌, if◌then◌else◌, List, Some, drop, length, true}
use Rattle.ip_wire.specs.Frame.{Carried, IsReadWhole, other, packet, type_of}
use Rattle.ip_wire.specs.FrameValue.{carried_of}
use Rattle.ip_wire.specs.Ip.{dst_addr_of, header_before, max_payload_len, next_header_of, src_addr_of, version_of}
use Rattle.ip_wire.specs.Types.{EthernetRepr, IpRepr}
use Rattle.ip_wire.specs.declared.Frame.{Frame}
use Rattle.wire_icmp.specs.Icmp.{Reads, bytes_of, msg_type_of, protocol_of}
use Rattle.wire_icmp.specs.Icmp as icmp
use Rattle.wire_icmp.specs.declared.IcmpRepr.TheVariants.{EchoReply, EchoRequest}
use Rattle.app_host.specs.Interface.{IsForUs, header_back}
use Rattle.app_host.specs.Message.{HasClass, dscp_of}
use Rattle.app_host.specs.Skipped.{without_extensions}
use Rattle.app_host.specs.declared.interface.Interface.{Interface}
use Rattle.app_host.specs.declared.message.MessageFrame.{MessageFrame}

-- A frame with these values is an echo request for us, and the other frame is the reply to it. It has the same
-- identifier, sequence number and data.
pub record IsIcmpEcho (ours : Interface) (asked_header : EthernetRepr) (asked : Carried) (header : EthernetRepr) (carried : Carried) : Type 0 where
  pub ip : IpRepr
  pub ident : ℕ
  pub seq_no : ℕ
  pub payload : List ℕ
  pub request : List ℕ
  pub asks : asked ≡ packet ip (other request)
  pub protocol : next_header_of ip ≡ protocol_of (version_of ip)
  pub reads : Reads request (src_addr_of ip) (dst_addr_of ip) true (EchoRequest ident seq_no) payload
  pub for_us : IsForUs ours asked_header ip
  pub fits : length request ≤ max_payload_len ip
  pub link : header ≡ record { src_addr = ours.hardware_addr; dst_addr = asked_header.src_addr; ethertype = type_of ip }
  pub replies : carried ≡ (let reply = bytes_of (EchoReply ident seq_no) payload (dst_addr_of ip) (src_addr_of ip) true in
      packet (header_before (header_back ip) (protocol_of (version_of ip)) (length reply)) (other reply))

-- The DSCP of a host's reply with these values to the frame with these bytes: that of the frame if the reply is an echo
-- reply (RFC 1812, section 4.3.2.5), else 0.
abbrev pub reply_dscp : List ℕ → Carried → ℕ
reply_dscp bytes (packet v (other m)) =
    if msg_type_of m == icmp.type_of (version_of v) (EchoReply 0 0) then dscp_of (version_of v) (drop 14 bytes) else 0
reply_dscp bytes _ = 0

-- If these bytes are an echo request for us, also after extension headers that we skip, the packet in the other bytes has
-- the DSCP of the request (RFC 1812, section 4.3.2.5), and ECN 0.
abbrev pub KeepsDscp : Interface → List ℕ → List ℕ → Type 0
KeepsDscp ours bytes answer =
    (asked_header header : EthernetRepr) (asked carried : Carried) → IsReadWhole (without_extensions bytes) asked_header asked → (e : IsIcmpEcho ours asked_header asked header carried)
    → HasClass (version_of e.ip) (drop 14 answer) (dscp_of (version_of e.ip) (drop 14 bytes))

-- If the frame with these bytes is an echo request for us, the frame of a message has its version and its DSCP.
abbrev pub HasDscpOf : Interface → Frame → List ℕ → MessageFrame → Type 0
HasDscpOf ours request bytes f =
    (header : EthernetRepr) (asked carried : Carried) → 16 ≤ length bytes → carried_of request.carried ≡ Some asked → (e : IsIcmpEcho ours request.header asked header carried)
    → (version_of f.ip ≡ version_of e.ip) × (f.dscp ≡ dscp_of (version_of e.ip) (drop 14 bytes))

-- the values of our echo reply to a frame
abbrev pub RepliesEchoFrame : Interface → Frame → EthernetRepr → Carried → Type 0
RepliesEchoFrame ours request header carried =
    (asked : Carried) × (carried_of request.carried ≡ Some asked) × IsIcmpEcho ours request.header asked header carried
