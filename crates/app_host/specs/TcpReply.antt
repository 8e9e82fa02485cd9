-- The replies of TCP to a segment without a connection (RFC 9293, section 3.10.7).
-- Pinned by: `tests/frames/host_lines.py`, `RepliesOnce`, `calls/worked_replies`
use Rattle.std.specs.Prelude.{ℕ, ◌≡◌, ◌≢◌, ◌+◌, ◌%◌, ◌^◌, ◌⊎◌, Contains, List, [], Option, Some, None, false, length, min}
use Rattle.std.specs.Option.{option_map}
use Rattle.ip_wire.specs.Frame.{Carried, IsReadWhole, packet, segment, type_of}
use Rattle.ip_wire.specs.FrameValue.{carried_of}
use Rattle.ip_wire.specs.Ip.{header_before}
use Rattle.ip_wire.specs.TcpRepr.{TcpHeader, header_len_of, no_ranges, seq_of}
use Rattle.ip_wire.specs.TcpSeq.{control_len, number}
use Rattle.ip_wire.specs.Types.{EthernetRepr, IpRepr}
use Rattle.ip_wire.specs.declared.Frame.{Frame}
use Rattle.ip_wire.specs.declared.IpProtocol.TheVariants as protocol
use Rattle.ip_wire.specs.declared.TcpControl.{TcpControl}
use Rattle.ip_wire.specs.declared.TcpControl.TheVariants as control
use Rattle.ip_wire.specs.declared.TcpSeqNumber.{TcpSeqNumber}
use Rattle.app_host.specs.Interface.{IsForUs, header_back}
use Rattle.app_host.specs.declared.interface.Interface.{Interface}
use Rattle.app_host.specs.declared.tcp_reply.Offer.{Offer}

-- the sequence number n after this one, modulo 2 ^ 32
abbrev pub ahead : TcpSeqNumber → ℕ → TcpSeqNumber
ahead seq n = seq_of ((number seq + n) % 2 ^ 32)

-- a segment back to the sender, with this control and these numbers, without options
abbrev pub back : TcpHeader → TcpControl → TcpSeqNumber → Option TcpSeqNumber → TcpHeader
back asked flag seq ack = record {
  src_port = asked.dst_port;
  dst_port = asked.src_port;
  control = flag;
  seq_number = seq;
  ack_number = ack;
  window_len = 0;
  window_scale = None;
  max_seg_size = None;
  sack_permitted = false;
  sack_ranges = no_ranges;
  timestamp = None;
}

-- the RST to a segment of this sequence length: <SEQ=SEG.ACK><CTL=RST> if it has an acknowledgement, else
-- <SEQ=0><ACK=SEG.SEQ+SEG.LEN><CTL=RST,ACK>
abbrev pub reset_by : Option TcpSeqNumber → TcpHeader → ℕ → TcpHeader
reset_by (Some ack) asked len = back asked control.Rst ack None
reset_by None asked len = back asked control.Rst (seq_of 0) (Some (ahead asked.seq_number len))

-- the RST to a segment with a payload of this length
abbrev pub reset_for : TcpHeader → ℕ → TcpHeader
reset_for asked payload_len = reset_by asked.ack_number asked (payload_len + control_len asked.control)

-- <SEQ=ISS><ACK=SEG.SEQ+1><CTL=SYN,ACK> to a SYN, with the options that the SYN has too, and the maximum segment size
abbrev pub syn_ack : Offer → TcpHeader → TcpHeader
syn_ack offer syn = record (back syn control.Syn offer.initial (Some (ahead syn.seq_number 1))) {
  window_len = offer.window_len;
  window_scale = option_map (λ _. min offer.window_scale 14) syn.window_scale;
  max_seg_size = Some offer.max_seg_size;
  sack_permitted = syn.sack_permitted;
  timestamp = option_map (λ stamp. record { tsval = offer.clock; tsecr = stamp.tsval }) syn.timestamp;
}

-- the reply of a closed port to a segment with this control: a RST is discarded, anything else is reset
abbrev pub closed_by : TcpControl → TcpHeader → Option TcpHeader
closed_by control.Rst reset = None
closed_by _ reset = Some reset

-- the reply of a closed port to a segment with a payload of this length
abbrev pub closed_reply : TcpHeader → ℕ → Option TcpHeader
closed_reply asked payload_len = closed_by asked.control (reset_for asked payload_len)

-- the reply of an open port to a segment with this control and this acknowledgement: a RST is discarded, an
-- acknowledgement is reset, a SYN is accepted, and the rest is dropped, checked in this order
abbrev pub listen_by : TcpControl → Option TcpSeqNumber → TcpHeader → TcpHeader → Option TcpHeader
listen_by control.Rst _ reset accepted = None
listen_by _ (Some ack) reset accepted = Some reset
listen_by control.Syn None reset accepted = Some accepted
listen_by _ None reset accepted = None

-- the reply of an open port to a segment
abbrev pub listen_reply : Offer → TcpHeader → Option TcpHeader
listen_reply offer asked = listen_by asked.control asked.ack_number (reset_for asked 0) (syn_ack offer asked)

-- the reply to a segment with a payload of this length, if these ports are open
abbrev pub Replies : List ℕ → Offer → TcpHeader → ℕ → TcpHeader → Type 0
Replies ports offer asked payload_len reply =
    (Contains ports asked.dst_port × (listen_reply offer asked ≡ Some reply))
    ⊎ (¬ Contains ports asked.dst_port × (closed_reply asked payload_len ≡ Some reply))

-- a frame with these values is a TCP segment for us, and the other frame is the reply to it
pub record IsTcpReply (ours : Interface) (ports : List ℕ) (offer : Offer) (asked_header : EthernetRepr) (asked : Carried) (header : EthernetRepr) (carried : Carried) : Type 0 where
  pub ip : IpRepr
  pub tcp : TcpHeader
  pub payload : List ℕ
  pub reply : TcpHeader
  pub asks : asked ≡ packet ip (segment tcp payload)
  pub for_us : IsForUs ours asked_header ip
  pub from_port : tcp.src_port ≢ 0
  pub to_port : tcp.dst_port ≢ 0
  pub replies : Replies ports offer tcp (length payload) reply
  pub link : header ≡ record { src_addr = ours.hardware_addr; dst_addr = asked_header.src_addr; ethertype = type_of ip }
  pub carries : carried ≡ packet (header_before (header_back ip) protocol.Tcp (header_len_of reply)) (segment reply [])

-- the values of our TCP reply to a frame
abbrev pub TcpRepliesFrame : Interface → List ℕ → Offer → Frame → EthernetRepr → Carried → Type 0
TcpRepliesFrame ours ports offer request header carried =
    (asked : Carried) × (carried_of request.carried ≡ Some asked) × IsTcpReply ours ports offer request.header asked header carried

-- the values of our TCP reply to the frame that the bytes parse as
abbrev pub TcpRepliesBytes : Interface → List ℕ → Offer → List ℕ → EthernetRepr → Carried → Type 0
TcpRepliesBytes ours ports offer bytes header carried =
    (asked_header : EthernetRepr) × (asked : Carried) × IsReadWhole bytes asked_header asked × IsTcpReply ours ports offer asked_header asked header carried
