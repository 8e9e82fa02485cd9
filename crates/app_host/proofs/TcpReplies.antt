-- The reply to a TCP segment in a frame.
use Rattle.std.proofs.Common.{ℕ, ◌≡◌, ◌≢◌, ◌∙◌, ◌≤◌, ◌<◌, ◌+◌, ◌-◌, ◌^◌, inl, inr, [], List, Bool, true, false, Option, Some, None, length, min, refl, sym, ap, subst, arith}
use Rattle.std.specs.Prelude.{is_none, is_some, ◌||◌, if◌then◌else◌}
use Rattle.std.specs.Option.{option_map}
use Rattle.ip_wire.specs.Frame as frame
use Rattle.ip_wire.specs.Frame.{type_of}
use Rattle.ip_wire.specs.FrameValue.{Agrees, Fits, carried_of, frame_around, transport_len}
use Rattle.ip_wire.specs.Ip.{header_before}
use Rattle.ip_wire.specs.TcpRepr.{TcpHeader, closed, header_len_of, header_of, len_if, no_ranges, normal}
use Rattle.ip_wire.specs.declared.Carried.TheVariants as carried
use Rattle.ip_wire.specs.Types.{EthernetRepr, IpRepr, Ipv4, Ipv6}
use Rattle.ip_wire.specs.declared.Frame.{Frame}
use Rattle.ip_wire.specs.declared.IpProtocol.TheVariants as protocol
use Rattle.ip_wire.specs.declared.TcpControl.{TcpControl}
use Rattle.ip_wire.specs.declared.TcpControl.TheVariants as control
use Rattle.ip_wire.specs.declared.TcpRepr.{TcpRepr}
use Rattle.ip_wire.specs.declared.TcpSeqNumber.{TcpSeqNumber}
use Rattle.ip_wire.specs.declared.Transport.TheVariants as transport
use Rattle.ip_wire.proofs.Carries.{carries_tcp}
use Rattle.app_host.proofs.Echoes.{same_type}
use Rattle.app_host.specs.Interface.{IsForUs, header_back}
use Rattle.ip_wire.specs.Reply.{Gives, IsSendable}
use Rattle.app_host.specs.TcpReply.{Replies, TcpRepliesFrame, back, closed_by, listen_by, reset_by, reset_for, syn_ack}
use Rattle.app_host.specs.declared.interface.Interface.{Interface}
use Rattle.app_host.specs.declared.tcp_reply.Offer.{Offer}

-- ---- properties of each reply

-- a reply that can be emitted: its header is short, and in normal form
pub record IsPlain (asked reply : TcpHeader) : Type 0 where
  pub src_port : reply.src_port ≡ asked.dst_port
  pub dst_port : reply.dst_port ≡ asked.src_port
  pub short : header_len_of reply ≤ 40
  pub normal : normal reply ≡ reply

either : (b : Bool) → (if b then no_ranges else closed no_ranges) ≡ no_ranges
either true = refl
either false = refl

at_most : (b : Bool) (n : ℕ) → len_if b n ≤ n
at_most true n = omega arith
at_most false n = omega arith

plain_back : (asked : TcpHeader) (flag : TcpControl) (seq : TcpSeqNumber) (ack : Option TcpSeqNumber) → IsPlain asked (back asked flag seq ack)
plain_back asked flag seq ack =
    let ranges = either (false || is_none ack) in
    record { src_port = refl; dst_port = refl; short = omega arith; normal = λ i. record (back asked flag seq ack) { sack_ranges = ranges i } }

plain_reset : (ack : Option TcpSeqNumber) (asked : TcpHeader) (len : ℕ) → IsPlain asked (reset_by ack asked len)
plain_reset (Some ack) asked len = plain_back asked control.Rst ack None
plain_reset None asked len = plain_back asked control.Rst _ _

capped : (n : ℕ) (scale : Option ℕ) → option_map (min 14) (option_map (λ _. min n 14) scale) ≡ option_map (λ _. min n 14) scale
capped n None = refl
capped n (Some scale) = let e : min 14 (min n 14) ≡ min n 14 = omega arith in ap Some e

plain_syn_ack : (offer : Offer) (syn : TcpHeader) → IsPlain syn (syn_ack offer syn)
plain_syn_ack offer syn =
    let reply = syn_ack offer syn in
    let ranges = either (syn.sack_permitted || false) in
    let scale = capped offer.window_scale syn.window_scale in
    let len : header_len_of reply ≤ 40 = omega (arith, at_most (is_some reply.max_seg_size) 4, at_most (is_some reply.window_scale) 3, at_most reply.sack_permitted 2, at_most (is_some reply.timestamp) 10) in
    record { src_port = refl; dst_port = refl; short = len; normal = λ i. record reply { window_scale = scale i; sack_ranges = ranges i } }

plain_closed : (flag : TcpControl) (asked reset reply : TcpHeader) → IsPlain asked reset → closed_by flag reset ≡ Some reply → IsPlain asked reply
plain_closed control.Rst asked reset reply p e = absurd (cc)
plain_closed _ asked reset reply p e = let same : reset ≡ reply = cc in subst (IsPlain asked) same p

plain_listen : (flag : TcpControl) (ack : Option TcpSeqNumber) (asked reset accepted reply : TcpHeader) → IsPlain asked reset → IsPlain asked accepted
    → listen_by flag ack reset accepted ≡ Some reply → IsPlain asked reply
plain_listen control.Rst ack asked reset accepted reply p q e = absurd (cc)
plain_listen control.Syn None asked reset accepted reply p q e = let same : accepted ≡ reply = cc in subst (IsPlain asked) same q
plain_listen flag (Some ack) asked reset accepted reply p q e = let same : reset ≡ reply = cc in subst (IsPlain asked) same p
plain_listen flag None asked reset accepted reply p q e = absurd (cc)

pub plain : (ports : List ℕ) (offer : Offer) (asked : TcpHeader) (len : ℕ) (reply : TcpHeader) → Replies ports offer asked len reply → IsPlain asked reply
plain ports offer asked len reply (inl (has, is)) =
    plain_listen asked.control asked.ack_number asked (reset_for asked 0) (syn_ack offer asked) reply (plain_reset asked.ack_number asked _) (plain_syn_ack offer asked) is
plain ports offer asked len reply (inr (lacks, is)) = plain_closed asked.control asked (reset_for asked len) reply (plain_reset asked.ack_number asked _) is

-- ---- frames

abbrev pub frame_of : Interface → EthernetRepr → IpRepr → TcpRepr → Frame
frame_of ours link v t = frame_around ours.hardware_addr link.src_addr (header_back v) (transport.Tcp t)

-- properties of the frame of a reply
agreed : (ours : Interface) (link : EthernetRepr) (v : IpRepr) (t : TcpRepr) → t.src_port ≢ 0 → t.dst_port ≢ 0 → header_len_of (header_of t) ≤ 40 → t.payload.now ≡ []
    → Agrees (frame_of ours link v t) × Fits (frame_of ours link v t)
agreed ours link (Ipv4 v) t src dst short none =
    let empty = ap length none in ((refl, (refl, src, dst)), (omega (arith, short, empty), omega (arith, short)))
agreed ours link (Ipv6 v) t src dst short none =
    let empty = ap length none in ((refl, (refl, src, dst)), (omega (arith, short, empty), omega (arith, short)))

sendable : (ours : Interface) (link : EthernetRepr) (v : IpRepr) (t : TcpRepr) → Agrees (frame_of ours link v t) → Fits (frame_of ours link v t) → normal (header_of t) ≡ header_of t
    → IsSendable (frame_of ours link v t)
sendable ours link (Ipv4 v) t agrees fits same =
    let ip = header_before (header_back (Ipv4 v)) protocol.Tcp (transport_len (transport.Tcp t)) in
    record { agrees = agrees; fits = fits; header = refl; carried = ap (λ h. Some (frame.packet ip (frame.segment h t.payload.now))) same }
sendable ours link (Ipv6 v) t agrees fits same =
    let ip = header_before (header_back (Ipv6 v)) protocol.Tcp (transport_len (transport.Tcp t)) in
    record { agrees = agrees; fits = fits; header = refl; carried = ap (λ h. Some (frame.packet ip (frame.segment h t.payload.now))) same }

ports_of : (ours : Interface) (link : EthernetRepr) (v : IpRepr) (t : TcpRepr) → Agrees (frame_of ours link v t) → (t.src_port ≢ 0) × (t.dst_port ≢ 0)
ports_of ours link (Ipv4 v) t agrees = (agrees.1.1, agrees.1.2)
ports_of ours link (Ipv6 v) t agrees = (agrees.1.1, agrees.1.2)

-- the contents of the reply
abbrev pub reply_values : IpRepr → TcpHeader → frame.Carried
reply_values v reply = frame.packet (header_before (header_back v) protocol.Tcp (header_len_of reply)) (frame.segment reply [])

-- a frame with the reply to a segment is the reply
pub replied : (ours : Interface) (ports : List ℕ) (offer : Offer) (request f : Frame) (v : IpRepr) (t r : TcpRepr)
    → request.carried ≡ carried.Packet v (transport.Tcp t) → IsForUs ours request.header v
    → Replies ports offer (header_of t) (length t.payload.now) (header_of r) → r.payload.now ≡ []
    → f ≡ frame_of ours request.header v r → Agrees (frame_of ours request.header v r) × Fits (frame_of ours request.header v r) → Gives (TcpRepliesFrame ours ports offer request) (Some f)
replied ours ports offer request f v t r carries for_us replies none is sound =
    let link = request.header in
    let reply = header_of r in
    let known = plain ports offer (header_of t) (length t.payload.now) reply replies in
    let agrees = sound.0 in
    let fits = sound.1 in
    let ends = ports_of ours link v r agrees in
    let header : EthernetRepr = record { src_addr = ours.hardware_addr; dst_addr = link.src_addr; ethertype = type_of v } in
    let has_header : f.header ≡ header = ap (λ (g : Frame). g.header) is ∙ ap (λ t. record header { ethertype = t }) (same_type v) in
    let len : header_len_of reply + length r.payload.now ≡ header_len_of reply = omega (arith, ap length none) in
    let has_values : carried_of f.carried ≡ Some (reply_values v reply) =
    ap (λ (g : Frame). carried_of g.carried) is ∙ ap (λ n. Some (frame.packet (header_before (header_back v) protocol.Tcp n) (frame.segment reply r.payload.now))) len
    ∙ ap (λ l. Some (frame.packet (header_before (header_back v) protocol.Tcp (header_len_of reply)) (frame.segment reply l))) none
    in (
      subst IsSendable (sym is) (sendable ours link v r agrees fits known.normal),
      (
        header,
        reply_values v reply,
        (has_header, has_values),
        (
          frame.packet v (frame.segment (header_of t) t.payload.now),
          ap carried_of carries,
          record {
            ip = v;
            tcp = header_of t;
            payload = t.payload.now;
            reply = reply;
            asks = refl;
            for_us = for_us;
            from_port = λ z. ends.1 (known.dst_port ∙ z);
            to_port = λ z. ends.0 (known.src_port ∙ z);
            replies = replies;
            link = refl;
            carries = refl;
          },
        ),
      ),
    )

-- a frame whose segment gets no reply gets none
pub no_reply : (ours : Interface) (ports : List ℕ) (offer : Offer) (request : Frame)
    → ((v : IpRepr) (t : TcpRepr) (reply : TcpHeader) → request.carried ≡ carried.Packet v (transport.Tcp t) → IsForUs ours request.header v
    → t.src_port ≢ 0 → t.dst_port ≢ 0 → ¬ Replies ports offer (header_of t) (length t.payload.now) reply)
    → Gives (TcpRepliesFrame ours ports offer request) None
no_reply ours ports offer request none header carried (asked, same, e) =
    let found = carries_tcp request.carried e.ip e.tcp e.payload (same ∙ ap Some e.asks) in
    let t = found.0 in
    let replies = subst (λ (x : TcpHeader). Replies ports offer x (length e.payload) e.reply) (sym found.2) e.replies in
    none e.ip t e.reply found.1 e.for_us (λ z. e.from_port (ap (λ (x : TcpHeader). x.src_port) (sym found.2) ∙ z)) (λ z. e.to_port (ap (λ (x : TcpHeader). x.dst_port) (sym found.2) ∙ z))
    (subst (λ (l : List ℕ). Replies ports offer (header_of t) (length l) e.reply) (sym found.3) replies)

-- a reply that cannot be emitted is no reply
pub sent : (ours : Interface) (ports : List ℕ) (offer : Offer) (request : Frame) (v : IpRepr) (t r : TcpRepr) → t.src_port ≢ 0 → t.dst_port ≢ 0
    → Replies ports offer (header_of t) (length t.payload.now) (header_of r) → r.payload.now ≡ []
    → Agrees (frame_of ours request.header v r) × Fits (frame_of ours request.header v r)
sent ours ports offer request v t r src dst replies none =
    let known = plain ports offer (header_of t) (length t.payload.now) (header_of r) replies in
    agreed ours request.header v r (λ z. dst (sym known.src_port ∙ z)) (λ z. src (sym known.dst_port ∙ z)) known.short none

-- a segment in a packet is short
pub short : (link : EthernetRepr) (v : IpRepr) (t : TcpRepr) → Fits (record { header = link; carried = carried.Packet v (transport.Tcp t) }) → length t.payload.now < 2 ^ 31 - 1
short link (Ipv4 v) t fits = omega (arith, fits.0)
short link (Ipv6 v) t fits = omega (arith, fits.0)
