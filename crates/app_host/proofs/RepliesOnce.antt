-- A frame has at most one reply, and what is returned and written of a reply is one result.
use Rattle.std.proofs.Common.{ℕ, ◌≡◌, ◌∙◌, ◌++◌, inl, inr, List, Option, Some, None, drop, length, arith, refl, sym, ap, subst}
use Rattle.app_host.proofs.Echoes.{echo_values}
use Rattle.app_host.proofs.TcpReplies.{reply_values}
use Rattle.app_host.specs.Arp.{IsArpAnswer}
use Rattle.app_host.specs.TcpReply.{IsTcpReply, Replies}
use Rattle.app_host.specs.UdpEcho.{IsEcho}
use Rattle.app_host.specs.declared.interface.Interface.{Interface}
use Rattle.app_host.specs.declared.tcp_reply.Offer.{Offer}
use Rattle.ip_wire.proofs.Parsed.{ToFrame}
use Rattle.ip_wire.specs.Frame.{Carried, all_checked, datagram, message, packet, segment, type_of}
use Rattle.ip_wire.specs.FrameValue.{carried_of, frame_bytes}
use Rattle.ip_wire.specs.Reply.{Gives, IsSent, IsWritten, Sends, reply_bytes, reply_len}
use Rattle.ip_wire.specs.TcpRepr.{TcpHeader}
use Rattle.ip_wire.specs.Types.{EthernetRepr}
use Rattle.ip_wire.specs.declared.EthernetProtocol.TheVariants as ethertype
use Rattle.ip_wire.specs.declared.Frame.{Frame}

-- ---- the values of a reply

-- at most one header and one content
abbrev pub IsOne : (EthernetRepr → Carried → Type 0) → Type 0
IsOne P = (h k : EthernetRepr) (c d : Carried) → P h c → P k d → (h ≡ k) × (c ≡ d)

pub arp-once : (ours : Interface) (asked : Carried) → IsOne (IsArpAnswer ours asked)
arp-once ours asked h k c d e g =
    let asks = e.asks in
    let other_asks = g.asks in
    let same : e.request ≡ g.request = cc in
    let first = e.replies.asks in
    let second = g.replies.asks in
    let told = e.replies.tells in
    let other_told = g.replies.tells in
    let asker : e.asker ≡ g.asker = cc in
    let reply : e.reply ≡ g.reply = cc in (
      e.link ∙ ap (λ a. record { src_addr = ours.hardware_addr; dst_addr = a; ethertype = ethertype.Arp }) asker ∙ sym g.link,
      e.carries ∙ ap message reply ∙ sym g.carries,
    )

pub echo-once : (ours : Interface) (port : ℕ) (asked_header : EthernetRepr) (asked : Carried) → IsOne (IsEcho ours port asked_header asked)
echo-once ours port asked_header asked h k c d e g =
    let first = e.asks in
    let second = g.asks in
    let asks : packet e.ip (datagram e.udp e.payload) ≡ packet g.ip (datagram g.udp g.payload) = cc in
    let ip : e.ip ≡ g.ip = cc in
    let udp : e.udp ≡ g.udp = cc in
    let payload : e.payload ≡ g.payload = cc in (
      e.link ∙ ap (λ v. record { src_addr = ours.hardware_addr; dst_addr = asked_header.src_addr; ethertype = type_of v }) ip ∙ sym g.link,
      e.echoes ∙ (λ i. echo_values (ip i) (udp i) (payload i)) ∙ sym g.echoes,
    )

-- the segment that replies to a segment
reply-once : (ports : List ℕ) (offer : Offer) (asked : TcpHeader) (len : ℕ) (a b : TcpHeader) → Replies ports offer asked len a → Replies ports offer asked len b → a ≡ b
reply-once ports offer asked len a b (inl (has, is)) (inl (also, same)) = cc
reply-once ports offer asked len a b (inl (has, is)) (inr (lacks, same)) = absurd (lacks has)
reply-once ports offer asked len a b (inr (lacks, is)) (inl (has, same)) = absurd (lacks has)
reply-once ports offer asked len a b (inr (lacks, is)) (inr (also, same)) = cc

pub tcp-once : (ours : Interface) (ports : List ℕ) (offer : Offer) (asked_header : EthernetRepr) (asked : Carried) → IsOne (IsTcpReply ours ports offer asked_header asked)
tcp-once ours ports offer asked_header asked h k c d e g =
    let first = e.asks in
    let second = g.asks in
    let asks : packet e.ip (segment e.tcp e.payload) ≡ packet g.ip (segment g.tcp g.payload) = cc in
    let ip : e.ip ≡ g.ip = cc in
    let tcp : e.tcp ≡ g.tcp = cc in
    let payload : e.payload ≡ g.payload = cc in
    let replies = subst (λ l. Replies ports offer g.tcp (length l) e.reply) payload (subst (λ x. Replies ports offer x (length e.payload) e.reply) tcp e.replies) in
    let reply = reply-once ports offer g.tcp (length g.payload) e.reply g.reply replies g.replies in (
      e.link ∙ ap (λ v. record { src_addr = ours.hardware_addr; dst_addr = asked_header.src_addr; ethertype = type_of v }) ip ∙ sym g.link,
      e.carries ∙ (λ i. reply_values (ip i) (reply i)) ∙ sym g.carries,
    )

-- two replies to one frame carry the same
pub one_answer : (R : EthernetRepr → Carried → EthernetRepr → Carried → Type 0) → ((asked_header : EthernetRepr) (asked : Carried) → IsOne (R asked_header asked))
    → (request : Frame) (h k : EthernetRepr) (c d : Carried) → ToFrame R request h c → ToFrame R request k d → c ≡ d
one_answer R once request h k c d (asked, is, r) (other, also, s) =
    let same : asked ≡ other = cc in (once request.header other h k c d (subst (λ a. R request.header a h c) same r) s).1

-- ---- what is returned and written

-- two frames that are returned have the same values, and none is returned only if there is no reply
gives-once : (P : EthernetRepr → Carried → Type 0) (f g : Frame) → IsOne P → Gives P (Some f) → Gives P (Some g) → (f.header ≡ g.header) × (carried_of f.carried ≡ carried_of g.carried)
gives-once P f g one (_, (h, c, values, p)) (_, (k, d, others, q)) =
    let same = one h k c d p q in (values.0 ∙ same.0 ∙ sym others.0, values.1 ∙ ap Some same.1 ∙ sym others.1)

gives-none : (P : EthernetRepr → Carried → Type 0) (f : Frame) → Gives P None → ¬ Gives P (Some f)
gives-none P f none (_, (h, c, values, p)) = none h c p

sent-once : (f : Frame) (old new other : List ℕ) (a b : Option ℕ) → IsSent f old new a → IsSent f old other b → (a ≡ b) × (new ≡ other)
sent-once f old new other None None (short, stays) (also, same) = (refl, stays ∙ sym same)
sent-once f old new other None (Some n) (short, stays) (len, fits, rest, read, is) = absurd (omega (arith, short, len, fits))
sent-once f old new other (Some n) None (len, fits, rest, read, is) (short, stays) = absurd (omega (arith, short, len, fits))
sent-once f old new other (Some n) (Some m) (len, fits, rest, read, is) (len', fits', rest', read', is') =
    let size : n ≡ m = len ∙ sym len' in (ap Some size, is ∙ ap (λ k. frame_bytes all_checked f ++ drop k old) size ∙ sym is')

pub written-once : (dscp : Carried → ℕ) (P : EthernetRepr → Carried → Type 0) (old new other : List ℕ) (n m : ℕ) → IsOne P → IsWritten dscp P old new n
    → IsWritten dscp P old other m → (n ≡ m) × (new ≡ other)
written-once dscp P old new other n m one v w =
    let same = one v.header w.header v.carried w.carried v.replies w.replies in
    let size : n ≡ m = v.size ∙ ap reply_len same.1 ∙ sym w.size in
    (size, v.bytes ∙ (λ i. reply_bytes (same.0 i) (same.1 i) (dscp (same.1 i)) ++ drop (size i) old) ∙ sym w.bytes)

sends-once : (dscp : Carried → ℕ) (P : EthernetRepr → Carried → Type 0) (old new other : List ℕ) (a b : Option ℕ) → IsOne P → Sends dscp P old new a → Sends dscp P old other b
    → (a ≡ b) × (new ≡ other)
sends-once dscp P old new other None None one (stays, short) (same, also) = (refl, stays ∙ sym same)
sends-once dscp P old new other None (Some n) one (stays, short) w = absurd (let few = short w.header w.carried w.replies in let size = w.size in let fits = w.fits in omega (arith, few, size, fits))
sends-once dscp P old new other (Some n) None one w (stays, short) = absurd (let few = short w.header w.carried w.replies in let size = w.size in let fits = w.fits in omega (arith, few, size, fits))
sends-once dscp P old new other (Some n) (Some m) one v w = let same = written-once dscp P old new other n m one v w in (ap Some same.0, same.1)
