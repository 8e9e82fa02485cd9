-- A host has at most one reply to a frame.
use Rattle.std.proofs.Common.{ℕ, ◌≡◌, inl, inr, List, subst}
use Rattle.app_host.specs.Skipped.{without_extensions}
use Rattle.app_host.specs.Host.{Answers, IsFrameReply, IsMessageReply, IsReply, RepliesBytes}
use Rattle.app_host.specs.declared.host.Host.{Host}
use Rattle.app_host.proofs.MessagesOnce.{error-once, icmp-echo-once, neighbour-once, problem-once}
use Rattle.app_host.proofs.RepliesOnce.{IsOne, arp-once, echo-once, tcp-once}
use Rattle.ip_wire.proofs.ReadsOnce.{frame-once}
use Rattle.ip_wire.specs.Frame.{Carried, IsReadWhole, all_checked}
use Rattle.ip_wire.specs.Types.{EthernetRepr, Ipv6}
use Rattle.wire_icmp.specs.declared.IcmpRepr.TheVariants.{DstUnreachable}
use Rattle.wire_icmp.specs.declared.Unreachable.TheVariants as unreachable
use Rattle.app_host.proofs.MessageEnds.{icmp-faultless, no-solicited}

frame-reply-once : (host : Host) (asked_header : EthernetRepr) (asked : Carried) → IsOne (IsFrameReply host asked_header asked)
frame-reply-once host asked_header asked h k c d (inl e) (inl g) = arp-once host.interface asked h k c d e g
frame-reply-once host asked_header asked h k c d (inr (inl e)) (inr (inl g)) = echo-once host.interface host.echo_port asked_header asked h k c d e g
frame-reply-once host asked_header asked h k c d (inr (inr e)) (inr (inr g)) = tcp-once host.interface host.open_ports.now host.offer asked_header asked h k c d e g
frame-reply-once host asked_header asked h k c d (inl e) (inr (inl g)) = absurd (let a = e.asks in let b = g.asks in cc)
frame-reply-once host asked_header asked h k c d (inl e) (inr (inr g)) = absurd (let a = e.asks in let b = g.asks in cc)
frame-reply-once host asked_header asked h k c d (inr (inl e)) (inl g) = absurd (let a = e.asks in let b = g.asks in cc)
frame-reply-once host asked_header asked h k c d (inr (inl e)) (inr (inr g)) = absurd (let a = e.asks in let b = g.asks in cc)
frame-reply-once host asked_header asked h k c d (inr (inr e)) (inl g) = absurd (let a = e.asks in let b = g.asks in cc)
frame-reply-once host asked_header asked h k c d (inr (inr e)) (inr (inl g)) = absurd (let a = e.asks in let b = g.asks in cc)

message-reply-once : (host : Host) (bytes : List ℕ) (asked_header : EthernetRepr) (asked : Carried) → IsOne (IsMessageReply host bytes asked_header asked)
message-reply-once host bytes asked_header asked h k c d (inl e) (inl g) = icmp-echo-once host.interface asked_header asked h k c d e g
message-reply-once host bytes asked_header asked h k c d (inr (inl e)) (inr (inl g)) = neighbour-once host.interface asked_header asked h k c d e g
message-reply-once host bytes asked_header asked h k c d (inr (inr (inl e))) (inr (inr (inl g))) =
    error-once host.interface bytes (DstUnreachable unreachable.Port) h k c d e.tells g.tells
message-reply-once host bytes asked_header asked h k c d (inl e) (inr (inl g)) = absurd (no-solicited host.interface asked_header asked_header h k asked c d e g)
message-reply-once host bytes asked_header asked h k c d (inl e) (inr (inr (inl g))) = absurd (let a = e.asks in let b = g.asks in cc)
message-reply-once host bytes asked_header asked h k c d (inr (inl e)) (inl g) = absurd (no-solicited host.interface asked_header asked_header k h asked d c g e)
message-reply-once host bytes asked_header asked h k c d (inr (inl e)) (inr (inr (inl g))) = absurd (let a = e.asks in let b = g.asks in cc)
message-reply-once host bytes asked_header asked h k c d (inr (inr (inl e))) (inl g) = absurd (let a = e.asks in let b = g.asks in cc)
message-reply-once host bytes asked_header asked h k c d (inr (inr (inl e))) (inr (inl g)) = absurd (let a = e.asks in let b = g.asks in cc)
message-reply-once host bytes asked_header asked h k c d (inr (inr (inr e))) (inr (inr (inr g))) = problem-once host.interface bytes asked h k c d e g
message-reply-once host bytes asked_header asked h k c d (inl e) (inr (inr (inr g))) = absurd (icmp-faultless host.interface bytes k asked d e.ip e.request e.asks e.protocol g)
message-reply-once host bytes asked_header asked h k c d (inr (inr (inr e))) (inl g) = absurd (icmp-faultless host.interface bytes h asked c g.ip g.request g.asks g.protocol e)
message-reply-once host bytes asked_header asked h k c d (inr (inl e)) (inr (inr (inr g))) = absurd (icmp-faultless host.interface bytes k asked d (Ipv6 e.ip) e.request e.asks e.for_us.protocol g)
message-reply-once host bytes asked_header asked h k c d (inr (inr (inr e))) (inr (inl g)) = absurd (icmp-faultless host.interface bytes h asked c (Ipv6 g.ip) g.request g.asks g.for_us.protocol e)
message-reply-once host bytes asked_header asked h k c d (inr (inr (inl e))) (inr (inr (inr g))) = absurd (let a = e.asks in let b = g.asks in cc)
message-reply-once host bytes asked_header asked h k c d (inr (inr (inr e))) (inr (inr (inl g))) = absurd (let a = e.asks in let b = g.asks in cc)

-- no frame gets a reply of both kinds
pub apart : (host : Host) (bytes : List ℕ) (asked_header : EthernetRepr) (asked : Carried) (h k : EthernetRepr) (c d : Carried)
    → IsFrameReply host asked_header asked h c → ¬ IsMessageReply host bytes asked_header asked k d
apart host bytes asked_header asked h k c d (inl e) (inl g) = absurd (let a = e.asks in let b = g.asks in cc)
apart host bytes asked_header asked h k c d (inl e) (inr (inl g)) = absurd (let a = e.asks in let b = g.asks in cc)
apart host bytes asked_header asked h k c d (inl e) (inr (inr (inl g))) = absurd (let a = e.asks in let b = g.asks in cc)
apart host bytes asked_header asked h k c d (inr (inl e)) (inl g) = absurd (let a = e.asks in let b = g.asks in cc)
apart host bytes asked_header asked h k c d (inr (inl e)) (inr (inl g)) = absurd (let a = e.asks in let b = g.asks in cc)
apart host bytes asked_header asked h k c d (inr (inl e)) (inr (inr (inl g))) =
    let a = e.asks in
    let b = g.asks in
    let same : e.udp ≡ g.udp = cc in
    g.closed (inl (subst (λ u. u.dst_port ≡ host.echo_port) same e.to_port))
apart host bytes asked_header asked h k c d (inr (inr e)) (inl g) = absurd (let a = e.asks in let b = g.asks in cc)
apart host bytes asked_header asked h k c d (inr (inr e)) (inr (inl g)) = absurd (let a = e.asks in let b = g.asks in cc)
apart host bytes asked_header asked h k c d (inr (inr e)) (inr (inr (inl g))) = absurd (let a = e.asks in let b = g.asks in cc)
apart host bytes asked_header asked h k c d (inl e) (inr (inr (inr g))) = absurd (let asks = e.asks in let b = g.asks in cc)
apart host bytes asked_header asked h k c d (inr (inl e)) (inr (inr (inr g))) = absurd (let a = e.asks in let b = g.asks in cc)
apart host bytes asked_header asked h k c d (inr (inr e)) (inr (inr (inr g))) = absurd (let a = e.asks in let b = g.asks in cc)

pub reply-once : (host : Host) (bytes : List ℕ) (asked_header : EthernetRepr) (asked : Carried) → IsOne (IsReply host bytes asked_header asked)
reply-once host bytes asked_header asked h k c d (inl e) (inl g) = frame-reply-once host asked_header asked h k c d e g
reply-once host bytes asked_header asked h k c d (inr e) (inr g) = message-reply-once host bytes asked_header asked h k c d e g
reply-once host bytes asked_header asked h k c d (inl e) (inr g) = absurd (apart host bytes asked_header asked h k c d e g)
reply-once host bytes asked_header asked h k c d (inr e) (inl g) = absurd (apart host bytes asked_header asked k h d c g e)

-- ---- bytes

pub bytes-once : (host : Host) (bytes : List ℕ) → IsOne (RepliesBytes host bytes)
bytes-once host bytes h k c d (asked_header, asked, reads, r) (other_header, other, also, s) =
    let same = frame-once all_checked (without_extensions bytes) asked_header other_header asked other reads also in
    reply-once host bytes other_header other h k c d (subst (λ v. IsReply host bytes v other h c) same.0 (subst (λ a. IsReply host bytes asked_header a h c) same.1 r)) s

-- two answers to the same bytes parse as the same values
answers-once : (host : Host) (bytes answer other : List ℕ) → Answers host bytes answer → Answers host bytes other
    → (header : EthernetRepr) × (carried : Carried) × IsReadWhole answer header carried × IsReadWhole other header carried
answers-once host bytes answer other a b =
    let same = bytes-once host bytes a.header b.header a.carried b.carried a.replies b.replies in
    (b.header, b.carried, subst (λ h. IsReadWhole answer h b.carried) same.0 (subst (IsReadWhole answer a.header) same.1 a.reads), b.reads)
