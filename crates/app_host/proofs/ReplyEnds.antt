-- Chains of replies end.
use Rattle.std.proofs.Common.{ℕ, ◌≡◌, ◌∙◌, ◌⊎◌, inl, inr, [], List, Option, Some, None, arith, refl, sym, ap, subst}
use Rattle.app_host.specs.Host.{Answers, IsErrorMessage, IsFinal, IsFrameReply, IsMessageReply, IsPortUnreachable, IsReply, IsReset, IsSegment, ServesPortOf}
use Rattle.app_host.specs.declared.host.Host.{Host}
use Rattle.app_host.proofs.MessageEnds.{IsErrorCarried, IsSilent, advert-silent, echo-silent, error-silent, icmp-faultless, problem-error, silent-echo, silent-neighbour, unreachable-error}
use Rattle.app_host.proofs.Echoes.{echo_values}
use Rattle.app_host.proofs.Skips.{IsPlain, without-plain}
use Rattle.app_host.proofs.TcpReplies.{reply_values}
use Rattle.app_host.specs.Skipped.{without_extensions}
use Rattle.app_host.specs.TcpReply.{IsTcpReply, Replies, back, closed_by, listen_by, reset_by, reset_for, syn_ack}
use Rattle.app_host.specs.declared.tcp_reply.Offer.{Offer}
use Rattle.ip_wire.proofs.ReadsOnce.{frame-once}
use Rattle.ip_wire.specs.Frame.{Carried, IsReadWhole, all_checked, other, packet, segment}
use Rattle.ip_wire.specs.TcpRepr.{TcpHeader}
use Rattle.ip_wire.specs.Ip.{next_header_of, version_of}
use Rattle.ip_wire.specs.Protocol.{number_of}
use Rattle.ip_wire.specs.Types.{EthernetRepr, IpRepr, Ipv4, Ipv6, UdpRepr}
use Rattle.ip_wire.specs.declared.TcpControl.{TcpControl}
use Rattle.ip_wire.specs.declared.TcpControl.TheVariants as control
use Rattle.ip_wire.specs.declared.TcpSeqNumber.{TcpSeqNumber}
use Rattle.wire_extensions.specs.Extension.{is_extension}
use Rattle.wire_icmp.specs.Icmp.{protocol_of}
use Rattle.wire_icmp.specs.declared.Unreachable.TheVariants as unreachable

-- ---- segments

rst : (ack : Option TcpSeqNumber) (asked : TcpHeader) (len : ℕ) → (reset_by ack asked len).control ≡ control.Rst
rst (Some ack) asked len = refl
rst None asked len = refl

-- a RST has no reply
closed_ends : (flag : TcpControl) (reset reply : TcpHeader) → flag ≡ control.Rst → ¬ (closed_by flag reset ≡ Some reply)
closed_ends control.Rst reset reply is e = absurd (cc)
closed_ends _ reset reply is e = absurd (cc)

listen_ends : (flag : TcpControl) (ack : Option TcpSeqNumber) (reset accepted reply : TcpHeader) → flag ≡ control.Rst → ¬ (listen_by flag ack reset accepted ≡ Some reply)
listen_ends control.Rst ack reset accepted reply is e = absurd (cc)
listen_ends _ ack reset accepted reply is e = absurd (cc)

reset_ends : (ports : List ℕ) (offer : Offer) (asked : TcpHeader) (len : ℕ) (reply : TcpHeader) → asked.control ≡ control.Rst → ¬ Replies ports offer asked len reply
reset_ends ports offer asked len reply is (inl (has, e)) = listen_ends asked.control asked.ack_number (reset_for asked 0) (syn_ack offer asked) reply is e
reset_ends ports offer asked len reply is (inr (lacks, e)) = closed_ends asked.control (reset_for asked len) reply is e

-- the reply of a closed port is a RST
closed_resets : (flag : TcpControl) (reset reply : TcpHeader) → reset.control ≡ control.Rst → closed_by flag reset ≡ Some reply → reply.control ≡ control.Rst
closed_resets control.Rst reset reply is e = absurd (cc)
closed_resets _ reset reply is e = let same : reset ≡ reply = cc in ap (λ (t : TcpHeader). t.control) (sym same) ∙ is

-- a segment with RST or an acknowledgement
abbrev IsSettled : TcpHeader → Type 0
IsSettled t = (t.control ≡ control.Rst) ⊎ ((ack : TcpSeqNumber) × (t.ack_number ≡ Some ack))

listen_settles : (flag : TcpControl) (ack : Option TcpSeqNumber) (reset accepted reply : TcpHeader) → IsSettled reset → IsSettled accepted
    → listen_by flag ack reset accepted ≡ Some reply → IsSettled reply
listen_settles control.Rst ack reset accepted reply p q e = absurd (cc)
listen_settles control.Syn None reset accepted reply p q e = let same : accepted ≡ reply = cc in subst IsSettled same q
listen_settles flag (Some ack) reset accepted reply p q e = let same : reset ≡ reply = cc in subst IsSettled same p
listen_settles flag None reset accepted reply p q e = absurd (cc)

-- each reply is such a segment
settles : (ports : List ℕ) (offer : Offer) (asked : TcpHeader) (len : ℕ) (reply : TcpHeader) → Replies ports offer asked len reply → IsSettled reply
settles ports offer asked len reply (inl (has, e)) =
    listen_settles asked.control asked.ack_number (reset_for asked 0) (syn_ack offer asked) reply (inl (rst asked.ack_number asked _)) (inr (_, refl)) e
settles ports offer asked len reply (inr (lacks, e)) = inl (closed_resets asked.control (reset_for asked len) reply (rst asked.ack_number asked _) e)

listen_resets : (flag : TcpControl) (ack : Option TcpSeqNumber) (seq : TcpSeqNumber) (reset accepted reply : TcpHeader) → ack ≡ Some seq → reset.control ≡ control.Rst
    → listen_by flag ack reset accepted ≡ Some reply → reply.control ≡ control.Rst
listen_resets control.Rst ack seq reset accepted reply acked is e = absurd (cc)
listen_resets flag (Some ack) seq reset accepted reply acked is e = let same : reset ≡ reply = cc in ap (λ (t : TcpHeader). t.control) (sym same) ∙ is
listen_resets flag None seq reset accepted reply acked is e = absurd (cc)

-- the reply to such a segment is a RST
resets : (ports : List ℕ) (offer : Offer) (asked : TcpHeader) (len : ℕ) (reply : TcpHeader) → IsSettled asked → Replies ports offer asked len reply → reply.control ≡ control.Rst
resets ports offer asked len reply (inl is) replies = absurd (reset_ends ports offer asked len reply is replies)
resets ports offer asked len reply (inr (ack, is)) (inl (has, e)) =
    listen_resets asked.control asked.ack_number ack (reset_for asked 0) (syn_ack offer asked) reply is (rst asked.ack_number asked _) e
resets ports offer asked len reply (inr (ack, is)) (inr (lacks, e)) = closed_resets asked.control (reset_for asked len) reply (rst asked.ack_number asked _) e

-- ---- frames

-- a frame with a RST
abbrev CarriesReset : Carried → Type 0
CarriesReset c = (ip : IpRepr) × (tcp : TcpHeader) × (payload : List ℕ) × (c ≡ packet ip (segment tcp payload)) × (tcp.control ≡ control.Rst)

-- a frame with an ICMP error, or with a RST
abbrev IsFinalCarried : Carried → Type 0
IsFinalCarried c = CarriesReset c ⊎ IsErrorCarried c

-- what is neither an echo request nor a solicitation, in a packet of another protocol than UDP and TCP, has no reply
silent_unanswered : (host : Host) (bytes : List ℕ) (asked_header header : EthernetRepr) (asked c : Carried) → IsSilent asked → ¬ IsReply host bytes asked_header asked header c
silent_unanswered host bytes asked_header header asked c (v, m, is, not, types, protocol) (inl (inl e)) = absurd (let asks = e.asks in cc)
silent_unanswered host bytes asked_header header asked c (v, m, is, not, types, protocol) (inl (inr (inl e))) = absurd (let asks = e.asks in cc)
silent_unanswered host bytes asked_header header asked c (v, m, is, not, types, protocol) (inl (inr (inr e))) = absurd (let asks = e.asks in cc)
silent_unanswered host bytes asked_header header asked c silent (inr (inl e)) = silent-echo host.interface asked_header header asked c silent e
silent_unanswered host bytes asked_header header asked c silent (inr (inr (inl e))) = silent-neighbour host.interface asked_header header asked c silent e
silent_unanswered host bytes asked_header header asked c (v, m, is, not, types, protocol) (inr (inr (inr (inl e)))) = absurd (let asks = e.asks in cc)
silent_unanswered host bytes asked_header header asked c (v, m, is, not, types, protocol) (inr (inr (inr (inr e)))) =
    icmp-faultless host.interface bytes header asked c v m is protocol e

reset_silent : (host : Host) (bytes : List ℕ) (asked_header header : EthernetRepr) (asked c : Carried) → CarriesReset asked → ¬ IsReply host bytes asked_header asked header c
reset_silent host bytes asked_header header asked c (ip, tcp, payload, carries, is) (inl (inl e)) = absurd (let asks = e.asks in cc)
reset_silent host bytes asked_header header asked c (ip, tcp, payload, carries, is) (inl (inr (inl e))) = absurd (let asks = e.asks in cc)
reset_silent host bytes asked_header header asked c (ip, tcp, payload, carries, is) (inl (inr (inr e))) =
    let asks = e.asks in
    let same : tcp ≡ e.tcp = cc in
    reset_ends host.open_ports.now host.offer e.tcp _ e.reply (ap (λ (t : TcpHeader). t.control) (sym same) ∙ is) e.replies
reset_silent host bytes asked_header header asked c (ip, tcp, payload, carries, is) (inr (inl e)) = absurd (let asks = e.asks in cc)
reset_silent host bytes asked_header header asked c (ip, tcp, payload, carries, is) (inr (inr (inl e))) = absurd (let asks = e.asks in cc)
reset_silent host bytes asked_header header asked c (ip, tcp, payload, carries, is) (inr (inr (inr (inl e)))) = absurd (let asks = e.asks in cc)
reset_silent host bytes asked_header header asked c (ip, tcp, payload, carries, is) (inr (inr (inr (inr e)))) = absurd (let asks = e.asks in cc)

unanswered : (host : Host) (bytes : List ℕ) (asked_header header : EthernetRepr) (asked c : Carried) → IsFinalCarried asked → ¬ IsReply host bytes asked_header asked header c
unanswered host bytes asked_header header asked c (inl reset) r = reset_silent host bytes asked_header header asked c reset r
unanswered host bytes asked_header header asked c (inr error) r = silent_unanswered host bytes asked_header header asked c (error-silent asked error) r

-- an error about a closed port
port_error : (host : Host) (bytes : List ℕ) (asked_header header : EthernetRepr) (asked c : Carried) → IsPortUnreachable host bytes asked_header asked header c → IsErrorCarried c
port_error host bytes asked_header header asked c e =
    let (v, t) = e.tells in subst IsErrorCarried (sym t.tells) (unreachable-error host.interface v unreachable.Port _)

-- a reply with a message has no reply
message_silent : (host : Host) (bytes : List ℕ) (asked_header header : EthernetRepr) (asked c : Carried) → IsMessageReply host bytes asked_header asked header c → IsSilent c
message_silent host bytes asked_header header asked c (inl e) = subst IsSilent (sym e.replies) (echo-silent e.ip e.ident e.seq_no e.payload)
message_silent host bytes asked_header header asked c (inr (inl e)) = subst IsSilent (sym e.tells) (advert-silent host.interface e.dst e.solicited)
message_silent host bytes asked_header header asked c (inr (inr (inl e))) = error-silent c (port_error host bytes asked_header header asked c e)
message_silent host bytes asked_header header asked c (inr (inr (inr e))) =
    let (v, t) = e.tells in error-silent c (subst IsErrorCarried (sym t.tells) (problem-error host.interface v e.code e.pointer _))

-- the reply to a reply to a TCP segment is a RST
segment_resets : (first second : Host) (bytes : List ℕ) (asked_header header back_header other_header : EthernetRepr) (asked c d : Carried)
    → IsTcpReply first.interface first.open_ports.now first.offer asked_header asked header c → IsReply second bytes back_header c other_header d → CarriesReset d
segment_resets first second bytes _ _ _ _ asked c d e (inl (inl g)) = absurd (let carries = e.carries in let asks = g.asks in cc)
segment_resets first second bytes _ _ _ _ asked c d e (inl (inr (inl g))) = absurd (let carries = e.carries in let asks = g.asks in cc)
segment_resets first second bytes _ _ _ _ asked c d e (inl (inr (inr g))) =
    let carries = e.carries in
    let asks = g.asks in
    let same : e.reply ≡ g.tcp = cc in
    let settled = subst IsSettled same (settles first.open_ports.now first.offer e.tcp _ e.reply e.replies) in
    (_, g.reply, [], g.carries, resets second.open_ports.now second.offer g.tcp _ g.reply settled g.replies)
segment_resets first second bytes _ _ _ _ asked c d e (inr (inl g)) = absurd (let carries = e.carries in let asks = g.asks in cc)
segment_resets first second bytes _ _ _ _ asked c d e (inr (inr (inl g))) = absurd (let carries = e.carries in let asks = g.asks in cc)
segment_resets first second bytes _ _ _ _ asked c d e (inr (inr (inr (inl g)))) = absurd (let carries = e.carries in let asks = g.asks in cc)
segment_resets first second bytes _ _ _ _ asked c d e (inr (inr (inr (inr g)))) = absurd (let carries = e.carries in let asks = g.asks in cc)

-- the reply of the older kinds to a reply of these is a RST
reply_resets : (first second : Host) (bytes : List ℕ) (asked_header header back_header other_header : EthernetRepr) (asked c d : Carried)
    → IsFrameReply first asked_header asked header c → IsFrameReply second back_header c other_header d → CarriesReset d
reply_resets first second bytes _ _ _ _ asked c d (inl e) (inl g) =
    absurd (let carries = e.carries in let tells = e.replies.tells in let asks = g.asks in let request = g.replies.asks in cc)
reply_resets first second bytes _ _ _ _ asked c d (inl e) (inr (inl g)) = absurd (let carries = e.carries in let asks = g.asks in cc)
reply_resets first second bytes _ _ _ _ asked c d (inl e) (inr (inr g)) = absurd (let carries = e.carries in let asks = g.asks in cc)
reply_resets first second bytes _ _ _ _ asked c d (inr (inl e)) (inl g) = absurd (let carries = e.echoes in let asks = g.asks in cc)
reply_resets first second bytes _ _ _ _ asked c d (inr (inl e)) (inr (inl g)) =
    let carries = e.echoes in
    let asks = g.asks in
    let from : e.udp.dst_port ≡ g.udp.src_port = cc in
    let to : e.udp.src_port ≡ g.udp.dst_port = cc in
    absurd (omega (arith, from, to, e.to_port, e.from_above, g.to_port, g.from_above))
reply_resets first second bytes _ _ _ _ asked c d (inr (inl e)) (inr (inr g)) = absurd (let carries = e.echoes in let asks = g.asks in cc)
reply_resets first second bytes asked_header header back_header other_header asked c d (inr (inr e)) g =
    segment_resets first second bytes asked_header header back_header other_header asked c d e (inl g)

-- the reply with a message to a reply is the error about the echo of a UDP packet
reply_unreachable : (first second : Host) (bytes : List ℕ) (asked_header header back_header other_header : EthernetRepr) (asked c d : Carried)
    → IsFrameReply first asked_header asked header c → IsMessageReply second bytes back_header c other_header d → IsPortUnreachable second bytes back_header c other_header d
reply_unreachable first second bytes _ _ _ _ asked c d (inl e) (inl g) = absurd (let carries = e.carries in let asks = g.asks in cc)
reply_unreachable first second bytes _ _ _ _ asked c d (inl e) (inr (inl g)) = absurd (let carries = e.carries in let asks = g.asks in cc)
reply_unreachable first second bytes _ _ _ _ asked c d (inr (inl e)) (inl g) = absurd (let carries = e.echoes in let asks = g.asks in cc)
reply_unreachable first second bytes _ _ _ _ asked c d (inr (inl e)) (inr (inl g)) = absurd (let carries = e.echoes in let asks = g.asks in cc)
reply_unreachable first second bytes _ _ _ _ asked c d (inr (inr e)) (inl g) = absurd (let carries = e.carries in let asks = g.asks in cc)
reply_unreachable first second bytes _ _ _ _ asked c d (inr (inr e)) (inr (inl g)) = absurd (let carries = e.carries in let asks = g.asks in cc)
reply_unreachable first second bytes _ _ _ _ asked c d e (inr (inr (inl g))) = g
reply_unreachable first second bytes _ _ _ _ asked c d (inl e) (inr (inr (inr g))) = absurd (let carries = e.carries in let asks = g.asks in cc)
reply_unreachable first second bytes _ _ _ _ asked c d (inr (inl e)) (inr (inr (inr g))) = absurd (let carries = e.echoes in let asks = g.asks in cc)
reply_unreachable first second bytes _ _ _ _ asked c d (inr (inr e)) (inr (inr (inr g))) = absurd (let carries = e.carries in let asks = g.asks in cc)

-- a reply to a reply is a RST, or the error about a closed port
reply_finishes : (first second : Host) (f g : List ℕ) (asked_header header back_header other_header : EthernetRepr) (asked c d : Carried)
    → IsReply first f asked_header asked header c → IsReply second g back_header c other_header d → CarriesReset d ⊎ IsPortUnreachable second g back_header c other_header d
reply_finishes first second f g asked_header header back_header other_header asked c d (inl e) (inl r) =
    inl (reply_resets first second g asked_header header back_header other_header asked c d e r)
reply_finishes first second f g asked_header header back_header other_header asked c d (inl e) (inr r) =
    inr (reply_unreachable first second g asked_header header back_header other_header asked c d e r)
reply_finishes first second f g asked_header header back_header other_header asked c d (inr e) r =
    absurd (silent_unanswered second g back_header other_header c d (message_silent first f asked_header header asked c e) r)

-- the reply to a TCP segment is a segment
segment_reply : (first : Host) (f : List ℕ) (asked_header header : EthernetRepr) (asked c : Carried) (ip : IpRepr) (tcp : TcpHeader) (payload : List ℕ)
    → asked ≡ packet ip (segment tcp payload) → IsReply first f asked_header asked header c
    → IsTcpReply first.interface first.open_ports.now first.offer asked_header asked header c
segment_reply first f _ _ asked c ip tcp payload is (inl (inl e)) = absurd (let asks = e.asks in cc)
segment_reply first f _ _ asked c ip tcp payload is (inl (inr (inl e))) = absurd (let asks = e.asks in cc)
segment_reply first f _ _ asked c ip tcp payload is (inl (inr (inr e))) = e
segment_reply first f _ _ asked c ip tcp payload is (inr (inl e)) = absurd (let asks = e.asks in cc)
segment_reply first f _ _ asked c ip tcp payload is (inr (inr (inl e))) = absurd (let asks = e.asks in cc)
segment_reply first f _ _ asked c ip tcp payload is (inr (inr (inr (inl e)))) = absurd (let asks = e.asks in cc)
segment_reply first f _ _ asked c ip tcp payload is (inr (inr (inr (inr e)))) = absurd (let asks = e.asks in cc)

-- ---- bytes

as_reset : (h : List ℕ) (header : EthernetRepr) (carried : Carried) → IsReadWhole h header carried → CarriesReset carried → IsReset h
as_reset h header carried reads (ip, tcp, payload, carries, is) =
    record { header = header; ip = ip; tcp = tcp; payload = payload; reads = subst (λ c. IsReadWhole h header c) carries reads; reset = is }

as_error : (h : List ℕ) (header : EthernetRepr) (carried : Carried) → IsReadWhole h header carried → IsErrorCarried carried → IsErrorMessage h
as_error h header carried reads (ip, message, carries, protocol, error) =
    record { header = header; ip = ip; message = message; reads = subst (λ c. IsReadWhole h header c) carries reads; protocol = protocol; error = error }

-- ---- replies have no extension headers

echo-plain : (v : IpRepr) (u : UdpRepr) (payload : List ℕ) → IsPlain (echo_values v u payload)
echo-plain (Ipv4 v) u payload = refl
echo-plain (Ipv6 v) u payload = refl

segment-plain : (v : IpRepr) (reply : TcpHeader) → IsPlain (reply_values v reply)
segment-plain (Ipv4 v) reply = refl
segment-plain (Ipv6 v) reply = refl

icmp-plain : (v : IpRepr) (m : List ℕ) → next_header_of v ≡ protocol_of (version_of v) → IsPlain (packet v (other m))
icmp-plain (Ipv4 v) m is = ap (λ p. is_extension (number_of p)) is
icmp-plain (Ipv6 v) m is = ap (λ p. is_extension (number_of p)) is

reply-plain : (host : Host) (bytes : List ℕ) (asked_header header : EthernetRepr) (asked c : Carried) → IsReply host bytes asked_header asked header c → IsPlain c
reply-plain host bytes asked_header header asked c (inl (inl e)) = subst IsPlain (sym e.carries) tt
reply-plain host bytes asked_header header asked c (inl (inr (inl e))) = subst IsPlain (sym e.echoes) (echo-plain e.ip e.udp e.payload)
reply-plain host bytes asked_header header asked c (inl (inr (inr e))) = subst IsPlain (sym e.carries) (segment-plain e.ip e.reply)
reply-plain host bytes asked_header header asked c (inr e) =
    let (v, m, is, not, types, protocol) = message_silent host bytes asked_header header asked c e in subst IsPlain (sym is) (icmp-plain v m protocol)

-- a reply is taken as it is
reply-itself : (first : Host) (f g : List ℕ) → Answers first f g → without_extensions g ≡ g
reply-itself first f g a =
    let (asked_header, asked, reads_f, replies) = a.replies in
    without-plain g a.header a.carried a.reads (reply-plain first f asked_header a.header asked a.carried replies)

-- so is a TCP segment
segment-itself : (frame : List ℕ) (header : EthernetRepr) (ip : IpRepr) (tcp : TcpHeader) (payload : List ℕ) → IsReadWhole frame header (packet ip (segment tcp payload)) → without_extensions frame ≡ frame
segment-itself frame header ip tcp payload reads =
    let (type, read, following) = reads.reads_carried in
    without-plain frame header (packet ip (segment tcp payload)) reads (ap (λ p. is_extension (number_of p)) following.0)

-- the second reply is one to the values of the first
reply_back : (first second : Host) (f g h : List ℕ) (a : Answers first f g) (b : Answers second g h) → IsReply second g b.replies.0 a.carried b.header b.carried
reply_back first second f g h a b =
    let (back_header, back, reads_g, replies_back) = b.replies in
    let once = frame-once all_checked g back_header a.header back a.carried (subst (λ b. IsReadWhole b back_header back) (reply-itself first f g a) reads_g) a.reads in
    subst (λ c. IsReply second g back_header c b.header b.carried) once.1 replies_back

answer_ends : (first second : Host) (f g h : List ℕ) (a : Answers first f g) (b : Answers second g h)
    → CarriesReset b.carried ⊎ IsPortUnreachable second g b.replies.0 a.carried b.header b.carried
answer_ends first second f g h a b =
    let (asked_header, asked, reads_f, replies) = a.replies in
    reply_finishes first second f g asked_header a.header b.replies.0 b.header asked a.carried b.carried replies (reply_back first second f g h a b)

-- a reply to a reply is a RST or an ICMP error
pub answer_finishes : (first second : Host) (f g h : List ℕ) → Answers first f g → Answers second g h → IsFinal h
answer_finishes first second f g h a b = elim (answer_ends first second f g h a b) [
  | inl r ↦ inl (as_reset h b.header b.carried b.reads r)
  | inr e ↦ inr (as_error h b.header b.carried b.reads (port_error second g b.replies.0 b.header a.carried b.carried e))
]

-- it is a RST if the second host serves the port of a UDP packet
pub answer_resets : (first second : Host) (f g h : List ℕ) → ServesPortOf second g → Answers first f g → Answers second g h → IsReset h
answer_resets first second f g h serves a b = elim (answer_ends first second f g h a b) [
  | inl r ↦ as_reset h b.header b.carried b.reads r
  | inr e ↦ absurd (e.closed (serves a.header e.ip e.udp e.payload (subst (λ c. IsReadWhole g a.header c) e.asks a.reads)))
]

-- or if the first frame is a TCP segment
pub segment_answered : (first second : Host) (f g h : List ℕ) → IsSegment f → Answers first f g → Answers second g h → IsReset h
segment_answered first second f g h (header, ip, tcp, payload, reads) a b =
    let (asked_header, asked, reads_f, replies) = a.replies in
    let itself = segment-itself f header ip tcp payload reads in
    let once = frame-once all_checked f asked_header header asked (packet ip (segment tcp payload)) (subst (λ b. IsReadWhole b asked_header asked) itself reads_f) reads in
    let e = segment_reply first f asked_header a.header asked a.carried ip tcp payload once.1 replies in
    as_reset h b.header b.carried b.reads
    (segment_resets first second g asked_header a.header b.replies.0 b.header asked a.carried b.carried e (reply_back first second f g h a b))

-- no host replies to those
pub final_unanswered : (third : Host) (h k : List ℕ) → IsFinal h → ¬ Answers third h k
final_unanswered third h k (inl r) a =
    let (asked_header, asked, reads, replies) = a.replies in
    let itself = segment-itself h r.header r.ip r.tcp r.payload r.reads in
    let once = frame-once all_checked h r.header asked_header (packet r.ip (segment r.tcp r.payload)) asked r.reads (subst (λ b. IsReadWhole b asked_header asked) itself reads) in
    unanswered third h asked_header a.header asked a.carried (inl (r.ip, r.tcp, r.payload, sym once.1, r.reset)) replies
final_unanswered third h k (inr r) a =
    let (asked_header, asked, reads, replies) = a.replies in
    let itself = without-plain h r.header (packet r.ip (other r.message)) r.reads (icmp-plain r.ip r.message r.protocol) in
    let once = frame-once all_checked h r.header asked_header (packet r.ip (other r.message)) asked r.reads (subst (λ b. IsReadWhole b asked_header asked) itself reads) in
    unanswered third h asked_header a.header asked a.carried (inr (r.ip, r.message, sym once.1, r.protocol, r.error)) replies
