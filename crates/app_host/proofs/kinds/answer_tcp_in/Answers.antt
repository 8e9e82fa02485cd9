use Rattle.std.proofs.Common.{◌≡◌, ◌∙◌, arith, ap, false, length, refl, rules, subst, sym, true}
use Rattle.app_host.proofs.HostReplies.{by_tcp}
use Rattle.app_host.proofs.KindReplies.{by-frame, no-tcp}
use Rattle.app_host.proofs.TcpReplies.{no_reply, plain, replied, sent, short}
use Rattle.app_host.specs.Interface.{IsForUs}
use Rattle.app_host.specs.TcpReply.{Replies}
use Rattle.ip_wire.proofs.Rewritten.{fits-frame}
use Rattle.ip_wire.specs.TcpRepr.{header_of}
use Rattle.ip_wire.specs.declared.Carried.TheVariants as carried
use Rattle.ip_wire.specs.declared.Frame.{Frame}
use Rattle.ip_wire.specs.declared.Transport.TheVariants as transport
use Rattle.app_host.proofs.kinds.answer_tcp_in.Goals as goal

pub returns-then-not-accepts : goal.returns-then-not-accepts
returns-then-not-accepts V6 c =
    let host = c.args.host.now in
    let link = c.args.link in
    let v = c.args.header in
    let t = c.args.segment in
    let off : c.accepts.result ≡ false = search rules in
    no-tcp host c.args.frame.now link v t c.args.out.now
    (no_reply host.interface host.open_ports.now host.offer (record { header = link; carried = carried.Packet v (transport.Tcp t) }) (λ w u reply carries for_us src dst replies.
    let same : w ≡ v = cc in
    let on : c.accepts.result ≡ true = c.accepts.ensures.1 (subst (IsForUs host.interface link) same for_us) in
    cc))
    c.requires

pub reply_to-requires : goal.reply_to-requires
reply_to-requires V6 c = short c.args.link c.args.header c.args.segment (fits-frame _ _ _ c.requires).0

pub frame_of-reply-requires : goal.frame_of-reply-requires
frame_of-reply-requires V6 c =
    let host = c.args.host.now in
    let t = c.args.segment in
    let r = c.in-Some.reply in
    let known = plain host.open_ports.now host.offer (header_of t) (length t.payload.now) (header_of r) ((c.in-Some.ensures.value (header_of r)).0 refl) in
    let empty = ap length c.in-Some.ensures.payload in
    omega (arith, known.short, empty)

pub send_inlined-requires : goal.send_inlined-requires
send_inlined-requires V6 c =
    let host = c.args.host.now in
    let v = c.args.header in
    let t = c.args.segment in
    let r = c.in-Some.reply in
    let request : Frame = record { header = c.args.link; carried = carried.Packet v (transport.Tcp t) } in
    let for_us : IsForUs host.interface c.args.link v = search rules in
    let read = c.requires.carried.2.1 in
    let replies = (c.in-Some.ensures.value (header_of r)).0 refl in
    let sound = sent host.interface host.open_ports.now host.offer request v t r (λ z. read.sender (sym read.src_port ∙ z)) (λ z. read.receiver (sym read.dst_port ∙ z)) replies c.in-Some.ensures.payload in
    (replied host.interface host.open_ports.now host.offer request c.frame_of-reply.result v t r refl for_us replies c.in-Some.ensures.payload c.frame_of-reply.ensures sound).0

pub returns-in-Some : goal.returns-in-Some
returns-in-Some V6 c =
    let host = c.args.host.now in
    let v = c.args.header in
    let t = c.args.segment in
    let r = c.in-Some.reply in
    let request : Frame = record { header = c.args.link; carried = carried.Packet v (transport.Tcp t) } in
    let for_us : IsForUs host.interface c.args.link v = search rules in
    let read = c.requires.carried.2.1 in
    let replies = (c.in-Some.ensures.value (header_of r)).0 refl in
    let sound = sent host.interface host.open_ports.now host.offer request v t r (λ z. read.sender (sym read.src_port ∙ z)) (λ z. read.receiver (sym read.dst_port ∙ z)) replies c.in-Some.ensures.payload in
    let gives = replied host.interface host.open_ports.now host.offer request c.frame_of-reply.result v t r refl for_us replies c.in-Some.ensures.payload c.frame_of-reply.ensures sound in
    by-frame host c.args.frame.now request c.args.out.now c.send_inlined.new.out c.send_inlined.result c.requires
    (record { reply = c.frame_of-reply.result; gives = by_tcp host request c.frame_of-reply.result gives; sends = c.send_inlined.ensures })

pub returns-in-None : goal.returns-in-None
returns-in-None V6 c =
    let host = c.args.host.now in
    let link = c.args.link in
    let v = c.args.header in
    let t = c.args.segment in
    no-tcp host c.args.frame.now link v t c.args.out.now
    (no_reply host.interface host.open_ports.now host.offer (record { header = link; carried = carried.Packet v (transport.Tcp t) }) (λ w u reply carries for_us src dst replies.
    let same : u ≡ t = cc in
    let none = (c.in-None.ensures.value reply).1 (subst (λ x. Replies host.open_ports.now host.offer (header_of x) (length x.payload.now) reply) same replies) in
    cc))
    c.requires
