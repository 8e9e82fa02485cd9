use Rattle.std.proofs.Common.{◌≡◌, ◌≢◌, ◌∙◌, length, ap, refl, rules, subst}
use Rattle.app_host.proofs.TcpReplies.{no_reply, replied, sent}
use Rattle.app_host.specs.Interface.{IsForUs, header_back}
use Rattle.app_host.specs.TcpReply.{Replies}
use Rattle.ip_wire.specs.TcpRepr.{header_of}
use Rattle.ip_wire.specs.declared.Carried.TheVariants as carried
use Rattle.app_host.proofs.tcp_answer.reply.Goals as goal

pub returns-in-Ok : goal.returns-in-Ok
returns-in-Ok c =
    let request = c.args.request.now in
    let v = c.in-Packet.header in
    let t = c.in-Tcp.segment in
    let r = c.in-Some.reply in
    let for_us : IsForUs c.args.ours.now request.header v = search rules in
    let back : c.header_back.result ≡ header_back v = search rules in
    replied c.args.ours.now c.args.ports.now c.args.offer.now request c.in-Ok.reply v t r (c.in-Packet.is ∙ ap (carried.Packet v) c.in-Tcp.is) for_us
    ((c.in-Some.ensures.value (header_of r)).0 refl) c.in-Some.ensures.payload (rw back at c.in-Ok.ensures.value) ((rw back at c.in-Ok.ensures.ok).0 (search rules))

pub returns-in-None : goal.returns-in-None
returns-in-None c =
    let v = c.in-Packet.header in
    let t = c.in-Tcp.segment in
    no_reply c.args.ours.now c.args.ports.now c.args.offer.now c.args.request.now (λ w u reply carries for_us src dst replies.
    let is = c.in-Packet.is ∙ ap (carried.Packet v) c.in-Tcp.is in
    let same : u ≡ t = cc in
    absurd (let none = (c.in-None.ensures.value reply).1 (subst (λ x. Replies c.args.ports.now c.args.offer.now (header_of x) (length x.payload.now) reply) same replies) in cc))

pub returns-in-Err : goal.returns-in-Err
returns-in-Err c =
    let request = c.args.request.now in
    let v = c.in-Packet.header in
    let t = c.in-Tcp.segment in
    let r = c.in-Some.reply in
    let back : c.header_back.result ≡ header_back v = search rules in
    let replies = (c.in-Some.ensures.value (header_of r)).0 refl in
    no_reply c.args.ours.now c.args.ports.now c.args.offer.now request (λ w u reply carries for_us src dst other.
    let is = c.in-Packet.is ∙ ap (carried.Packet v) c.in-Tcp.is in
    let same : u ≡ t = cc in
    let sound = sent c.args.ours.now c.args.ports.now c.args.offer.now request v t r (subst (λ x. x.src_port ≢ 0) same src) (subst (λ x. x.dst_port ≢ 0) same dst) replies c.in-Some.ensures.payload in
    let failed = (rw back at c.in-Err.ensures.ok).1 sound in
    absurd (search (rules, failed)))
