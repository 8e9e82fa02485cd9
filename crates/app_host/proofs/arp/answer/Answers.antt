use Rattle.std.proofs.Common.{◌≡◌, rules}
use Rattle.app_host.proofs.RepliesOnce.{arp-once, one_answer}
use Rattle.app_host.specs.Arp.{ArpRepliesFrame, IsArpAnswer}
use Rattle.ip_wire.proofs.Sent.{answered, sendable, unanswered}
use Rattle.ip_wire.specs.Frame.{all_checked}
use Rattle.app_host.proofs.arp.answer.Goals as goal

pub send_reply-requires : goal.send_reply-requires
send_reply-requires c = sendable (ArpRepliesFrame c.args.ours.now c.in-Ok.request) c.reply.result c.reply.ensures

pub returns-in-Ok : goal.returns-in-Ok
returns-in-Ok c =
    let caps : c.default.result ≡ all_checked = search rules in
    answered (λ asked_header. IsArpAnswer c.args.ours.now) c.in-Ok.request c.args.bytes.now c.reply.result c.args.out.now c.send_reply.new.out c.send_reply.result
    (rw caps at c.in-Ok.ensures.reads) c.reply.ensures c.send_reply.ensures (one_answer (λ asked_header. IsArpAnswer c.args.ours.now) (λ asked_header. arp-once c.args.ours.now) c.in-Ok.request)

pub returns-in-Err : goal.returns-in-Err
returns-in-Err c =
    let caps : c.default.result ≡ all_checked = search rules in
    unanswered (λ asked_header. IsArpAnswer c.args.ours.now) c.args.bytes.now c.args.out.now (rw caps at c.in-Err.ensures.reads)
