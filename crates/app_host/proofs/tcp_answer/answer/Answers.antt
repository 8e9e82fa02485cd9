use Rattle.std.proofs.Common.{◌≡◌, rules}
use Rattle.app_host.proofs.RepliesOnce.{one_answer, tcp-once}
use Rattle.app_host.specs.TcpReply.{IsTcpReply, TcpRepliesFrame}
use Rattle.ip_wire.proofs.Sent.{answered, sendable, unanswered}
use Rattle.ip_wire.specs.Frame.{all_checked}
use Rattle.app_host.proofs.tcp_answer.answer.Goals as goal

pub send_reply-requires : goal.send_reply-requires
send_reply-requires c = sendable (TcpRepliesFrame c.args.ours.now c.args.ports.now c.args.offer.now c.in-Ok.request) c.reply.result c.reply.ensures

pub returns-in-Ok : goal.returns-in-Ok
returns-in-Ok c =
    let caps : c.default.result ≡ all_checked = search rules in
    answered (IsTcpReply c.args.ours.now c.args.ports.now c.args.offer.now) c.in-Ok.request c.args.bytes.now c.reply.result c.args.out.now c.send_reply.new.out c.send_reply.result
    (rw caps at c.in-Ok.ensures.reads) c.reply.ensures c.send_reply.ensures (one_answer (IsTcpReply c.args.ours.now c.args.ports.now c.args.offer.now) (tcp-once c.args.ours.now c.args.ports.now c.args.offer.now) c.in-Ok.request)

pub returns-in-Err : goal.returns-in-Err
returns-in-Err c =
    let caps : c.default.result ≡ all_checked = search rules in
    unanswered (IsTcpReply c.args.ours.now c.args.ports.now c.args.offer.now) c.args.bytes.now c.args.out.now (rw caps at c.in-Err.ensures.reads)
