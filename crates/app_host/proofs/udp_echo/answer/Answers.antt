use Rattle.std.proofs.Common.{◌≡◌, rules}
use Rattle.app_host.proofs.RepliesOnce.{echo-once, one_answer}
use Rattle.app_host.specs.UdpEcho.{EchoesFrame, IsEcho}
use Rattle.ip_wire.proofs.Sent.{answered, sendable, unanswered}
use Rattle.ip_wire.specs.Frame.{all_checked}
use Rattle.app_host.proofs.udp_echo.answer.Goals as goal

pub send_reply-requires : goal.send_reply-requires
send_reply-requires c = sendable (EchoesFrame c.args.ours.now c.args.port c.in-Ok.request) c.echo.result c.echo.ensures

pub returns-in-Ok : goal.returns-in-Ok
returns-in-Ok c =
    let caps : c.default.result ≡ all_checked = search rules in
    answered (IsEcho c.args.ours.now c.args.port) c.in-Ok.request c.args.bytes.now c.echo.result c.args.out.now c.send_reply.new.out c.send_reply.result
    (rw caps at c.in-Ok.ensures.reads) c.echo.ensures c.send_reply.ensures (one_answer (IsEcho c.args.ours.now c.args.port) (echo-once c.args.ours.now c.args.port) c.in-Ok.request)

pub returns-in-Err : goal.returns-in-Err
returns-in-Err c =
    let caps : c.default.result ≡ all_checked = search rules in
    unanswered (IsEcho c.args.ours.now c.args.port) c.args.bytes.now c.args.out.now (rw caps at c.in-Err.ensures.reads)
