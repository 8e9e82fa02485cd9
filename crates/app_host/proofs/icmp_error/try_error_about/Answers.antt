use Rattle.std.proofs.Common.{refl}
use Rattle.app_host.proofs.MessagesOnce.{error-once}
use Rattle.app_host.proofs.Tried.{message-tried}
use Rattle.app_host.specs.IcmpError.{IsError}
use Rattle.app_host.proofs.icmp_error.try_error_about.Goals as goal

pub returns-in-Some : goal.returns-in-Some
returns-in-Some c =
    let P = IsError c.args.ours.now c.args.frame.now c.args.message in
    message-tried P c.in-Some.error c.args.out.now c.send.new.out c.send.result c.in-Some.ensures.error c.in-Some.ensures.unmarked c.send.ensures.sends
    (error-once c.args.ours.now c.args.frame.now c.args.message)

pub returns-in-None : goal.returns-in-None
returns-in-None c = (refl, c.in-None.ensures.error)

pub send-requires : goal.send-requires
send-requires c = c.in-Some.ensures.error.0
