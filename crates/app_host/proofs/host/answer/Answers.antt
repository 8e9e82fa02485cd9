use Rattle.app_host.proofs.HostReplies.{answers, unanswered}
use Rattle.app_host.proofs.host.answer.Goals as goal

pub returns-in-Some : goal.returns-in-Some
returns-in-Some c =
    let host = c.args.host.now in
    let bytes = c.args.frame.now in
    let s = c.in-Some.ensures.tries.1 in
    record {
      sends = s;
      unread = unanswered host bytes _ _ _ s;
      answers = answers host bytes _ _ _ s;
      dscp = c.in-Some.ensures.dscp;
    }

pub returns-in-None-clause-sends : goal.returns-in-None-clause-sends
returns-in-None-clause-sends c = let (stays, none) = c.in-None.ensures.tries in (stays, λ h d r. absurd (none h d r))
