use Rattle.std.proofs.Common.{◌≡◌, ◌∙◌, ◌++◌, ◌<◌, ◌^◌, SFits, None, Some, arith, drop, length, rules, subst, sym, take, w64}
use Rattle.std.proofs.lemmas.Int.{to_z-of_z}
use Rattle.app_host.specs.Host.{RepliesBytes}
use Rattle.app_host.specs.IcmpEcho.{reply_dscp}
use Rattle.c_icmp.proofs.FrameReplies.{returned, sent-short, tried-usable}
use Rattle.c_icmp.proofs.HostAnswers.{unanswered}
use Rattle.c_icmp.specs.Interfaces.{WritesReply}
use Rattle.c_structs.specs.Written.{usable}
use Rattle.c_icmp.proofs.host.answer.Goals as goal

pub returns-in-Some : goal.returns-in-Some
returns-in-Some c =
    let P = RepliesBytes c.args.host.now c.args.frame.now in
    let dscp = reply_dscp c.args.frame.now in
    let old = c.args.out.now in
    let new = c.try_answer.new.out in
    let sent = c.in-Some.sent in
    let front : c.split_at_mut-front.result.0.now ≡ take (usable (length old)) old = search rules in
    let rest : c.split_at_mut-front.result.1.now ≡ drop (usable (length old)) old = search rules in
    let fits : SFits w64 c.returned.result = search rules in
    let tried = tried-usable dscp P old new (Some sent) (rw front at c.in-Some.ensures.tries) in
    let wrote = subst (λ a. WritesReply dscp P old (new ++ c.split_at_mut-front.result.1.now) a) (sym (to_z-of_z w64 c.returned.result fits ∙ c.returned.ensures))
    (subst (λ l. WritesReply dscp P old (new ++ l) (returned (Some sent))) (sym rest) tried) in
    record { answers = wrote; unread = unanswered c.args.host.now c.args.frame.now _ _ _ wrote }

pub returns-in-None : goal.returns-in-None
returns-in-None c =
    let P = RepliesBytes c.args.host.now c.args.frame.now in
    let dscp = reply_dscp c.args.frame.now in
    let old = c.args.out.now in
    let new = c.try_answer.new.out in
    let front : c.split_at_mut-front.result.0.now ≡ take (usable (length old)) old = search rules in
    let rest : c.split_at_mut-front.result.1.now ≡ drop (usable (length old)) old = search rules in
    let tried = tried-usable dscp P old new None (rw front at c.in-None.ensures.tries) in
    let wrote = subst (λ l. WritesReply dscp P old (new ++ l) (returned None)) (sym rest) tried in
    record { answers = wrote; unread = unanswered c.args.host.now c.args.frame.now _ _ _ wrote }

pub returned-requires : goal.returned-requires
returned-requires c =
    let short : length c.split_at_mut-front.result.0.now < 2 ^ 63 = search (arith, rules) in
    sent-short _ _ _ _ c.in-Some.sent (2 ^ 63) short c.in-Some.ensures.tries.1
