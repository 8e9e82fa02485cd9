use Rattle.std.proofs.Common.{◌≡◌, ◌∙◌, ◌++◌, ◌<◌, ◌^◌, SFits, None, Some, arith, drop, length, rules, subst, sym, take, w64}
use Rattle.std.proofs.lemmas.Int.{to_z-of_z}
use Rattle.c_icmp.proofs.FrameReplies.{returned, sent-short, tried-usable}
use Rattle.c_icmp.specs.Errors.{TellsOf}
use Rattle.c_icmp.specs.Interfaces.{WritesReply}
use Rattle.c_structs.specs.Written.{usable}
use Rattle.ip_wire.specs.Reply.{unmarked}
use Rattle.c_icmp.proofs.errors.write_error.Goals as goal

pub returns-in-Some : goal.returns-in-Some
returns-in-Some c =
    let P = TellsOf c.args.ours.now c.args.frame.now c.args.problem c.args.mtu in
    let old = c.args.out.now in
    let new = c.try_error.new.out in
    let sent = c.in-Some.sent in
    let front : c.split_at_mut-front.result.0.now ≡ take (usable (length old)) old = search rules in
    let rest : c.split_at_mut-front.result.1.now ≡ drop (usable (length old)) old = search rules in
    let fits : SFits w64 c.returned.result = search rules in
    let tried = tried-usable unmarked P old new (Some sent) (rw front at c.in-Some.ensures) in
    subst (λ a. WritesReply unmarked P old (new ++ c.split_at_mut-front.result.1.now) a) (sym (to_z-of_z w64 c.returned.result fits ∙ c.returned.ensures))
    (subst (λ l. WritesReply unmarked P old (new ++ l) (returned (Some sent))) (sym rest) tried)

pub returns-in-None : goal.returns-in-None
returns-in-None c =
    let P = TellsOf c.args.ours.now c.args.frame.now c.args.problem c.args.mtu in
    let old = c.args.out.now in
    let new = c.try_error.new.out in
    let front : c.split_at_mut-front.result.0.now ≡ take (usable (length old)) old = search rules in
    let rest : c.split_at_mut-front.result.1.now ≡ drop (usable (length old)) old = search rules in
    let tried = tried-usable unmarked P old new None (rw front at c.in-None.ensures) in
    subst (λ l. WritesReply unmarked P old (new ++ l) (returned None)) (sym rest) tried

pub returned-requires : goal.returned-requires
returned-requires c =
    let short : length c.split_at_mut-front.result.0.now < 2 ^ 63 = search (arith, rules) in
    sent-short _ _ _ _ c.in-Some.sent (2 ^ 63) short c.in-Some.ensures.1
