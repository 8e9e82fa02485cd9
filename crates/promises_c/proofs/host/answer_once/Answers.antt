use Rattle.std.proofs.Common.{ap, of_z, subst, sym, to_z, w64}
use Rattle.c_icmp.specs.HostFields.{WritesAnswer, host_of}
use Rattle.promises_c.proofs.RepliesOnce.{answers_once}
use Rattle.promises_c.proofs.host.answer_once.Goals as goal

pub returns-clause-returned : goal.returns-clause-returned
returns-clause-returned c = ap (λ r. to_z w64 (of_z w64 r)) (answers_once (host_of c.args.host.now) c.args.frame.now c.args.out.now _ _ _ _ c.lk_answer.ensures.answers
    (subst (λ o. WritesAnswer (host_of c.args.host.now) c.args.frame.now o c.lk_answer-2.new.out c.lk_answer-2.result) (sym c.requires) c.lk_answer-2.ensures.answers)).0

pub returns-clause-written : goal.returns-clause-written
returns-clause-written c = (answers_once (host_of c.args.host.now) c.args.frame.now c.args.out.now _ _ _ _ c.lk_answer.ensures.answers
    (subst (λ o. WritesAnswer (host_of c.args.host.now) c.args.frame.now o c.lk_answer-2.new.out c.lk_answer-2.result) (sym c.requires) c.lk_answer-2.ensures.answers)).1
