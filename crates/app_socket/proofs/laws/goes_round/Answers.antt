use Rattle.std.proofs.Common.{refl, sym, ◌∙◌, ap, ℕ, ◌+◌, ◌%◌, max, min, arith}
use Rattle.std.specs.Prelude.{Option, Some, None}
use Rattle.std.proofs.lemmas.Bool.{false≢true}
use Rattle.app_options.specs.declared.agreed.Agreed.{Agreed}
use Rattle.app_options.specs.declared.timestamps.Recent.{Recent}
use Rattle.app_options.specs.Timestamps.{takes}
use Rattle.app_socket.specs.Rounds.{AcknowledgesItems, expires_by}
use Rattle.app_socket.proofs.ManyRounds.{resent}
use Rattle.app_socket.proofs.laws.goes_round.Goals as goal

pub returns-clause-goes : goal.returns-clause-goes
returns-clause-goes c = λ by end some waiting round stands passed.
    let outgoing = c.args.outgoing.now in
    let it = c.args.round.now in
    let s = c.step-2.new.self in
    let lost = c.lose.ensures.waits by end some waiting round.lost stands in
    let r = resent c.lose.new.socket c.step.new.self s outgoing c.lose.new.incoming c.step.new.incoming c.step-2.new.incoming it.first it.second (expires_by by it.lost.now) end c.step.result (Some c.in-Some.sent) c.step.ensures.out (omega (arith, some, lost.count))
    lost.waiting lost.stands round.first round.second round.patient c.step.ensures.steps (c.step.ensures.resends tt) c.in-Some.ensures.steps (c.in-Some.ensures.resends tt) in
    let taken = min s.connection.sending.flight (max 1 it.taken) in
    let acks : AcknowledgesItems s.connection c.answer-answer.result taken = record {
      number = c.answer-answer.ensures.number r.still.waiting.synced;
      ack = c.answer-answer.ensures.ack ∙ ap (λ (n : ℕ). Some ((n + taken) % 4294967296)) r.first;
      rst = c.answer-answer.ensures.rst;
      bare = c.answer-answer.ensures.bare;
      some = omega (arith, r.flight);
      few = omega arith;
    } in
    let g = c.hear.ensures.further _ end taken r.still.waiting acks r.still.stands in
    record { less = omega (arith, g.less, r.still.count, lost.count); waiting = g.waiting; stands = g.stands }

pub returns-clause-taken : goal.returns-clause-taken
returns-clause-taken c = λ by end some waiting round stands none.
    let outgoing = c.args.outgoing.now in
    let it = c.args.round.now in
    let lost = c.lose.ensures.waits by end some waiting round.lost stands in
    let r = resent c.lose.new.socket c.step.new.self c.step-2.new.self outgoing c.lose.new.incoming c.step.new.incoming c.step-2.new.incoming it.first it.second (expires_by by it.lost.now) end c.step.result (Some c.in-Some.sent) c.step.ensures.out
    (omega (arith, some, lost.count)) lost.waiting lost.stands round.first round.second round.patient c.step.ensures.steps (c.step.ensures.resends tt) c.in-Some.ensures.steps (c.in-Some.ensures.resends tt) in
    (refl, c.hear.ensures.recent r.still.waiting.opened (ap (λ (a : Agreed). a.recent) (r.still.agreed ∙ lost.agreed) ∙ none))

pub returns-in_default-clause-taken : goal.returns-in_default-clause-taken
returns-in_default-clause-taken c = λ by end some waiting round stands none.
    let outgoing = c.args.outgoing.now in
    let it = c.args.round.now in
    let lost = c.lose.ensures.waits by end some waiting round.lost stands in
    let r = resent c.lose.new.socket c.step.new.self c.step-2.new.self outgoing c.lose.new.incoming c.step.new.incoming c.step-2.new.incoming it.first it.second (expires_by by it.lost.now) end c.step.result None c.step.ensures.out
    (omega (arith, some, lost.count)) lost.waiting lost.stands round.first round.second round.patient c.step.ensures.steps (c.step.ensures.resends tt) c.in_default.ensures.steps (c.in_default.ensures.resends tt) in
    absurd r.first

pub returns-then-not-takes-clause-taken : goal.returns-then-not-takes-clause-taken
returns-then-not-takes-clause-taken c = λ by end some waiting round stands none.
    let outgoing = c.args.outgoing.now in
    let it = c.args.round.now in
    let lost = c.lose.ensures.waits by end some waiting round.lost stands in
    let r = resent c.lose.new.socket c.step.new.self c.step-2.new.self outgoing c.lose.new.incoming c.step.new.incoming c.step-2.new.incoming it.first it.second (expires_by by it.lost.now) end c.step.result (Some c.in-Some.sent) c.step.ensures.out
    (omega (arith, some, lost.count)) lost.waiting lost.stands round.first round.second round.patient c.step.ensures.steps (c.step.ensures.resends tt) c.in-Some.ensures.steps (c.in-Some.ensures.resends tt) in
    absurd (false≢true (sym c.if-not-takes.true ∙ c.takes.ensures ∙ ap (λ (o : Option Recent). takes o c.args.options.now.timestamp it.answered) (ap (λ (a : Agreed). a.recent) (r.still.agreed ∙ lost.agreed) ∙ none)))
