use Rattle.std.proofs.Common.{refl}
use Rattle.std.specs.Prelude.{None}
use Rattle.app_socket.proofs.Answering.{windowed}
use Rattle.app_socket.proofs.Sending.{comes_back, once, sent_twice}
use Rattle.app_socket.specs.Pair.{end_at}
use Rattle.app_socket.proofs.laws.pair.a_round_of_two_sockets.Goals as goal

pub returns-in_default-clause-goes : goal.returns-in_default-clause-goes
returns-in_default-clause-goes c = λ h t run send may.
    let outgoing = c.args.outgoing.now in
    let s0 = c.args.here.now in
    let s1 = c.step.new.self in
    let first = once s0 s1 outgoing c.args.incoming.now c.step.new.incoming h (end_at c.args.there.now c.args.answers.now c.args.text.now t) c.args.round.now c.step.result run send c.step.ensures.steps (c.step.ensures.resends tt) in
    absurd (first.sends c.step-2.new.self None (c.in_default.ensures.resends tt))

pub returns-in_default-answer-clause-goes : goal.returns-in_default-answer-clause-goes
returns-in_default-answer-clause-goes c = λ h t run send may.
    let outgoing = c.args.outgoing.now in
    let there = end_at c.args.there.now c.args.answers.now c.args.text.now t in
    let s0 = c.args.here.now in
    let s1 = c.step.new.self in
    let s2 = c.step-2.new.self in
    let e = c.in-Some.ensures in
    let first = once s0 s1 outgoing c.args.incoming.now c.step.new.incoming h there c.args.round.now c.step.result run send c.step.ensures.steps (c.step.ensures.resends tt) in
    let s = sent_twice s0 s1 s2 outgoing c.args.incoming.now c.step.new.incoming c.step-2.new.incoming h there c.args.round.now c.step.result c.in-Some.sent run send first c.step.ensures.out c.step-2.ensures.out
    c.step.ensures.steps e.steps (e.resends tt) (e.acknowledges tt) e.sends
    in
    absurd (c.in_default-answer.ensures.goes (end_at s2 outgoing c.step-2.new.incoming _) t s.runs s.set s.at s.from s.some may)

pub returns-clause-goes : goal.returns-clause-goes
returns-clause-goes c = λ h t run send may.
    let outgoing = c.args.outgoing.now in
    let answers = c.args.answers.now in
    let there = end_at c.args.there.now answers c.args.text.now t in
    let s0 = c.args.here.now in
    let s1 = c.step.new.self in
    let s2 = c.step-2.new.self in
    let e = c.in-Some.ensures in
    let first = once s0 s1 outgoing c.args.incoming.now c.step.new.incoming h there c.args.round.now c.step.result run send c.step.ensures.steps (c.step.ensures.resends tt) in
    let s = sent_twice s0 s1 s2 outgoing c.args.incoming.now c.step.new.incoming c.step-2.new.incoming h there c.args.round.now c.step.result c.in-Some.sent run send first c.step.ensures.out c.step-2.ensures.out
    c.step.ensures.steps e.steps (e.resends tt) (e.acknowledges tt) e.sends
    in
    let a = c.in-Some-answer.ensures.goes (end_at s2 outgoing c.step-2.new.incoming _) t s.runs s.set s.at s.from s.some may in
    comes_back s0 s2 c.step-3.new.self c.args.there.now c.answer.new.there outgoing c.step-2.new.incoming c.step-3.new.incoming answers c.answer.new.text h _ t c.args.round.now _ _ c.in-Some-answer.answer _ (record { ref_ptr = (0, 0); now = c.args.round.now.answer.options }) c.step-3.result refl refl s.set.opened send.taken s.una s.still a (windowed c.in-Some-answer.answer c.with_window-answer.result c.args.round.now.answer.window c.with_window-answer.ensures) refl c.step-2.ensures.out c.step-3.ensures.out
    c.step-3.ensures.steps c.step-3.ensures.stays c.step-3.ensures.learns c.step-3.ensures.timestamp
