use Rattle.std.proofs.Common.{ℕ, sym, subst, drop, arith}
use Rattle.std.proofs.lemmas.List.{drop_all}
use Rattle.app_connection.specs.Endpoints.{InFits}
use Rattle.app_socket.proofs.ManyRounds.{lose_all, lose_more, lose_none}
use Rattle.app_socket.proofs.laws.lose.Goals as goal

pub loop-time-init : goal.loop-time-init
loop-time-init c = record {
  out = c.requires.out;
  rings = c.requires.rings;
  waits = λ by end some waiting before stands. lose_none c.args.socket.now c.args.outgoing.now c.args.incoming.now c.args.times.now by end waiting before stands;
}

pub loop-time-preserved : goal.loop-time-preserved
loop-time-preserved c = record {
  out = c.step.ensures.out;
  rings = subst (λ (n : ℕ). InFits c.step.new.self.connection.receiving n) (sym c.step.auto.incoming) c.step.ensures.rings;
  waits = λ by end some waiting before stands.
      lose_more c.args.socket.now c.loop-time.socket c.step.new.self c.args.outgoing.now c.loop-time.incoming c.step.new.incoming c.args.times.now c.loop-time.time-index by end c.step.result c.loop-time-test.true some
      c.step.ensures.steps (c.step.ensures.resends tt) (c.loop-time.invariant.waits by end some waiting before stands);
}

pub returns-clause-waits : goal.returns-clause-waits
returns-clause-waits c = λ by end some waiting before stands.
    lose_all c.args.socket.now c.loop-time.socket c.args.outgoing.now c.loop-time.incoming c.args.times.now (drop c.loop-time.time-index c.args.times.now) by end (drop_all c.loop-time.time-index c.args.times.now (omega (arith, c.loop-time-test.false)))
    (c.loop-time.invariant.waits by end some waiting before stands)
