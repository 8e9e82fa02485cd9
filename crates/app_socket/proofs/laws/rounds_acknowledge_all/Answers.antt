use Rattle.std.proofs.Common.{sym, ◌∙◌, subst, ℕ, arith}
use Rattle.std.proofs.lemmas.Bool.{false≢true}
use Rattle.app_connection.specs.Endpoints.{InFits}
use Rattle.app_socket.proofs.ManyRounds.{all_done, all_went, going_first, going_more, none_left, round_taken, some_waits}
use Rattle.app_socket.proofs.laws.rounds_acknowledge_all.Goals as goal

pub loop-round-init : goal.loop-round-init
loop-round-init c = record {
  out = c.requires.out;
  rings = c.requires.rings;
  going = λ stands. going_first c.args.socket.now c.args.outgoing.now c.args.incoming.now c.args.rounds.now c.requires.opened c.requires.synced c.requires.runs c.requires.rounds stands;
  recent = λ stands none. none;
}

pub loop-round-preserved : goal.loop-round-preserved
loop-round-preserved c =
    let l = c.loop-round in
    let outgoing = c.args.outgoing.now in
    record {
      out = c.goes_round.ensures.out;
      rings = subst (λ (n : ℕ). InFits c.goes_round.new.socket.connection.receiving n) (sym c.goes_round.auto.incoming) c.goes_round.ensures.rings;
      going = λ stands.
          let g = l.invariant.going stands in
          let some = some_waits l.socket outgoing l.incoming c.waiting.result l.invariant.out g.stands (c.waiting.ensures _ l.invariant.out) c.if-waiting-eq0.false in
          going_more l.socket c.goes_round.new.socket outgoing l.incoming c.goes_round.new.incoming c.args.rounds.now l.round-index _ _ c.goes_round.result c.loop-round-test.true some c.if-not-goes_round.false
          c.goes_round.ensures.goes g;
      recent = λ stands none.
          let g = l.invariant.going stands in
          let some = some_waits l.socket outgoing l.incoming c.waiting.result l.invariant.out g.stands (c.waiting.ensures _ l.invariant.out) c.if-waiting-eq0.false in
          (round_taken l.socket c.goes_round.new.socket outgoing l.incoming c.args.rounds.now l.round-index _ _ c.goes_round.result c.loop-round-test.true some c.goes_round.ensures.taken g (l.invariant.recent stands none)).1;
    }

pub returns-then-waiting-eq0-clause-all : goal.returns-then-waiting-eq0-clause-all
returns-then-waiting-eq0-clause-all c = λ stands enough passed.
    let l = c.loop-round in
    all_done l.socket.connection.sending c.args.outgoing.now (none_left l.socket c.waiting.result (c.waiting.ensures _ l.invariant.out) c.if-waiting-eq0.true)

pub returns-then-not-goes_round-clause-taken : goal.returns-then-not-goes_round-clause-taken
returns-then-not-goes_round-clause-taken c = λ stands none.
    let l = c.loop-round in
    let outgoing = c.args.outgoing.now in
    let g = l.invariant.going stands in
    let some = some_waits l.socket outgoing l.incoming c.waiting.result l.invariant.out g.stands (c.waiting.ensures _ l.invariant.out) c.if-waiting-eq0.false in
    let taken = round_taken l.socket c.goes_round.new.socket outgoing l.incoming c.args.rounds.now l.round-index _ _ c.goes_round.result c.loop-round-test.true some c.goes_round.ensures.taken g (l.invariant.recent stands none) in
    absurd (false≢true (sym c.if-not-goes_round.true ∙ taken.0))

pub returns-clause-all : goal.returns-clause-all
returns-clause-all c = λ stands enough passed.
    let l = c.loop-round in
    all_done l.socket.connection.sending c.args.outgoing.now (all_went l.socket c.args.outgoing.now l.incoming _ l.round-index _ (l.invariant.going stands) (omega (arith, enough, c.loop-round-test.false)))
