use Rattle.std.proofs.Common.{sym, subst, ℕ, arith}
use Rattle.app_connection.specs.Endpoints.{InFits}
use Rattle.app_socket.proofs.Exchanging.{all_came, going_first, going_more, none_after, some_left}
use Rattle.app_socket.proofs.ManyRounds.{none_left}
use Rattle.app_socket.proofs.laws.rounds.rounds_of_two_sockets_deliver.Goals as goal

pub loop-round-init : goal.loop-round-init
loop-round-init c = record {
  out = c.requires.out;
  rings = c.requires.rings;
  out_there = c.requires.out_there;
  rings_there = c.requires.rings_there;
  going = λ h t run may. going_first c.args.here.now c.args.there.now c.args.outgoing.now c.args.incoming.now c.args.answers.now c.args.text.now h t c.args.rounds.now run may;
}

pub loop-round-preserved : goal.loop-round-preserved
loop-round-preserved c =
    let l = c.loop-round in
    let it = c.a_round_of_two_sockets in
    let outgoing = c.args.outgoing.now in
    let answers = c.args.answers.now in
    record {
      out = it.ensures.out;
      rings = subst (λ (n : ℕ). InFits it.new.here.connection.receiving n) (sym it.auto.incoming) it.ensures.rings;
      out_there = it.ensures.out_there;
      rings_there = subst (λ (n : ℕ). InFits it.new.there.connection.receiving n) (sym it.auto.text) it.ensures.rings_there;
      going = λ h t run may.
          let g = l.invariant.going h t run may in
          let some = some_left l.here l.there outgoing l.incoming answers l.text h t _ l.round-index _ c.waiting.result l.invariant.out g (c.waiting.ensures _ l.invariant.out) c.if-waiting-eq0.false in
          going_more l.here it.new.here l.there it.new.there outgoing l.incoming it.new.incoming answers l.text it.new.text h t c.args.rounds.now l.round-index _ _ c.loop-round-test.true some l.invariant.rings_there it.auto.text
          it.ensures.goes g;
    }

pub returns-then-waiting-eq0 : goal.returns-then-waiting-eq0
returns-then-waiting-eq0 c = λ h t run may enough.
    let l = c.loop-round in
    all_came l.here l.there c.args.outgoing.now l.incoming c.args.answers.now l.text h t _ l.round-index _ (l.invariant.going h t run may) (none_left l.here c.waiting.result (c.waiting.ensures _ l.invariant.out) c.if-waiting-eq0.true)

pub returns : goal.returns
returns c = λ h t run may enough.
    let l = c.loop-round in
    let g = l.invariant.going h t run may in
    all_came l.here l.there c.args.outgoing.now l.incoming c.args.answers.now l.text h t _ l.round-index _ g (none_after l.here l.there c.args.outgoing.now l.incoming c.args.answers.now l.text h t _ l.round-index _ g (omega (arith, enough, c.loop-round-test.false)))
