use Rattle.std.proofs.Common.{◌<◌, ◌∙◌, ◌++◌, [], ◌∷◌, ap, arith, drop, length, refl}
use Rattle.std.proofs.lemmas.Grind.{common_steps}
use Rattle.wire_tcp_options.proofs.Items.{IsItem_bare, first_cell, take_left}
use Rattle.wire_tcp_options.proofs.OptionLists.{one_more, shorter, stuck}
use Rattle.wire_tcp_options.proofs.Summaries.{noted, on_err}
use Rattle.wire_tcp_options.specs.TcpItems.{item}
use Rattle.wire_tcp_options.proofs.tcp.summary.summarize.Goals as goal

pub loop-rest-init : goal.loop-rest-init
loop-rest-init c = ([], record { each = tt; joined_is = refl }, refl, refl)

pub returns-in_err-next-clause-err : goal.returns-in_err-next-clause-err
returns-in_err-next-clause-err c =
    let seen = c.loop-rest.invariant in
    let some : 0 < length c.loop-rest.rest.now = grind (arith, common_steps) in
    on_err _ (stuck c.args.options.now seen.0 c.loop-rest.rest.now seen.1 some c.in_err-next.ensures.err)

pub loop-rest-preserved-then-kind-eq-OPT_NOP : goal.loop-rest-preserved-then-kind-eq-OPT_NOP
loop-rest-preserved-then-kind-eq-OPT_NOP c =
    let seen = c.loop-rest.invariant in
    let b = c.loop-rest.rest.now in
    let some : 0 < length b = grind (arith, common_steps) in (
      seen.0 ++ item 1 [] ∷ [],
      one_more c.args.options.now seen.0 (item 1 []) b _ seen.1 IsItem_bare (rw take_left (first_cell b some ∙ ap (λ x. x ∷ drop 1 b) c.if-kind-eq-OPT_NOP.true)),
      noted _ seen.0 (item 1 []) 1 seen.2 refl,
      seen.3,
    )

pub loop-rest-preserved : goal.loop-rest-preserved
loop-rest-preserved c =
    let seen = c.loop-rest.invariant in
    let split = c.in_ok-next.ensures.ok in (
      seen.0 ++ _ ∷ [],
      one_more c.args.options.now seen.0 _ c.loop-rest.rest.now c.in_ok-next.next.now seen.1 split.0 split.1,
      c.note.ensures.values seen.0 seen.2,
      c.note.ensures.whole seen.3,
    )

pub loop-rest-smaller : goal.loop-rest-smaller
loop-rest-smaller c = shorter _ c.loop-rest.rest.now c.in_ok-next.next.now c.in_ok-next.ensures.ok.1

pub summary-requires : goal.summary-requires
summary-requires c = c.loop-rest.invariant.3
