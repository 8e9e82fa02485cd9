use Rattle.std.proofs.Common.{◌≡◌, ◌∙◌, ◌+◌, length, max, subst, sym, true≢false}
use Rattle.app_nat.proofs.Searches.{none-yet, stepped}
use Rattle.app_nat.specs.Table.{IsFree, port_after, ports}
use Rattle.app_nat.proofs.choice.free_in_row.Goals as goal

pub loop-rank-preserved : goal.loop-rank-preserved
loop-rank-preserved c =
    let count = ports c.args.nat.now (length c.args.mappings.now) in
    let is = c.loop-rank.invariant.0 in
    let at : c.from.result + c.loop-rank.index ≡ port_after c.args.nat.now count c.args.start c.args.step c.loop-rank.rank = λ i. c.from.ensures i + is i in
    let none : ¬ IsFree c.args.nat.now c.args.mappings.now c.args.now c.args.protocol (c.from.result + c.loop-rank.index) = λ held. true≢false (sym (c.if-has_expired.ensures.1 held)) in (
      (simp c.ports-count.ensures at c.next-index.ensures) ∙ stepped c.args.start c.args.step (max 1 count) c.loop-rank.rank c.loop-rank.index is,
      none-yet (IsFree c.args.nat.now c.args.mappings.now c.args.now c.args.protocol) (port_after c.args.nat.now count c.args.start c.args.step) c.loop-rank.rank c.loop-rank.invariant.1 (subst (λ x. ¬ IsFree c.args.nat.now c.args.mappings.now c.args.now c.args.protocol x) at none),
    )
