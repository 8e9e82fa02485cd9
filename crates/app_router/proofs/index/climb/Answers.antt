use Rattle.std.proofs.Common.{◌≡◌, ◌-◌, ◌<◌, ◌≤◌, length, get_or, arith, ap, subst}
use Rattle.std.proofs.lemmas.List.{get_or_default}
use Rattle.app_router.specs.Index.{Encloses, node_at, node_with}
use Rattle.app_router.specs.declared.index.Node.{Node}
use Rattle.app_router.proofs.Climbs.{climbs}
use Rattle.app_router.proofs.Splits.{unread}
use Rattle.app_router.proofs.index.climb.Goals as goal

pub loop-from-preserved : goal.loop-from-preserved
loop-from-preserved c =
    let nodes = c.args.nodes.now in
    let inner = c.args.inner.now in
    let from = c.loop-from.from in
    let start = c.args.start in
    let node = get_or nodes (from - 1) unread in
    let low : from ≤ start = c.loop-from.invariant.within in
    let some : 0 < from = c.loop-from-test.true in
    let high : start ≤ length nodes = c.requires in
    let below : from - 1 < length nodes = omega (arith, low, some, high) in
    let same : node ≡ node_at nodes (from - 1) = get_or_default nodes (from - 1) unread (node_with 0 0 0 0) below in
    let less : node.above < from = c.if-above-from.false in
    let apart : ¬ Encloses node inner = λ h. let t = c.encloses.ensures.1 h in let f = c.if-encloses.false in absurd (cc) in
    record {
      within = omega (arith, less, low);
      nearest = λ sorted linked places.
          climbs nodes node.above from start inner some low high sorted linked places (subst (λ n. ¬ Encloses n inner) same apart)
          (ap (λ (n : Node). n.above) same) (c.loop-from.invariant.nearest sorted linked places);
    }
