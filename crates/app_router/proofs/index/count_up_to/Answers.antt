use Rattle.std.proofs.Common.{ℕ, ◌+◌, ◌-◌, ◌/◌, ◌<◌, length, get_or, inl, inr, arith}
use Rattle.std.proofs.lemmas.Bool.{cases_lt}
use Rattle.app_router.specs.Index.{place}
use Rattle.app_router.proofs.Splits.{split_after, unread}
use Rattle.app_router.proofs.index.count_up_to.Goals as goal

pub loop-low-preserved : goal.loop-low-preserved
loop-low-preserved c =
    let nodes = c.args.nodes.now in
    let target = c.args.target.now in
    let kept = c.loop-low.invariant in
    let middle : ℕ = c.loop-low.low + (c.loop-low.high - c.loop-low.low) / 2 in
    let less : c.loop-low.low < c.loop-low.high = c.loop-low-test.true in
    let inside : middle < c.loop-low.high = omega (arith, less) in
    let below : middle < length nodes = omega (arith, inside, kept.within) in
    let following : place target < place (get_or nodes middle unread) = elim (cases_lt (place target) (place (get_or nodes middle unread))) [
      | inl less ↦ less
      | inr other ↦ absurd (let t = c.is_up_to.ensures.1 other in let f = c.if-is_up_to.false in cc)
    ] in
    record {
      order = omega arith;
      within = omega (arith, below);
      split = λ sorted. ((kept.split sorted).0, split_after nodes middle target sorted below following);
    }
