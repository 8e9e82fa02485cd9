use Rattle.std.proofs.Common.{ℕ, ◌-◌, ◌<◌, ◌≤◌, length, get_or, inl, inr, arith}
use Rattle.std.proofs.lemmas.Bool.{cases_lt}
use Rattle.app_router.specs.Index.{node_at, place}
use Rattle.app_router.proofs.Splits.{split_before, split_after, unread}
use Rattle.app_router.proofs.index.splits.Goals.{else-low-gt0-via-then-low-gt0+else-not-is_up_to, else-low-gt0-via-else-low-gt0, else-high-nodes-2-via-then-high-nodes-2+else-is_up_to, else-high-nodes-2-via-else-high-nodes-2}
use Rattle.app_router.proofs.index.splits.Goals as goal

pub returns-clause-split : goal.returns-clause-split
returns-clause-split c t sorted =
    let nodes = c.args.nodes.now in
    let target = c.args.target.now in
    let low = c.args.low in
    let high = c.args.high in
    let order : low ≤ high = c.if-low-high.false in
    let within : high ≤ length nodes = c.if-high-nodes.false in
    let before : (k : ℕ) → k < low → place (node_at nodes k) ≤ place target = elim c.else-low-gt0.branch [
      | else-low-gt0-via-then-low-gt0+else-not-is_up_to w ↦
          let some : 0 < low = w.if-low-gt0.true in
          let up : place (get_or nodes (low - 1) unread) ≤ place target = w.is_up_to.ensures.0 w.if-not-is_up_to.false in
          λ k below. split_before nodes (low - 1) target sorted (omega (arith, some, order, within)) up k (omega (arith, below))
      | else-low-gt0-via-else-low-gt0 w ↦ λ k below. absurd (let none = w.if-low-gt0.false in omega (arith, none, below))
    ] in
    let following : (k : ℕ) → high ≤ k → k < length nodes → place target < place (node_at nodes k) = elim c.else-high-nodes-2.branch [
      | else-high-nodes-2-via-then-high-nodes-2+else-is_up_to w ↦
          let inside : high < length nodes = w.if-high-nodes-2.true in
          let up : place target < place (get_or nodes high unread) = elim (cases_lt (place target) (place (get_or nodes high unread))) [
            | inl less ↦ less
            | inr other ↦ absurd (let t = w.is_up_to-then-high-nodes-2.ensures.1 other in let f = w.if-is_up_to.false in cc)
          ] in
          split_after nodes high target sorted inside up
      | else-high-nodes-2-via-else-high-nodes-2 w ↦ λ k above below. absurd (let none = w.if-high-nodes-2.false in omega (arith, none, above, below))
    ] in
    (before, following)
