use Rattle.std.proofs.Common.{ℕ, ◌<◌, ◌≤◌}
use Rattle.std.specs.List.Sorted.{IsNonDecreasingBy}
use Rattle.app_router.specs.Index.{AreLinked, IsNearest, node_at, place}
use Rattle.app_router.proofs.index.climb.Given as goal

abbrev pub invariant-loop-from : goal.invariant-loop-from
invariant-loop-from l = record {
  within : l.from ≤ l.start;
  nearest : IsNonDecreasingBy place l.nodes → AreLinked l.nodes l.start → ((k : ℕ) → k < l.start → place (node_at l.nodes k) ≤ place l.inner)
      → IsNearest l.nodes l.from l.start l.inner;
}

abbrev pub decreases-loop-from : goal.decreases-loop-from
decreases-loop-from l = l.from
