use Rattle.std.proofs.Common.{ℕ, ◌≡◌, ◌<◌}
use Rattle.app_router.proofs.Links.{AreUnmarkedAlike}
use Rattle.app_router.specs.Hints.{hint_at}
use Rattle.app_router.proofs.index.hints.mark_divisions.Given as goal

abbrev pub invariant-loop-i : goal.invariant-loop-i
invariant-loop-i l = record {
  same : AreUnmarkedAlike l.nodes l.fn.nodes;
  others : (k : ℕ) → k < l.first → hint_at l.nodes k ≡ hint_at l.fn.nodes k;
}

abbrev pub invariant-loop-i-2 : goal.invariant-loop-i-2
invariant-loop-i-2 l = record {
  same : AreUnmarkedAlike l.nodes l.fn.nodes;
  others : (k : ℕ) → k < l.first → hint_at l.nodes k ≡ hint_at l.fn.nodes k;
}
