use Rattle.std.specs.List.Sorted.{IsNonDecreasingBy}
use Rattle.app_router.proofs.Links.{AreAlike}
use Rattle.std.proofs.Common.{ℕ, ◌≡◌, ◌<◌}
use Rattle.app_router.specs.Hints.{hint_at}
use Rattle.app_router.specs.Index.{AreLinked, place}
use Rattle.app_router.proofs.index.link.Given as goal

abbrev pub invariant-loop-i : goal.invariant-loop-i
invariant-loop-i l = record {
  same : AreAlike l.nodes l.fn.nodes;
  none : (k : ℕ) → k < l.i → hint_at l.nodes k ≡ 0;
  linked : IsNonDecreasingBy place l.fn.nodes → AreLinked l.nodes l.i;
}
