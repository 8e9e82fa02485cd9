use Rattle.std.proofs.Common.{ℕ, ◌+◌, ◌<◌, ◌≤◌, length}
use Rattle.app_router.proofs.HintPlaces.{AreLast, IsLast}
use Rattle.app_router.proofs.Links.{AreUnmarkedAlike}
use Rattle.app_router.specs.Hints.{IsBegin, IsUnhinted, hint_at, part_at, part_count, place_in}
use Rattle.app_router.proofs.index.hints.mark_version.Given as goal

abbrev pub invariant-loop-i : goal.invariant-loop-i
invariant-loop-i l = record {
  same : AreUnmarkedAlike l.nodes l.fn.nodes;
  bounded : (k : ℕ) → k < l.i → part_at l.nodes k < part_count (length l.nodes);
  last : IsUnhinted l.fn.nodes → AreLast l.nodes l.i;
}

abbrev pub invariant-loop-part : goal.invariant-loop-part
invariant-loop-part l = record {
  within : l.low ≤ length l.nodes;
  same : AreUnmarkedAlike l.nodes l.fn.nodes;
  bounded : (k : ℕ) → k < length l.nodes → part_at l.nodes k < part_count (length l.nodes);
  begins : IsUnhinted l.fn.nodes → IsBegin l.nodes l.part l.low;
  places : IsUnhinted l.fn.nodes → (p : ℕ) → p < l.part → IsBegin l.nodes p (place_in (length l.nodes) (hint_at l.nodes (p + 1)));
  last : IsUnhinted l.fn.nodes → (p : ℕ) → l.part ≤ p → p < part_count (length l.nodes) → IsLast l.nodes p (length l.nodes) (hint_at l.nodes (p + 1));
}
