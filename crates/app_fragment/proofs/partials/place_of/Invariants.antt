use Rattle.std.proofs.Common.{ℕ, ◌<◌, ◌≤◌, length}
use Rattle.app_fragment.specs.Partials.{IsLiveOf, partial_at}
use Rattle.app_fragment.proofs.partials.place_of.Given as goal

abbrev pub invariant-loop-i : goal.invariant-loop-i
invariant-loop-i l = record {
  inside : l.first < length l.partials;
  none : (j : ℕ) → j < l.i → ¬ IsLiveOf l.now l.key (partial_at l.partials j);
  least : (j : ℕ) → j < l.i → (partial_at l.partials l.first).expires ≤ (partial_at l.partials j).expires;
  first : (j : ℕ) → j < l.first → (partial_at l.partials l.first).expires < (partial_at l.partials j).expires;
}
