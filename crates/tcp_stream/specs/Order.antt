-- The order of ranges of offsets. An unused range has the largest offset as both ends, and comes after all others.
-- Pinned by: `tcp/stream`
use Rattle.std.specs.Prelude.{ℕ, ◌+◌, ◌≤◌, min}
use Rattle.std.proofs.Props.{props}

-- a range has an offset, or is unused
unfoldable pub IsRange : ℕ → ℕ → Type 0
IsRange from to = (min 4294967295 (from + 1) ≤ to) × ((from ≤ to) × (to ≤ 4294967295))

-- a range that ends at `to` is before one that begins at `from`, and an offset between them is not kept; or both are unused
unfoldable pub AreApart : ℕ → ℕ → Type 0
AreApart to from = min 4294967295 (to + 1) ≤ from

-- both are facts
pub is_range-prop : (from to : ℕ) → Prim.IsProp (IsRange from to)
unfolding IsRange
is_range-prop from to = Prim.hlevel props

-- that each range ends before the next one is a proposition
pub are_apart-prop : (to from : ℕ) → Prim.IsProp (AreApart to from)
unfolding AreApart
are_apart-prop to from = Prim.hlevel props
