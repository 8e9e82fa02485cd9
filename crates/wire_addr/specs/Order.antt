-- The order of numbers with names.
-- Pinned by: `wire/orders`
use Rattle.std.specs.Prelude.{ℕ}
use Rattle.std.specs.Ordering.{nat_cmp, ordering_then}
use Rattle.std.specs.declared.cmp.Ordering.{Ordering}

-- the order of values that are numbers with or without a name: those with a name, for which is_unknown is 0, come
-- first; otherwise the numbers decide
abbrev pub named_cmp : {T : Type 0} → (T → ℕ) → (T → ℕ) → T → T → Ordering
named_cmp is_unknown number a b = ordering_then (nat_cmp (is_unknown a) (is_unknown b)) (nat_cmp (number a) (number b))
