-- Which bits a field has: the definitions at worked values, and what they leave out.
use Rattle.std.proofs.Common.{ℕ, ◌≤◌, ◌<◌, ◌+◌, ◌⊎◌, inl, inr, List, [], ◌∷◌, arith}
use Rattle.std.proofs.lemmas.Bool.{cases_lt}
use Rattle.net_base.specs.Field.{IsApart, IsField, IsOutside}

-- ---- fields of two bytes

abbrev two : List ℕ
two = 0x12 ∷ 0x34 ∷ []

whole : IsField two 0 16
whole = record { some = omega arith; in_bounds = omega arith }

last-bit : IsField two 15 1
last-bit = record { some = omega arith; in_bounds = omega arith }

past-the_end : IsField two 16 1 → ⊥
past-the_end h = let bound = h.in_bounds in omega (arith, bound)

too-wide : IsField two 1 16 → ⊥
too-wide h = let bound = h.in_bounds in omega (arith, bound)

no-width : IsField two 3 0 → ⊥
no-width h = let some = h.some in omega (arith, some)

-- ---- bits and fields beside a field

-- each bit is outside a field or in it, and none is both
outside-or-inside : (first width i : ℕ) → IsOutside first width i ⊎ ((first ≤ i) × (i < first + width))
outside-or-inside first width i = elim (cases_lt i first) [
  | inl before ↦ inl (inl before)
  | inr from ↦ elim (cases_lt i (first + width)) [
    | inl in_it ↦ inr (from, in_it)
    | inr following ↦ inl (inr following)
  ]
]

outside-not_inside : (first width i : ℕ) → IsOutside first width i → first ≤ i → i < first + width → ⊥
outside-not_inside first width i (inl before) from to = omega (arith, before, from)
outside-not_inside first width i (inr following) from to = omega (arith, following, to)

-- two fields are apart exactly where no bit is in both
apart-no_bit : (first width other size i : ℕ) → IsApart first width other size → first ≤ i → i < first + width → other ≤ i → i < other + size → ⊥
apart-no_bit first width other size i (inl before) a b c d = omega (arith, before, a, d)
apart-no_bit first width other size i (inr following) a b c d = omega (arith, following, b, c)

no_bit-apart : (first width other size : ℕ) → 0 < width → 0 < size
    → ((i : ℕ) → first ≤ i → i < first + width → other ≤ i → i < other + size → ⊥) → IsApart first width other size
no_bit-apart first width other size w s none = elim (cases_lt first (other + size)) [
  | inl overlap ↦ elim (cases_lt other (first + width)) [
    | inl back ↦ elim (cases_lt first other) [
      | inl lower ↦ absurd (none other (omega (arith, lower)) back (omega arith) (omega (arith, s)))
      | inr upper ↦ absurd (none first (omega arith) (omega (arith, w)) upper overlap)
    ]
    | inr following ↦ inr following
  ]
  | inr before ↦ inl before
]
