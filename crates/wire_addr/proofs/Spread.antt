-- The groups with zeros between them, index by index.
use Rattle.std.proofs.Common.{◌≡◌, ℕ, ◌+◌, ◌-◌, ◌<◌, ◌≤◌, List, [], ◌∷◌, ◌++◌, length, get_or, take, drop, replicate, sym, ap₂, ◌∙◌, arith, length-append, length-drop, length-take-le}
use Rattle.std.proofs.lemmas.List.{get_or_append_left, get_or-append_right, get_or-replicate, get_or-take, length-replicate, take_more}
use Rattle.wire_addr.specs.Reading.{spread}
use Rattle.std.proofs.lemmas.Grind.{common_steps}
use Rattle.std.proofs.lemmas.Bool.Decides.{nat_tests}

module _ (groups : List ℕ) (len before i : ℕ) (few : len ≤ 8) (within : before ≤ len) (size : length groups ≡ 8) where
  abbrev pub seen : List ℕ
  seen = take len groups

  abbrev pub front : List ℕ
  front = take before seen ++ replicate (8 - length seen) 0

  length-seen : length seen ≡ len
  length-seen = length-take-le len groups (omega arith)

  length-head : length (take before seen) ≡ before
  length-head = length-take-le before seen (omega (arith, length-seen))

  length_front : length front ≡ before + (8 - len)
  length_front = omega (arith, length-seen, length-head, length-append (take before seen) (replicate {A = ℕ} (8 - length seen) 0), length-replicate {A = ℕ} (8 - length seen) 0)

  length-spread : length (spread before seen) ≡ 8
  length-spread = omega (arith, length-seen, length_front, length-append front (drop before seen), length-drop before seen)

  -- a group in front of the zeros
  pub spread-head : i < before → get_or groups i 0 ≡ get_or (spread before seen) i 0
  spread-head first = sym (get_or_append_left front (drop before seen) 0 i (omega (arith, length_front))
      ∙ get_or_append_left (take before seen) (replicate (8 - length seen) 0) 0 i (omega (arith, length-head))
      ∙ get_or-take before seen i 0 first ∙ get_or-take len groups i 0 (omega arith))

  -- a zero group
  pub spread-zeros : before ≤ i → i < before + (8 - len) → 0 ≡ get_or (spread before seen) i 0
  spread-zeros past inside = sym (get_or_append_left front (drop before seen) 0 i (omega (arith, length_front))
      ∙ get_or-append_right (take before seen) (replicate (8 - length seen) 0) before i 0 length-head past
      ∙ get_or-replicate (8 - length seen) (i - before) 0 0 (omega (arith, length-seen)))

  -- a group after the zeros
  pub spread-tail : before + (8 - len) ≤ i → i < 8 → get_or groups (i - (8 - len)) 0 ≡ get_or (spread before seen) i 0
  spread-tail past inside = grind (arith, common_steps, nat_tests)

  -- the first groups and the next one are one more of the first groups
  pub spread_more : (taken : List ℕ) (g : ℕ) → i < 8 → taken ≡ take i (spread before seen) → g ≡ get_or (spread before seen) i 0 → taken ++ g ∷ [] ≡ take (i + 1) (spread before seen)
  spread_more taken g inside is_front is_g = ap₂ (λ f x. f ++ x ∷ []) is_front is_g ∙ sym (take_more (spread before seen) i 0 (omega (arith, length-spread)))
