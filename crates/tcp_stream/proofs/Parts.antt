-- Parts of a list that grows.
use Rattle.std.proofs.Common.{◌≡◌, refl, ℕ, ◌+◌, ◌-◌, ◌≤◌, ◌<◌, List, [], ◌++◌, length, get_or, take, drop, sym, ◌∙◌, ap, arith, length-append, length-drop}
use Rattle.std.proofs.lemmas.List.{get_or_append_left, get_or-take, get_or-drop, get_or-append_right, length-take, length-take-le, get_or_default, same_lists}
use Rattle.std.proofs.lemmas.Bool.{cases_lt}
use mathlib.Core.Logic.{inl, inr}
use Rattle.tcp_stream.specs.Endpoint.{Item, Syn}

pub record IsPart (stream : List Item) (place : ℕ) (items : List Item) : Type 0 where
  pub within : place + length items ≤ length stream
  pub same : (i : ℕ) → i < length items → get_or items i Syn ≡ get_or stream (place + i) Syn

pub part_grow : (s t : List Item) (p : ℕ) (xs : List Item) → IsPart s p xs → IsPart (s ++ t) p xs
part_grow s t p xs part = record {
  within = omega (arith, length-append s t, part.within);
  same = λ i h. part.same i h ∙ sym (get_or_append_left s t Syn (p + i) (omega (arith, part.within)));
}

pub part_nil : (s : List Item) (p : ℕ) → p ≤ length s → IsPart s p []
part_nil s p le = record { within = omega arith; same = λ i h. absurd (omega arith) }

pub part_drop : (s : List Item) (p : ℕ) (xs : List Item) (d : ℕ) → d ≤ length xs → IsPart s p xs → IsPart s (p + d) (drop d xs)
part_drop s p xs d le part = record {
  within = omega (arith, length-drop d xs, part.within);
  same = λ i h. get_or-drop d xs i Syn ∙ part.same (d + i) (omega (arith, length-drop d xs)) ∙ ap (λ (k : ℕ). get_or s k Syn) (let e : p + (d + i) ≡ p + d + i = omega arith in e);
}

pub part_take : (s : List Item) (p : ℕ) (xs : List Item) (n : ℕ) → IsPart s p xs → IsPart s p (take n xs)
part_take s p xs n part = record {
  within = omega (arith, length-take n xs, part.within);
  same = λ i h. get_or-take n xs i Syn (omega (arith, length-take n xs)) ∙ part.same i (omega (arith, length-take n xs));
}

pub part_append : (s xs ys : List Item) → IsPart s 0 xs → IsPart s (length xs) ys → IsPart s 0 (xs ++ ys)
part_append s xs ys a b = record {
  within = omega (arith, length-append xs ys, b.within);
  same = λ i h. elim (cases_lt i (length xs)) [
    | inl lt ↦ get_or_append_left xs ys Syn i lt ∙ a.same i lt
    | inr ge ↦ get_or-append_right xs ys (length xs) i Syn refl ge ∙ b.same (i - length xs) (omega (arith, length-append xs ys)) ∙ ap (λ (k : ℕ). get_or s k Syn) (let e : length xs + (i - length xs) ≡ 0 + i = omega arith in e)
  ];
}

-- what the sender cuts out of its stream
pub part_cut : (s : List Item) (p n : ℕ) → p ≤ length s → IsPart s p (take n (drop p s))
part_cut s p n le = part_take s p (drop p s) n (record {
  within = omega (arith, length-drop p s);
  same = λ i h. get_or-drop p s i Syn;
})

-- all of a part
pub part_at : (s xs : List Item) (p : ℕ) → IsPart s p xs → xs ≡ take (length xs) (drop p s)
part_at s xs p part =
    let long : length (take (length xs) (drop p s)) ≡ length xs = length-take-le (length xs) (drop p s) (omega (arith, part.within, length-drop p s)) in
    same_lists xs (take (length xs) (drop p s)) (sym long) (λ k d h.
    get_or_default xs k d Syn h ∙ part.same k h ∙ sym (get_or-drop p s k Syn) ∙ sym (get_or-take (length xs) (drop p s) k Syn h) ∙ get_or_default (take (length xs) (drop p s)) k Syn d (omega arith))

pub part_first : (s xs : List Item) → IsPart s 0 xs → xs ≡ take (length xs) s
part_first s xs part = part_at s xs 0 part
