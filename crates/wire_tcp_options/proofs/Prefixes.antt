-- Joined texts, none of which is a prefix of another: of two such lists of the same bytes one is a prefix of the other.
use Rattle.std.proofs.Common.{ℕ, ◌≡◌, ◌⊎◌, inl, inr, List, [], ◌∷◌, ◌++◌, refl, sym, subst, ◌∙◌, append_assoc, arith}
use Rattle.std.specs.List.{AllByRecursion, flat_map}
use Rattle.std.proofs.lemmas.Grind.{flat_map-append}
use Rattle.std.proofs.lemmas.Grind.{common_steps}
use Rattle.std.proofs.lemmas.Bool.Decides.{nat_tests}

module _ {X : Type 0} (text : X → List ℕ) (Is : X → Type 0) where
  -- the texts of a list, joined
  abbrev pub joined : List X → List ℕ
  joined xs = flat_map text xs

  -- the bytes are the texts of these, followed by a rest
  pub record Walked (bytes : List ℕ) (xs : List X) (rest : List ℕ) : Type 0 where
    pub each : AllByRecursion Is xs
    pub joined_is : bytes ≡ joined xs ++ rest

  all-append : (xs ys : List X) → AllByRecursion Is xs → AllByRecursion Is ys → AllByRecursion Is (xs ++ ys)
  all-append [] ys xa ya = ya
  all-append (x ∷ xs) ys xa ya = (xa.0, all-append xs ys xa.1 ya)

  -- a walk continued by a walk over its rest
  pub walk_on : (bytes : List ℕ) (xs ys : List X) (r s : List ℕ) → Walked bytes xs r → Walked r ys s → Walked bytes (xs ++ ys) s
  walk_on bytes xs ys r s a b = grind (arith, common_steps, nat_tests, append_assoc, flat_map-append)

  -- the items that one list has beyond the other are at the front of the rest of the other
  pub record Goes (xs ys : List X) (r t : List ℕ) : Type 0 where
    pub more : List X
    pub each : AllByRecursion Is more
    pub longer : ys ≡ xs ++ more
    pub left : r ≡ joined more ++ t

  one_more : (x : X) (xs ys : List X) (r t : List ℕ) → Goes xs ys r t → Goes (x ∷ xs) (x ∷ ys) r t
  one_more x xs ys r t g = grind (arith, common_steps, nat_tests)

  module _ (apart : (x y : X) (a b : List ℕ) → Is x → Is y → text x ++ a ≡ text y ++ b → (x ≡ y) × (a ≡ b)) where
    compared : (xs ys : List X) (r t : List ℕ) → AllByRecursion Is xs → AllByRecursion Is ys → joined xs ++ r ≡ joined ys ++ t → Goes xs ys r t ⊎ Goes ys xs t r
    compared [] ys r t xa ya e = inl (record { more = ys; each = ya; longer = refl; left = e })
    compared (x ∷ xs) [] r t xa ya e = inr (record { more = x ∷ xs; each = xa; longer = refl; left = sym e })
    compared (x ∷ xs) (y ∷ ys) r t xa ya e =
        let p = apart x y (joined xs ++ r) (joined ys ++ t) xa.0 ya.0 (sym (append_assoc (text x) (joined xs) r) ∙ e ∙ append_assoc (text y) (joined ys) t) in
        let P : X → Type 0 = λ z. Goes (x ∷ xs) (z ∷ ys) r t ⊎ Goes (z ∷ ys) (x ∷ xs) t r in
        subst P p.0 (elim (compared xs ys r t xa.1 ya.1 p.1) [ inl g ↦ inl (one_more x xs ys r t g) | inr g ↦ inr (one_more x ys xs t r g) ])

    -- of two walks over the same bytes one continues the other
    pub walks_compared : (bytes : List ℕ) (xs ys : List X) (r t : List ℕ) → Walked bytes xs r → Walked bytes ys t → Goes xs ys r t ⊎ Goes ys xs t r
    walks_compared bytes xs ys r t a b = compared xs ys r t a.each b.each (sym a.joined_is ∙ b.joined_is)
