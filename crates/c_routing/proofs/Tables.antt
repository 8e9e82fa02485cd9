-- The part of a table that is used: all of it, or nothing if it is too long.
use Rattle.std.proofs.Common.{ℕ, ◌≡◌, ◌∙◌, ◌∷◌, ◌++◌, ◌⊎◌, ◌<◌, ◌≤◌, List, [], ap, append-nil, arith, drop, inl, inr, length, refl, rules, subst, sym, take, take_all}
use Rattle.std.proofs.lemmas.Bool.{cases_lt}
use Rattle.std.proofs.lemmas.List.{drop_all}
use Rattle.c_structs.specs.Written.{max_len, usable}
use Rattle.c_routing.specs.Lengths.{in_bounds}

-- ---- lengths

pub usable-itself : (n : ℕ) → n ≤ max_len → usable n ≡ n
unfolding usable
usable-itself n fits = search rules

usable-nothing : (n : ℕ) → max_len < n → usable n ≡ 0
unfolding usable
usable-nothing n long = search rules

pub in_bounds-itself : {A : Type 0} (list : List A) → length list ≤ max_len → in_bounds list ≡ list
unfolding in_bounds
in_bounds-itself list fits = search rules

pub in_bounds-nothing : {A : Type 0} (list : List A) → max_len < length list → in_bounds list ≡ []
unfolding in_bounds
in_bounds-nothing list long = search rules

no-elements : {A : Type 0} (list : List A) → length list ≡ 0 → list ≡ []
no-elements [] is = refl
no-elements (x ∷ xs) is = absurd (omega (arith, is))

-- ---- the part

-- the whole table is used
pub record IsUsed {A : Type 0} (old part new : List A) (k : ℕ) : Type 0 where
  pub fits : length old ≤ max_len
  pub whole : take k old ≡ old
  pub becomes : new ≡ part

-- nothing of it is used, and it stays
pub record IsUnused {A : Type 0} (old part new : List A) (k : ℕ) : Type 0 where
  pub long : max_len < length old
  pub nothing : take k old ≡ []
  pub stays : new ≡ old

pub parts : {A : Type 0} (old part : List A) (k : ℕ) → k ≡ usable (length old) → length part ≡ k
    → IsUsed old part (part ++ drop k old) k ⊎ IsUnused old part (part ++ drop k old) k
parts old part k is same = elim (cases_lt max_len (length old)) [
  | inl long ↦
      let none : k ≡ 0 = is ∙ usable-nothing (length old) long in
      inr (record {
        long = long;
        nothing = ap (λ n. take n old) none;
        stays = ap (λ l. l ++ drop k old) (no-elements part (same ∙ none)) ∙ ap (λ n. [] ++ drop n old) none;
      })
  | inr fits ↦
      let all : k ≡ length old = is ∙ usable-itself (length old) fits in
      inl (record {
        fits = fits;
        whole = ap (λ n. take n old) all ∙ take_all (length old) old (omega arith);
        becomes = ap (λ n. part ++ drop n old) all ∙ ap (λ l. part ++ l) (drop_all (length old) old (omega arith)) ∙ append-nil part;
      })
]

-- the part is the table in its bounds
pub part-before : {A : Type 0} (old part new : List A) (k : ℕ) → IsUsed old part new k ⊎ IsUnused old part new k → take k old ≡ in_bounds old
part-before old part new k (inl used) = used.whole ∙ sym (in_bounds-itself old used.fits)
part-before old part new k (inr unused) = unused.nothing ∙ sym (in_bounds-nothing old unused.long)

-- so is the new part
pub part-after : {A : Type 0} (old part new : List A) (k : ℕ) → k ≡ usable (length old) → length part ≡ k
    → IsUsed old part new k ⊎ IsUnused old part new k → part ≡ in_bounds new
part-after old part new k is same (inl used) =
    let short : length new ≤ max_len = subst (λ n. n ≤ max_len) (sym (ap length used.becomes ∙ same ∙ is ∙ usable-itself (length old) used.fits)) used.fits in
    sym used.becomes ∙ sym (in_bounds-itself new short)
part-after old part new k is same (inr unused) =
    no-elements part (same ∙ is ∙ usable-nothing (length old) unused.long)
    ∙ sym (ap in_bounds unused.stays ∙ in_bounds-nothing old unused.long)

-- an unchanged part leaves the table unchanged
pub part-stays : {A : Type 0} (old part new : List A) (k : ℕ) → IsUsed old part new k ⊎ IsUnused old part new k → part ≡ take k old → new ≡ old
part-stays old part new k (inl used) same = used.becomes ∙ same ∙ used.whole
part-stays old part new k (inr unused) same = unused.stays

-- what the part keeps, the table keeps
pub part-keeps : {A : Type 0} (P : List A → Type 0) (old part new : List A) (k : ℕ) → IsUsed old part new k ⊎ IsUnused old part new k
    → (P (take k old) → P part) → P old → P new
part-keeps P old part new k (inl used) keeps holds = subst P (sym used.becomes) (keeps (subst P (sym used.whole) holds))
part-keeps P old part new k (inr unused) keeps holds = subst P (sym unused.stays) holds

-- what becomes of the part, becomes of the table
pub part-becomes : {A : Type 0} (R : List A → List A → Type 0) (old part new : List A) (k : ℕ) → IsUsed old part new k ⊎ IsUnused old part new k
    → R (take k old) part → length old ≤ max_len → R old new
part-becomes R old part new k (inl used) holds fits = subst (λ l. R l new) used.whole (subst (R (take k old)) (sym used.becomes) holds)
part-becomes R old part new k (inr unused) holds fits = let long = unused.long in absurd (omega (arith, fits, long))

pub stays-beyond : {A : Type 0} (old part new : List A) (k : ℕ) → IsUsed old part new k ⊎ IsUnused old part new k → max_len < length old → new ≡ old
stays-beyond old part new k (inl used) long = let fits = used.fits in absurd (omega (arith, fits, long))
stays-beyond old part new k (inr unused) long = unused.stays
