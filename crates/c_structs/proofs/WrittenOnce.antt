-- A call has one result: what it returns, and what it stores and writes.
use Rattle.std.proofs.Common.{ℕ, ℤ, ◌≡◌, ◌∙◌, ◌⊎◌, ◌<◌, ◌++◌, List, Option, None, Some, inl, inr, drop, length, ap, arith, refl, sym}
use Rattle.std.proofs.lemmas.Bool.{cases_lt}
use Rattle.c_structs.specs.Written.{Answers, Fills, Writes, WritesBytes, max_len}
use Rattle.c_structs.specs.declared.failures.Failure.{Failure}

-- ---- questions and texts

answers-once : (Fact : Type 0) (a b : ℤ) → Answers Fact a → Answers Fact b → a ≡ b
answers-once Fact a b (inl (one, fact)) (inl (also, again)) = one ∙ sym also
answers-once Fact a b (inl (one, fact)) (inr (zero, never)) = absurd (never fact)
answers-once Fact a b (inr (zero, never)) (inl (one, fact)) = absurd (never fact)
answers-once Fact a b (inr (zero, never)) (inr (also, again)) = zero ∙ sym also

-- ---- bytes

fills-once : (bytes : Option (List ℕ)) (old new other : List ℕ) (a b : Option ℕ) → Fills bytes old new a → Fills bytes old other b → (a ≡ b) × (new ≡ other)
fills-once None old new other a b (none, stays) (also, same) = (none ∙ sym also, stays ∙ sym same)
fills-once (Some bytes) old new other None None (short, stays) (also, same) = (refl, stays ∙ sym same)
fills-once (Some bytes) old new other None (Some n) (short, stays) (size, fits, is) = absurd (omega (arith, short, size, fits))
fills-once (Some bytes) old new other (Some n) None (size, fits, is) (short, stays) = absurd (omega (arith, short, size, fits))
fills-once (Some bytes) old new other (Some n) (Some m) (size, fits, is) (also, room, same) =
    let count : n ≡ m = size ∙ sym also in (ap Some count, is ∙ ap (λ k. bytes ++ drop k old) count ∙ sym same)

-- bytes that are written if they fit
slice-once : (bytes : List ℕ) (len : ℕ) (why : Option Failure) (old new other : List ℕ) (a b : ℤ) → WritesBytes bytes len why old new a
    → WritesBytes bytes len why old other b → (a ≡ b) × (new ≡ other)
slice-once bytes len why old new other a b v w = elim (cases_lt (length old) (length bytes)) [
  | inl less ↦ not-written (inl less)
  | inr room ↦ elim (cases_lt max_len (length old)) [
    | inl long ↦ not-written (inr long)
    | inr fits ↦
        let (is, written) = v.fits room fits in
        let (also, same) = w.fits room fits in
        (is ∙ sym also, written ∙ sym same)
  ]
]
  where
    not-written : (length old < length bytes) ⊎ (max_len < length old) → (a ≡ b) × (new ≡ other)
    not-written less =
        let (is, stays) = v.no_room less in
        let (also, same) = w.no_room less in
        (is ∙ sym also, stays ∙ sym same)

pub writes-once : (bytes : Option (List ℕ)) (why : Option Failure) (old new other : List ℕ) (a b : ℤ) → Writes bytes why old new a
    → Writes bytes why old other b → (a ≡ b) × (new ≡ other)
writes-once None why old new other a b (none, stays) (also, same) = (none ∙ sym also, stays ∙ sym same)
writes-once (Some bytes) why old new other a b v w = slice-once bytes (length bytes) why old new other a b v w
