-- Texts that are written one after the other.
use Rattle.std.proofs.Common.{ℕ, ◌≡◌, ◌+◌, List, [], ◌∷◌, ◌++◌, length, get_or, take, drop, decimal, refl, sym, ap, subst, ◌∙◌, append_assoc, length-append, arith}
use Rattle.std.proofs.lemmas.List.{drop-drop, drop_at, take_at}
use Rattle.wire_addr.specs.Printed.{WritesAt, dotted}
use Rattle.std.proofs.lemmas.Grind.{common_steps}
use Rattle.std.proofs.lemmas.Bool.Decides.{nat_tests}

-- a text is written after a front that ends at an index
written_more : (old front out text new : List ℕ) (at end : ℕ) → WritesAt old front 0 out at → WritesAt out text at new end → WritesAt old (front ++ text) 0 new end
written_more old front out text new at end w more =
    let head : take at out ≡ front = ap (take at) w.bytes ∙ take_at front (drop at old) at (omega (arith, w.place)) in
    let rest : drop at out ≡ drop at old = ap (drop at) w.bytes ∙ drop_at front (drop at old) at (omega (arith, w.place)) in
    let far : end ≡ at + length text = more.place in
    let following : drop (at + length text) out ≡ drop (at + length text) old =
    sym (drop-drop (length text) at out) ∙ ap (drop (length text)) rest ∙ drop-drop (length text) at old in
    record {
      bytes = more.bytes ∙ rw (head, far, following) refl;
      place = omega (arith, far, w.place, length-append front text);
    }

-- the elements of a list of four
four : (l : List ℕ) → length l ≡ 4 → l ≡ get_or l 0 0 ∷ get_or l 1 0 ∷ get_or l 2 0 ∷ get_or l 3 0 ∷ []
four l e = grind (arith, common_steps, nat_tests)

dotted_joined : (a b c d : ℕ) → (((((decimal a ++ 46 ∷ []) ++ decimal b) ++ 46 ∷ []) ++ decimal c) ++ 46 ∷ []) ++ decimal d ≡ dotted (a ∷ b ∷ c ∷ d ∷ [])
dotted_joined a b c d = simp append_assoc

-- four numbers and three dots
pub dotted_written : (octets old o₁ o₂ o₃ o₄ o₅ o₆ o₇ : List ℕ) (e₁ e₂ e₃ e₄ e₅ e₆ e₇ : ℕ) → length octets ≡ 4
    → WritesAt old (decimal (get_or octets 0 0)) 0 o₁ e₁ → WritesAt o₁ (46 ∷ []) e₁ o₂ e₂
    → WritesAt o₂ (decimal (get_or octets 1 0)) e₂ o₃ e₃ → WritesAt o₃ (46 ∷ []) e₃ o₄ e₄
    → WritesAt o₄ (decimal (get_or octets 2 0)) e₄ o₅ e₅ → WritesAt o₅ (46 ∷ []) e₅ o₆ e₆
    → WritesAt o₆ (decimal (get_or octets 3 0)) e₆ o₇ e₇ → WritesAt old (dotted octets) 0 o₇ e₇
dotted_written octets old o₁ o₂ o₃ o₄ o₅ o₆ o₇ e₁ e₂ e₃ e₄ e₅ e₆ e₇ size w₁ w₂ w₃ w₄ w₅ w₆ w₇ =
    let two = written_more old _ o₁ (46 ∷ []) o₂ e₁ e₂ w₁ w₂ in
    let three = written_more old _ o₂ _ o₃ e₂ e₃ two w₃ in
    let four_texts = written_more old _ o₃ (46 ∷ []) o₄ e₃ e₄ three w₄ in
    let five = written_more old _ o₄ _ o₅ e₄ e₅ four_texts w₅ in
    let six = written_more old _ o₅ (46 ∷ []) o₆ e₅ e₆ five w₆ in
    let seven = written_more old _ o₆ _ o₇ e₆ e₇ six w₇ in
    subst (λ (text : List ℕ). WritesAt old text 0 o₇ e₇) (dotted_joined _ _ _ _ ∙ ap dotted (sym (four octets size))) seven
