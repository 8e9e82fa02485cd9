-- A table of digits, checked entry by entry.
use Rattle.std.proofs.Common.{◌≡◌, ℕ, zero, suc, ◌+◌, ◌<◌, ◌==◌, ◌&&◌, Bool, true, List, [], ◌∷◌, length, get_or, min, ap, ◌∙◌, arith, eqb-true}
use Rattle.std.proofs.lemmas.Bool.{and_parts}
use Rattle.std.specs.Char.{digit_value}

abbrev pub are_digits : ℕ → List ℕ → Bool
are_digits i [] = true
are_digits i (d ∷ digits) = (d == min 16 (digit_value i)) && are_digits (i + 1) digits

digit_at : (i k : ℕ) (digits : List ℕ) → are_digits i digits ≡ true → k < length digits → get_or digits k 0 ≡ min 16 (digit_value (i + k))
digit_at i k [] all within = absurd (omega arith)
digit_at i zero (d ∷ digits) all within =
    let place : i ≡ i + 0 = omega arith in
    eqb-true _ _ (and_parts _ _ all).0 ∙ ap (λ n. min 16 (digit_value n)) place
digit_at i (suc k) (d ∷ digits) all within =
    let place : i + 1 + k ≡ i + suc k = omega arith in
    digit_at (i + 1) k digits (and_parts _ _ all).1 (omega arith) ∙ ap (λ n. min 16 (digit_value n)) place

-- an entry of a checked table is the value of its digit
pub digit_of : (digits : List ℕ) (k : ℕ) → k < 256 → length digits ≡ 256 → are_digits 0 digits ≡ true → get_or digits k 0 ≡ min 16 (digit_value k)
digit_of digits k within size all =
    let place : 0 + k ≡ k = omega arith in
    digit_at 0 k digits all (omega arith) ∙ ap (λ n. min 16 (digit_value n)) place
