-- Bytes that are written to the front of a slice.
use Rattle.std.proofs.Common.{◌≡◌, ◌∙◌, ℕ, ◌+◌, ◌≤◌, List, [], ◌++◌, drop, length, length-drop, take, ap, append-nil, arith}
use Rattle.std.proofs.lemmas.Grind.{common_steps}

-- a header that fills the front of a slice
header_only : (header old written : List ℕ) (size : ℕ) → size ≤ length old → written ≡ header ++ drop size (take size old) → written ≡ header
header_only header old written size room e =
    let none : drop size (take size old) ≡ [] = grind (arith, common_steps) in
    e ∙ ap (λ rest. header ++ rest) none ∙ append-nil header

joined : (header inner old front carried : List ℕ) (size len : ℕ) → size ≤ length old → len ≤ length (drop size old)
    → front ≡ header → carried ≡ inner ++ drop len (drop size old) → front ++ carried ≡ (header ++ inner) ++ drop (size + len) old
joined header inner old front carried size len room fits is below = grind (arith, common_steps)

-- a header and what it carries are at the front of a slice if the header fills its own part and what it carries is at the
-- front of the rest
pub placed_after : (header inner old front written carried : List ℕ) (size len : ℕ) → size ≤ length old → len ≤ length (drop size old)
    → front ≡ written → written ≡ header ++ drop size (take size old) → carried ≡ inner ++ drop len (drop size old)
    → (size + len ≤ length old) × (front ++ carried ≡ (header ++ inner) ++ drop (size + len) old)
placed_after header inner old front written carried size len room fits is filled below =
    let single = is ∙ header_only header old written size room filled in
    let rest = length-drop size old in
    (omega (arith, room, fits, rest), joined header inner old front carried size len room fits single below)
