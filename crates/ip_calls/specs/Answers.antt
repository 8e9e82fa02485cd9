-- The answer of the program to a text.
-- Pinned by: `calls/eth`, `calls/ip`, `calls/endpoint`
use Rattle.std.specs.Prelude.{ℕ, ◌≡◌, ◌⊎◌, List, ◌++◌, codes, Option, IfSome, Result, Ok, Err, IsUtf8}

-- `ok` and the printed text of the value that the bytes parse as; `err` if they are not UTF-8 or do not parse
abbrev pub IsAnswer : {A E : Type 0} → (List ℕ → Result A E → Type 0) → (A → Option (List ℕ)) → List ℕ → List ℕ → Type 0
IsAnswer {A} {E} gives output bytes answer =
    ((value : A) × IsUtf8 bytes × gives bytes (Ok value) × IfSome (output value) (λ text. answer ≡ codes "ok " ++ text))
    ⊎ ((IsUtf8 bytes → (e : E) × gives bytes (Err e)) × (answer ≡ codes "err"))
