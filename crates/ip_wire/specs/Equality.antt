-- What `==` means.
use Rattle.std.specs.Prelude.{Bool, ◌≡◌, ◌↔◌, true}

-- the comparison returns true exactly for equal values
abbrev pub IsEquality : {T : Type 0} → (T → T → Bool) → Type 0
IsEquality {T} eq = (a b : T) → (eq a b ≡ true) ↔ (a ≡ b)
