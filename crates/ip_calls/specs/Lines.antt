-- The lines of the program's input.
use Rattle.std.specs.Prelude.{◌==◌, ℕ, if◌then◌else◌, List, [], ◌∷◌, length, slice_index, take, ◌-◌}
use Rattle.std.specs.List.{slice_split}

-- a text without the line feed at its end, if it has one
abbrev pub without_last_feed : List ℕ → List ℕ
without_last_feed text =
    if slice_index text (length text - 1) == 10 then take (length text - 1) text else text

-- the lines of a text: the pieces between its line feeds, unchanged; a last line needs no line feed
abbrev pub lines : List ℕ → List (List ℕ)
lines [] = []
lines (b ∷ bs) = slice_split (λ b. b == 10) (without_last_feed (b ∷ bs))
