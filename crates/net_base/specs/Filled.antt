-- What a call returns that writes to the front of a slice, or nothing.
-- Pinned by: `wire/frame`, `FrameOnce`
use Rattle.std.specs.Prelude.{ℕ, ◌≡◌, ◌≤◌, ◌<◌, ◌++◌, List, Option, MatchOption, drop, length}

-- the bytes, `len` of them, are at the front of the slice, and `len` is returned; if they do not fit, nothing is
-- returned and the slice is unchanged
abbrev pub Fills : List ℕ → ℕ → List ℕ → List ℕ → Option ℕ → Type 0
Fills bytes len old new result =
    MatchOption result ((length old < len) × (new ≡ old))
    (λ n. (n ≡ len) × (n ≤ length old) × (new ≡ bytes ++ drop n old))
