-- Bytes in a buffer that is used as a ring.
-- Pinned by: `tcp/stream`
use Rattle.std.specs.Prelude.{ℕ, List, ◌++◌, take, drop, length}

-- the bytes of a buffer in the order of the ring that begins at `start`
abbrev pub ring : ℕ → List ℕ → List ℕ
ring start buffer = drop start buffer ++ take start buffer

-- bytes with others written over them, from this place on
abbrev pub placed : ℕ → List ℕ → List ℕ → List ℕ
placed at new bytes = take at bytes ++ (new ++ drop (length new) (drop at bytes))
