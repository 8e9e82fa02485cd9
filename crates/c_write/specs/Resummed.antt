-- A checksum from another one over the same payload.
use Rattle.std.specs.Prelude.{ℕ, ◌%◌, List, [], ◌∷◌}
use Rattle.ip_wire.specs.WordSum.{sum_of, sum_of_bytes, updated}

-- the checksum of a segment with a new header, from the header and the length of another segment with the same
-- payload and a correct checksum
abbrev pub resummed : List ℕ → ℕ → List ℕ → ℕ → ℕ
resummed old old_len new len =
    updated 0 (sum_of (sum_of_bytes old ∷ old_len % 65536 ∷ [])) (sum_of (sum_of_bytes new ∷ len % 65536 ∷ []))
