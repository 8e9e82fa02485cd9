-- The sums of one, two and four bytes.
use Rattle.std.proofs.Common.{ℕ, ◌≡◌, ◌∙◌, ◌+◌, ◌*◌, ◌≤◌, List, [], ◌∷◌, ap, arith, length, slice_index, sym}
use Rattle.ip_wire.specs.WordSum.{residue, sum_of, sum_of_bytes, words}
use Rattle.ip_wire.proofs.Residues.{residue-small}

-- a byte is the high byte of a word
pub one_byte : (bytes : List ℕ) (r : ℕ) → length bytes ≡ 1 → r ≤ 65535 → r ≡ 256 * slice_index bytes 0 + 0 → r ≡ sum_of_bytes bytes
unfolding words
one_byte [] r len fits is = omega (arith, len)
one_byte (a ∷ []) r len fits is = let total : r ≡ 0 + 256 * a = omega (arith, is) in total ∙ sym (residue-small (0 + 256 * a) (omega (arith, total, fits)))
one_byte (a ∷ b ∷ rest) r len fits is = omega (arith, len)

-- two bytes are one word
pub two_bytes : (bytes : List ℕ) (r : ℕ) → length bytes ≡ 2 → r ≤ 65535 → r ≡ 256 * slice_index bytes 0 + slice_index bytes 1 → r ≡ sum_of_bytes bytes
unfolding words
two_bytes [] r len fits is = omega (arith, len)
two_bytes (a ∷ []) r len fits is = omega (arith, len)
two_bytes (a ∷ b ∷ []) r len fits is = let total : r ≡ 0 + (256 * a + b) = omega (arith, is) in total ∙ sym (residue-small (0 + (256 * a + b)) (omega (arith, total, fits)))
two_bytes (a ∷ b ∷ c ∷ rest) r len fits is = omega (arith, len)

-- four bytes are two words, s and t
pub four_bytes : (bytes : List ℕ) (s t : ℕ) → length bytes ≡ 4 → s ≡ 256 * slice_index bytes 0 + slice_index bytes 1
    → t ≡ 256 * slice_index bytes 2 + slice_index bytes 3 → sum_of (s ∷ t ∷ []) ≡ sum_of_bytes bytes
unfolding words
four_bytes [] s t len high low = absurd (omega (arith, len))
four_bytes (a ∷ []) s t len high low = absurd (omega (arith, len))
four_bytes (a ∷ b ∷ []) s t len high low = absurd (omega (arith, len))
four_bytes (a ∷ b ∷ c ∷ []) s t len high low = absurd (omega (arith, len))
four_bytes (a ∷ b ∷ c ∷ d ∷ []) s t len high low = ap residue (omega (arith, high, low))
four_bytes (a ∷ b ∷ c ∷ d ∷ e ∷ rest) s t len high low = absurd (omega (arith, len))
