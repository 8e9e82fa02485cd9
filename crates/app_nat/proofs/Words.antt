-- Words of two bytes in a list.
use Rattle.std.proofs.Common.{ℕ, ◌≡◌, ◌<◌, ◌+◌, ◌*◌, ◌/◌, ◌%◌, ◌^◌, List, ◌∷◌, arith}

-- a word in front of the rest
abbrev pub word : ℕ → List ℕ → List ℕ
word x rest = x / 256 % 256 ∷ x % 256 ∷ rest

-- the number of two bytes, as a 16-bit field
abbrev pub spelled : ℕ → ℕ → ℕ
spelled a b = (a * 256 ^ 1 + (b * 256 ^ 0 + 0)) / 2 ^ 0 % 2 ^ 16

-- the two bytes of a 16-bit number spell it
pub spelled-word : (x : ℕ) → x < 65536 → spelled (x / 256 % 256) (x % 256) ≡ x
spelled-word x fits = omega arith

-- the high byte of a spelled number
pub high-spelled : (a b : ℕ) → a < 256 → b < 256 → a ≡ spelled a b / 256 % 256
high-spelled a b f g = omega arith

-- the low byte of a spelled number
pub low-spelled : (a b : ℕ) → a < 256 → b < 256 → b ≡ spelled a b % 256
low-spelled a b f g = omega arith

-- two bytes spell a number below 65536
pub spelled-fits : (a b : ℕ) → spelled a b < 65536
spelled-fits a b = omega arith
