use Rattle.std.proofs.Common.{◌≡◌, ◌<◌, ℕ, Some, length, slice_index}
use Rattle.hex.specs.Hex.{hex_digit_value}
use Rattle.hex_digits.proofs.Digits.new.Given as goal

abbrev pub invariant-bytes : goal.invariant-bytes
invariant-bytes l =
    (length l.values ≡ 256) × ((c : ℕ) → c < 256 → slice_index l.values c < 16 → hex_digit_value c ≡ Some (slice_index l.values c))
