-- The bytes after a field that was written.
use Rattle.std.proofs.Common.{ℕ, ◌≡◌, ◌≤◌, ◌<◌, ◌+◌, ◌*◌, ◌/◌, List, ◌++◌, drop, length, take, refl, arith, length-append}
use Rattle.std.proofs.lemmas.List.{length-take-le}
use Rattle.std.proofs.lemmas.Slice.{drop-append-drop}
use Rattle.byteorder.specs.Endian.{big_bytes}
use Rattle.byteorder.specs.Numbers.{length-bytes_high_first}
use Rattle.net_base.specs.Field.{bits_after, span, with_field, with_part, word_at}

-- the length of the bytes up to the end of the field
front : (bytes : List ℕ) (first width word : ℕ) → first / 8 ≤ length bytes → length (take (first / 8) bytes ++ big_bytes (span first width) word) ≡ first / 8 + span first width
front bytes first width word room =
    let before : length (take (first / 8) bytes) ≡ first / 8 = length-take-le (first / 8) bytes room in
    simp (length-append, before, length-bytes_high_first) refl

-- the bytes from the n-th on stay, where the field ends before them
pub drop-with_field : (bytes : List ℕ) (first width x n : ℕ) → 0 < width → first + width ≤ 8 * n → n ≤ length bytes → drop n (with_field bytes first width x) ≡ drop n bytes
drop-with_field bytes first width x n some ends room =
    drop-append-drop (first / 8 + span first width) bytes (take (first / 8) bytes ++ big_bytes (span first width) (with_part (word_at bytes first width) (bits_after first width) width x)) n
    (omega (arith, some, ends)) (front bytes first width (with_part (word_at bytes first width) (bits_after first width) width x) (omega (arith, some, ends, room)))
