-- Sums of words before and after a part of the bytes was replaced.
use Rattle.std.proofs.Common.{ℕ, zero, suc, ◌≡◌, ◌+◌, ◌-◌, ◌*◌, ◌/◌, ◌%◌, ◌<◌, ◌≤◌, List, [], ◌∷◌, ◌++◌, length, take, drop, slice_index, slice_range, sum, refl, sym, ap, ◌∙◌, append_assoc, length-append, arith}
use Rattle.std.proofs.lemmas.List.{drop-drop, drop-take, length-drop, length-take-le, take-take}
use Rattle.std.proofs.Math.Seq.{take-append-add}
use Rattle.byteorder.specs.Endian.{big_bytes}
use Rattle.wire_checksum.specs.WordSum.{words}
use Rattle.wire_checksum.proofs.WordLists.{sum-words-append, sum-words-cons, sum-words-split}
use Rattle.net_base.proofs.Cells.{whole_byte, word_high, word_low}
use Rattle.net_base.proofs.Spelled.{AreBytes}
use Rattle.net_base.specs.Field.{bits_after, field, span, with_field, with_range}
use Rattle.std.proofs.lemmas.Grind.{common_steps}
use Rattle.std.proofs.lemmas.Bool.Decides.{nat_tests}

-- ---- a part at an even place

sum-words-around : (bytes part : List ℕ) (a e : ℕ) → a % 2 ≡ 0 → length part % 2 ≡ 0 → a + length part ≡ e → e ≤ length bytes
    → sum (words (with_range bytes a e part)) ≡ sum (words (take a bytes)) + (sum (words part) + sum (words (drop e bytes)))
sum-words-around bytes part a e even whole ends room = grind (arith, common_steps, nat_tests, length-take-le, append_assoc, sum-words-append)

-- the new part's sum replaces the old one's
pub sum-words-with_range : (bytes part : List ℕ) (a e : ℕ) → a % 2 ≡ 0 → length part % 2 ≡ 0 → a + length part ≡ e → e ≤ length bytes
    → sum (words (with_range bytes a e part)) + sum (words (slice_range bytes a e)) ≡ sum (words bytes) + sum (words part)
sum-words-with_range bytes part a e even whole ends room = grind (arith, common_steps, nat_tests, sum-words-around, length-drop, sum-words-split, drop-drop)

-- ---- the same in the front of the bytes

-- replacing a part of the front is replacing it in the bytes
pub take-with_range : (bytes part : List ℕ) (a e n : ℕ) → a + length part ≡ e → e ≤ n → e ≤ length bytes
    → take n (with_range bytes a e part) ≡ with_range (take n bytes) a e part
take-with_range bytes part a e n ends inside room =
    let front = length-take-le a bytes (omega (arith, ends, room)) in
    let long : length (take a bytes ++ part) ≡ e = length-append (take a bytes) part ∙ omega (arith, front, ends) in
    let is : n ≡ length (take a bytes ++ part) + (n - e) = omega (arith, long, inside) in
    let whole : n ≡ e + (n - e) = omega (arith, inside) in
    ap (λ (k : ℕ). take k (take a bytes ++ part ++ drop e bytes)) is
    ∙ take-append-add (take a bytes ++ part) (drop e bytes) (n - e)
    ∙ ap (λ (l : List ℕ). take a bytes ++ part ++ l) (sym (ap (λ (k : ℕ). drop e (take k bytes)) whole ∙ drop-take e (n - e) bytes))
    ∙ ap (λ (l : List ℕ). l ++ part ++ drop e (take n bytes)) (sym (take-take a n bytes (omega (arith, ends, inside))))

pub slice_range-take : (bytes : List ℕ) (a e n : ℕ) → a ≤ e → e ≤ n → slice_range (take n bytes) a e ≡ slice_range bytes a e
slice_range-take bytes a e n order inside =
    let whole : n ≡ a + (n - a) = omega (arith, order, inside) in
    ap (take (e - a)) (ap (λ (k : ℕ). drop a (take k bytes)) whole ∙ drop-take a (n - a) bytes)
    ∙ take-take (e - a) (n - a) (drop a bytes) (omega (arith, inside))

-- the new part's sum replaces the old one's, in the first n bytes
pub sum-take-with_range : (bytes part : List ℕ) (a e n : ℕ) → a % 2 ≡ 0 → length part % 2 ≡ 0 → a + length part ≡ e → e ≤ n → n ≤ length bytes
    → sum (words (take n (with_range bytes a e part))) + sum (words (slice_range bytes a e)) ≡ sum (words (take n bytes)) + sum (words part)
sum-take-with_range bytes part a e n even whole ends inside room =
    let long = length-take-le n bytes room in
    rw (take-with_range bytes part a e n ends inside (omega (arith, inside, room)), ← slice_range-take bytes a e n (omega (arith, ends)) inside)
    (sum-words-with_range (take n bytes) part a e even whole ends (omega (arith, long, inside)))

-- ---- a field that is a word, the i-th of the bytes

place : (i : ℕ) → 16 * i / 8 ≡ 2 * i
place i = omega arith

two : (i : ℕ) → span (16 * i) 16 ≡ 2
two i = omega arith

none_after : (i : ℕ) → bits_after (16 * i) 16 ≡ 0
none_after i = omega arith

-- writing a word is replacing two bytes
pub with_field-word : (bytes : List ℕ) (i x : ℕ) → with_field bytes (16 * i) 16 x ≡ with_range bytes (2 * i) (2 * i + 2) (big_bytes 2 x)
with_field-word bytes i x = rw (two i, none_after i, place i, word_high, word_low) refl

-- the bytes from a place on
from_place : (bytes : List ℕ) (n : ℕ) → suc (suc n) ≤ length bytes → drop n bytes ≡ slice_index bytes n ∷ slice_index bytes (suc n) ∷ drop (suc (suc n)) bytes
from_place (a ∷ b ∷ rest) zero room = refl
from_place (a ∷ rest) (suc n) room = from_place rest n (omega arith)
from_place other n room = absurd (omega arith)

-- two bytes at an even place
pub slice_range-two : (bytes : List ℕ) (n : ℕ) → n + 2 ≤ length bytes → slice_range bytes n (n + 2) ≡ slice_index bytes n ∷ slice_index bytes (suc n) ∷ []
slice_range-two bytes n room =
    let size : n + 2 - n ≡ 2 = omega arith in
    ap (λ (k : ℕ). take k (drop n bytes)) size ∙ ap (take 2) (from_place bytes n (omega (arith, room)))

sum-words-two : (x y : ℕ) → sum (words (x ∷ y ∷ [])) ≡ 256 * x + y
unfolding words
sum-words-two x y = omega arith

-- the two bytes of a word add up to it
pub sum-words-word : (x : ℕ) → x < 65536 → sum (words (big_bytes 2 x)) ≡ x
sum-words-word x fits = sum-words-two (x / 256 % 256) (x % 256) ∙ omega (arith, fits)

-- the number of a word is the sum of its two bytes
pub field-word : (bytes : List ℕ) (i : ℕ) → AreBytes bytes → 2 * i + 2 ≤ length bytes → field bytes (16 * i) 16 ≡ sum (words (slice_range bytes (2 * i) (2 * i + 2)))
field-word bytes i are room =
    let high = are (2 * i) in
    let low = are (suc (2 * i)) in
    rw (two i, none_after i, place i, slice_range-two bytes (2 * i) room, sum-words-two (slice_index bytes (2 * i)) (slice_index bytes (suc (2 * i)))) (omega (arith, high, low))

-- the new word replaces the old one in the sum
pub sum-words-with_field : (bytes : List ℕ) (i x : ℕ) → AreBytes bytes → 2 * i + 2 ≤ length bytes → x < 65536
    → sum (words (with_field bytes (16 * i) 16 x)) + field bytes (16 * i) 16 ≡ sum (words bytes) + x
sum-words-with_field bytes i x are room fits = grind (arith, common_steps, nat_tests, sum-words-word, field-word, with_field-word, sum-words-with_range)

-- the same in the sum of the front
pub sum-take-with_field : (bytes : List ℕ) (n i x : ℕ) → AreBytes bytes → 2 * i + 2 ≤ n → n ≤ length bytes → x < 65536
    → sum (words (take n (with_field bytes (16 * i) 16 x))) + field bytes (16 * i) 16 ≡ sum (words (take n bytes)) + x
sum-take-with_field bytes n i x are inside room fits = grind (arith, common_steps, nat_tests, sum-words-word, field-word, with_field-word, sum-take-with_range)

-- ---- a byte at an even place, the high byte of the i-th word

byte_place : (i : ℕ) → 16 * i / 8 ≡ 2 * i
byte_place i = omega arith

one : (i : ℕ) → span (16 * i) 8 ≡ 1
one i = omega arith

none_after_byte : (i : ℕ) → bits_after (16 * i) 8 ≡ 0
none_after_byte i = omega arith

one_from_place : (bytes : List ℕ) (n : ℕ) → n < length bytes → drop n bytes ≡ slice_index bytes n ∷ drop (suc n) bytes
one_from_place [] n room = absurd (omega arith)
one_from_place (a ∷ rest) zero room = refl
one_from_place (a ∷ rest) (suc n) room = one_from_place rest n (omega arith)

-- writing it is replacing its word by one with the same low byte
pub with_field-byte : (bytes : List ℕ) (i x : ℕ) → 2 * i + 2 ≤ length bytes → with_field bytes (16 * i) 8 x ≡ with_range bytes (2 * i) (2 * i + 2) (x % 256 ∷ slice_index bytes (suc (2 * i)) ∷ [])
with_field-byte bytes i x room = grind (arith, common_steps, nat_tests, one, none_after_byte, byte_place, whole_byte, one_from_place, append_assoc)

field-byte : (bytes : List ℕ) (i : ℕ) → AreBytes bytes → field bytes (16 * i) 8 ≡ slice_index bytes (2 * i)
field-byte bytes i are = grind arith

-- a new high byte of a word changes the sum of the first n bytes by 256 for each 1
pub sum-take-with_byte : (bytes : List ℕ) (n i x : ℕ) → AreBytes bytes → 2 * i + 2 ≤ n → n ≤ length bytes → x < 256
    → sum (words (take n (with_field bytes (16 * i) 8 x))) + 256 * field bytes (16 * i) 8 ≡ sum (words (take n bytes)) + 256 * x
sum-take-with_byte bytes n i x are inside room fits = grind (arith, common_steps, nat_tests, sum-words-two, slice_range-two, with_field-byte, field-byte, sum-take-with_range)

-- ---- sums that are not 0

-- the front of bytes whose first byte is not 0
pub sum-take-positive : (bytes : List ℕ) (n : ℕ) → 2 ≤ n → n ≤ length bytes → 0 < slice_index bytes 0 → 0 < sum (words (take n bytes))
sum-take-positive (x ∷ y ∷ rest) (suc (suc n)) whole room some = omega (arith, some, sum-words-cons x y (take n rest))
sum-take-positive other n whole room some = absurd (omega arith)
