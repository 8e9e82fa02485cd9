-- What is read of the first bytes of a frame stays the same, whatever follows them.
use Rattle.std.proofs.Common.{ℕ, zero, suc, [], ◌∷◌, ◌≡◌, ◌∙◌, ◌≤◌, ◌<◌, ◌+◌, ◌-◌, ◌/◌, ◌%◌, ◌^◌, nat_le, nat_lt, true, false, List, ◌++◌, ap, drop, length, length-append, slice_range, sym, take, arith}
use Rattle.std.proofs.lemmas.Bool.Decides.{nat_tests}
use Rattle.std.proofs.lemmas.Grind.{common_steps}
use Rattle.std.proofs.lemmas.List.{drop-append-le, take-append-le}
use Rattle.byteorder.specs.Endian.{big_from}
use Rattle.byteorder.specs.Numbers.{big_from-take}
use Rattle.ip_wire.specs.Field.{bits_after, field, span}

-- ---- bytes

front : (bytes rest : List ℕ) → take (length bytes) (bytes ++ rest) ≡ bytes
front bytes rest = grind (arith, common_steps)

-- a field of the first bytes
pub field-front : (bytes rest : List ℕ) (first width : ℕ) → first / 8 + span first width ≤ length bytes → field (bytes ++ rest) first width ≡ field bytes first width
field-front bytes rest first width h =
    let word : big_from (first / 8) (span first width) (bytes ++ rest) ≡ big_from (first / 8) (span first width) bytes =
    sym (big_from-take (first / 8) (span first width) (length bytes) (bytes ++ rest) h) ∙ ap (big_from (first / 8) (span first width)) (front bytes rest)
    in
    ap (λ (n : ℕ). n / 2 ^ bits_after first width % 2 ^ width) word

-- a range of the first bytes
pub range-front : (bytes rest : List ℕ) (from to : ℕ) → from ≤ to → to ≤ length bytes → slice_range (bytes ++ rest) from to ≡ slice_range bytes from to
range-front bytes rest from to order h =
    let size : to - from ≤ length (drop from bytes) = grind (arith, common_steps) in
    ap (take (to - from)) (drop-append-le from bytes rest (omega (arith, order, h))) ∙ take-append-le (to - from) (drop from bytes) rest size

past : (n : ℕ) (xs ys : List ℕ) → length xs ≤ n → take n (xs ++ ys) ≡ xs ++ take (n - length xs) ys
past n [] ys h =
    let all : n ≡ n - 0 = omega arith in
    ap (λ (k : ℕ). take k ys) all
past zero (x ∷ xs) ys h = absurd (omega (arith, h))
past (suc n) (x ∷ xs) ys h =
    let left : n - length xs ≡ suc n - length (x ∷ xs) = omega arith in
    ap (λ (l : List ℕ). x ∷ l) (past n xs ys (omega (arith, h))) ∙ ap (λ (k : ℕ). x ∷ xs ++ take k ys) left

-- the rest of a range that ends after the first bytes
pub range-following : (bytes rest : List ℕ) (from to : ℕ) → from ≤ length bytes → length bytes ≤ to
    → slice_range (bytes ++ rest) from to ≡ drop from bytes ++ take (to - length bytes) rest
range-following bytes rest from to h order =
    let size : length (drop from bytes) ≡ length bytes - from = grind (arith, common_steps) in
    let left : to - from - length (drop from bytes) ≡ to - length bytes = omega (arith, size, h, order) in
    let long : length (drop from bytes) ≤ to - from = omega (arith, size, h, order) in
    ap (take (to - from)) (drop-append-le from bytes rest h) ∙ past (to - from) (drop from bytes) rest long ∙ ap (λ (n : ℕ). drop from bytes ++ take n rest) left

-- all that follows
pub range-rest : (n : ℕ) (bytes : List ℕ) → slice_range bytes n (length bytes) ≡ drop n bytes
range-rest n bytes = grind (arith, common_steps)

pub longer : (bytes rest : List ℕ) → length (bytes ++ rest) ≡ length bytes + length rest
longer bytes rest = length-append bytes rest

-- ---- tests

pub le-true : (m n : ℕ) → m ≤ n → nat_le m n ≡ true
le-true m n h = grind (arith, nat_tests)

pub le-false : (m n : ℕ) → n < m → nat_le m n ≡ false
le-false m n h = grind (arith, nat_tests)

pub lt-true : (m n : ℕ) → m < n → nat_lt m n ≡ true
lt-true m n h = grind (arith, nat_tests)

pub lt-false : (m n : ℕ) → n ≤ m → nat_lt m n ≡ false
lt-false m n h = grind (arith, nat_tests)
