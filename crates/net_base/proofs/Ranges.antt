-- A range of whole bytes is the field of its bits, and what it holds is the number that it spells.
use Rattle.std.proofs.Common.{ℕ, zero, suc, ◌≡◌, ◌≤◌, ◌<◌, ◌+◌, ◌*◌, ◌-◌, ◌/◌, ◌%◌, ◌^◌, List, [], ◌∷◌, ◌++◌, length, take, drop, slice_index, slice_range, refl, sym, ap, ◌∙◌, arith}
use Rattle.std.proofs.lemmas.Grind.{common_steps}
use Rattle.std.proofs.lemmas.List.{get_or-drop}
use Rattle.std.proofs.lemmas.Nat.{shr_high}
use Rattle.std.proofs.Math.Nat.{div-one, mod-eq_of_lt, pow-suc}
use Rattle.std.specs.Int.{byte_at, bytes_high_first}
use Rattle.byteorder.specs.Endian.{big_bytes, big_from, big_number}
use Rattle.byteorder.specs.Numbers.{big_from-cons, big_from-lt, big_from-take}
use Rattle.net_base.specs.Field.{bits_after, field, span, with_field, with_part, with_range}
use Rattle.net_base.proofs.ByteLists.{AreBytes-slice_range}
use Rattle.net_base.proofs.Spelled.{AreBytes, pow256}

-- byte k of a number
byte-shifted : (k x : ℕ) → byte_at k x ≡ x / 256 ^ k % 256
byte-shifted k x = grind arith

-- a byte in front of a number, seen as part of what is above the number
byte-above : (q x p r s : ℕ) → s ≡ p * 256 → q * s + (x * p + r) ≡ (q * 256 + x) * p + r
byte-above q x p r s e = rw e (omega arith)

-- the lowest n bytes of a number that ends in what n bytes spell are these bytes
bytes-number : (n q : ℕ) (a : List ℕ) → AreBytes a → length a ≡ n → bytes_high_first n (q * 256 ^ n + big_from 0 n a) ≡ a
bytes-number zero q [] are long = refl
bytes-number (suc n) q (x ∷ a) are long =
    let fits : x < 256 = are 0 in
    let small : big_from 0 n a < 2 ^ (8 * n) = rw (← pow256 n) (big_from-lt 0 n a (λ i. are (suc i))) in
    let whole : q * 256 ^ suc n + (x * 256 ^ n + big_from 1 n (x ∷ a)) ≡ (q * 256 + x) * 256 ^ n + big_from 0 n a =
    ap (λ (m : ℕ). q * 256 ^ suc n + (x * 256 ^ n + m)) (big_from-cons 0 n x a) ∙ byte-above q x (256 ^ n) (big_from 0 n a) (256 ^ suc n) (pow-suc 256 n) in
    let high : ((q * 256 + x) * 256 ^ n + big_from 0 n a) / 256 ^ n ≡ q * 256 + x = rw pow256 (shr_high (q * 256 + x) (8 * n) (big_from 0 n a) small) in
    let low : (q * 256 + x) % 256 ≡ x = omega (arith, fits) in
    let first : byte_at n ((q * 256 + x) * 256 ^ n + big_from 0 n a) ≡ x = byte-shifted n ((q * 256 + x) * 256 ^ n + big_from 0 n a) ∙ ap (λ (y : ℕ). y % 256) high ∙ low in
    let others = bytes-number n (q * 256 + x) a (λ i. are (suc i)) (omega (arith, long)) in
    ap (bytes_high_first (suc n)) whole ∙ rw (first, others) refl
bytes-number n q other are long = absurd (omega (arith, long))

-- a number of n bytes, written over all bits of another
whole-part : (w n x : ℕ) → x < 256 ^ n → with_part w 0 (8 * n) x ≡ w / 256 ^ n * 256 ^ n + x
whole-part w n x small =
    let below : x < 2 ^ (8 * n) = rw (← pow256 n) small in
    let fits : x % 2 ^ (8 * n) ≡ x = mod-eq_of_lt below in
    let flat : 0 + 8 * n ≡ 8 * n = omega arith in
    let one : 2 ^ 0 ≡ 1 = refl in
    rw (pow256, flat, fits, one) (omega arith)

-- where bits of whole bytes begin, how many bytes they reach into, and how many bits are after them
begin : (first : ℕ) → 8 * first / 8 ≡ first
begin first = omega arith

reach : (first n : ℕ) → span (8 * first) (8 * n) ≡ n
reach first n = omega arith

none : (first n : ℕ) → bits_after (8 * first) (8 * n) ≡ 0
none first n = omega arith

-- a field of whole bytes, written and read
written-whole : (bytes : List ℕ) (first n x : ℕ) → with_field bytes (8 * first) (8 * n) x
    ≡ take first bytes ++ big_bytes n (with_part (big_from first n bytes) 0 (8 * n) x) ++ drop (first + n) bytes
written-whole bytes first n x = rw (reach first n, none first n, begin first) refl

read-whole : (bytes : List ℕ) (first n : ℕ) → field bytes (8 * first) (8 * n) ≡ big_from first n bytes / 2 ^ 0 % 2 ^ (8 * n)
read-whole bytes first n = rw (reach first n, none first n, begin first) refl

-- a written range is a written field
pub range_field : (bytes a : List ℕ) (first n : ℕ) → AreBytes a → length a ≡ n
    → with_range bytes first (first + n) a ≡ with_field bytes (8 * first) (8 * n) (big_number n a)
range_field bytes a first n are long =
    let part : big_bytes n (with_part (big_from first n bytes) 0 (8 * n) (big_number n a)) ≡ a =
    ap (big_bytes n) (whole-part (big_from first n bytes) n (big_number n a) (big_from-lt 0 n a are)) ∙ bytes-number n (big_from first n bytes / 256 ^ n) a are long in
    ap (λ (m : List ℕ). take first bytes ++ m ++ drop (first + n) bytes) (sym part) ∙ sym (written-whole bytes first n (big_number n a))

-- the number in the bytes after an index
number-drop : (f i n : ℕ) (xs : List ℕ) → big_from i n (drop f xs) ≡ big_from (f + i) n xs
number-drop f i zero xs = refl
number-drop f i (suc n) xs =
    let next : f + suc i ≡ suc (f + i) = omega arith in
    let rest = number-drop f (suc i) n xs ∙ ap (λ (k : ℕ). big_from k n xs) next in
    ap (λ (b : ℕ). b * 256 ^ n + big_from (suc i) n (drop f xs)) (get_or-drop f xs i 0) ∙ ap (λ (m : ℕ). slice_index xs (f + i) * 256 ^ n + m) rest

-- a range that is read is a field that is read
pub range-number : (bytes : List ℕ) (first n : ℕ) → AreBytes bytes → big_number n (slice_range bytes first (first + n)) ≡ field bytes (8 * first) (8 * n)
range-number bytes first n are =
    let size : first + n - first ≡ n = omega arith in
    let place : first + 0 ≡ first = omega arith in
    let small : big_from first n bytes < 2 ^ (8 * n) = rw (← pow256 n) (big_from-lt first n bytes are) in
    let fits : big_from first n bytes % 2 ^ (8 * n) ≡ big_from first n bytes = mod-eq_of_lt small in
    ap (λ (m : ℕ). big_from 0 n (take m (drop first bytes))) size
    ∙ big_from-take 0 n n (drop first bytes) (omega arith)
    ∙ number-drop first 0 n bytes
    ∙ ap (λ (m : ℕ). big_from m n bytes) place
    ∙ sym (read-whole bytes first n ∙ ap (λ (m : ℕ). m % 2 ^ (8 * n)) (div-one (big_from first n bytes)) ∙ fits)

-- the bytes of a field's number are the range
pub number-range : (bytes : List ℕ) (first n : ℕ) → AreBytes bytes → first + n ≤ length bytes
    → big_bytes n (field bytes (8 * first) (8 * n)) ≡ slice_range bytes first (first + n)
number-range bytes first n are room =
    let size : length (slice_range bytes first (first + n)) ≡ n = grind (arith, common_steps) in
    let single : 0 * 256 ^ n + big_number n (slice_range bytes first (first + n)) ≡ big_number n (slice_range bytes first (first + n)) = omega arith in
    ap (big_bytes n) (sym (range-number bytes first n are) ∙ sym single) ∙ bytes-number n 0 (slice_range bytes first (first + n)) (AreBytes-slice_range bytes first (first + n) are) size
