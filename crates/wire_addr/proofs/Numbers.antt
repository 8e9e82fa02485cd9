-- The bits of a list of bytes, and its big-endian number.
use Rattle.std.proofs.Common.{◌≡◌, ℕ, zero, suc, ◌+◌, ◌-◌, ◌*◌, ◌/◌, ◌%◌, ◌^◌, ◌<◌, ◌≤◌, inl, inr, List, [], ◌∷◌, length, get_or, arith, refl, sym, ◌∙◌, ap, lit<, zero-add}
use Rattle.std.specs.Int.{bit_at, w32, w128, from_be_bytes, byte_at, bytes_high_first}
use Rattle.std.proofs.Math.Nat.{mul-le-mul_left, pow-suc}
use Rattle.std.proofs.lemmas.Bool.{cases_lt}
use Rattle.std.proofs.lemmas.Nat.{mod-pow-add, mod_below, pow-add}
use Rattle.std.proofs.lemmas.Nat.Bits.{bit_at_cat_low, bit_at_cat_high}
use Rattle.wire_addr.specs.Bytes.{IsByteArray}
use Rattle.wire_addr.specs.Prefix.{bit_of, number_of}

-- ---- by places: the number in the n bytes from place i

abbrev number_from : ℕ → ℕ → List ℕ → ℕ
number_from i zero xs = 0
number_from i (suc n) xs = get_or xs i 0 * 2 ^ (8 * n) + number_from (suc i) n xs

-- one place further in a list that is one longer
further : (n i x : ℕ) (xs : List ℕ) → number_from (suc i) n (x ∷ xs) ≡ number_from i n xs
further zero i x xs = refl
further (suc n) i x xs = ap (λ rest. get_or xs i 0 * 2 ^ (8 * n) + rest) (further n (suc i) x xs)

by_places : (xs : List ℕ) → number_of xs ≡ number_from 0 (length xs) xs
by_places [] = refl
by_places (x ∷ xs) = ap (λ rest. x * 2 ^ (8 * length xs) + rest) (by_places xs ∙ sym (further (length xs) 0 x xs))

by_four : (xs : List ℕ) → from_be_bytes w32 xs ≡ number_from 0 4 xs
by_four xs = omega arith

by_sixteen : (xs : List ℕ) → from_be_bytes w128 xs ≡ number_from 0 16 xs
by_sixteen xs = omega arith

-- ---- numbers of integers

pub from_be_bytes_4 : (xs : List ℕ) → length xs ≡ 4 → from_be_bytes w32 xs ≡ number_of xs
from_be_bytes_4 xs four = by_four xs ∙ ap (λ n. number_from 0 n xs) (sym four) ∙ sym (by_places xs)

pub from_be_bytes_16 : (xs : List ℕ) → length xs ≡ 16 → from_be_bytes w128 xs ≡ number_of xs
from_be_bytes_16 xs sixteen = by_sixteen xs ∙ ap (λ n. number_from 0 n xs) (sym sixteen) ∙ sym (by_places xs)

length-bytes_high_first : (k n : ℕ) → length (bytes_high_first k n) ≡ k
length-bytes_high_first zero n = refl
length-bytes_high_first (suc k) n = ap suc (length-bytes_high_first k n)

pow_256 : (k : ℕ) → 256 ^ k ≡ 2 ^ (8 * k)
pow_256 zero = refl
pow_256 (suc k) =
    let more : 8 * suc k ≡ 8 * k + 8 = omega arith in
    rw (more, pow-add 2 (8 * k) 8, ← pow_256 k) (pow-suc 256 k)

byte_at-shifted : (k n : ℕ) → byte_at k n ≡ n / 2 ^ (8 * k) % 2 ^ 8
byte_at-shifted zero n = omega arith
byte_at-shifted (suc k) n = rw (pow_256 (suc k)) refl

-- the number of the k bytes of n is n modulo 2 ^ (8 * k)
pub number_of_bytes : (k n : ℕ) → number_of (bytes_high_first k n) ≡ n % 2 ^ (8 * k)
number_of_bytes zero n = omega arith
number_of_bytes (suc k) n =
    let more : 8 * suc k ≡ 8 + 8 * k = omega arith in
    rw (length-bytes_high_first k n, byte_at-shifted k n, number_of_bytes k n, more) (sym (mod-pow-add n 8 (8 * k)))

-- the k big-endian bytes of a number are k numbers of eight bits
pub IsByteArray-bytes : (k n : ℕ) → IsByteArray k (bytes_high_first k n)
IsByteArray-bytes k n = (length-bytes_high_first k n, small k)
  where
    small : (k i : ℕ) → get_or (bytes_high_first k n) i 0 < 256
    small zero i = lit< tt
    small (suc k) zero = rw (byte_at-shifted k n) (mod_below (n / 2 ^ (8 * k)) (2 ^ 8) (lit< tt))
    small (suc k) (suc i) = small k i

-- ---- bits

-- a byte before a number of k bits makes a number of k + 8 bits
byte_before-lt : (a k r : ℕ) → a < 256 → r < 2 ^ k → a * 2 ^ k + r < 2 ^ (8 + k)
byte_before-lt a k r h g = omega (arith, pow-add 2 8 k, mul-le-mul_left {m = a} {n = 255} (2 ^ k) (let le : a ≤ 255 = omega arith in le))

number_from-lt : (n i : ℕ) (xs : List ℕ) → ((k : ℕ) → get_or xs k 0 < 256) → number_from i n xs < 2 ^ (8 * n)
number_from-lt zero i xs h = lit< tt
number_from-lt (suc n) i xs h =
    let e : 8 * suc n ≡ 8 + 8 * n = omega arith in
    rw e (byte_before-lt (get_or xs i 0) (8 * n) (number_from (suc i) n xs) (h i) (number_from-lt n (suc i) xs h))

-- bit k of the bytes is that bit of the number, counted from the other end
bit_at-number_from : (n i k j : ℕ) (xs : List ℕ) → ((k : ℕ) → get_or xs k 0 < 256) → suc (k + j) ≡ 8 * n
    → bit_at (number_from i n xs) j ≡ bit_at (get_or xs (i + k / 8) 0) (7 - k % 8)
bit_at-number_from zero i k j xs h e = let no : ⊥ = omega arith in absurd no
bit_at-number_from (suc n) i k j xs h e =
    elim (cases_lt k 8) [
      | inl low ↦
          let place : j - 8 * n ≡ 7 - k % 8 = omega arith in
          let first : i + k / 8 ≡ i = omega arith in
          let above : 8 * n ≤ j = omega arith in
          rw first (rw (sym place)
          (bit_at_cat_high (get_or xs i 0) (8 * n) (number_from (suc i) n xs) j (number_from-lt n (suc i) xs h) above))
      | inr high ↦
          let rest : suc ((k - 8) + j) ≡ 8 * n = omega arith in
          let below : j < 8 * n = omega arith in
          let place : suc i + (k - 8) / 8 ≡ i + k / 8 = omega arith in
          let bit : (k - 8) % 8 ≡ k % 8 = omega arith in
          bit_at_cat_low (get_or xs i 0) (8 * n) (number_from (suc i) n xs) j below
          ∙ bit_at-number_from n (suc i) (k - 8) j xs h rest
          ∙ ap (λ p. bit_at (get_or xs p 0) (7 - (k - 8) % 8)) place
          ∙ ap (λ b. bit_at (get_or xs (i + k / 8) 0) (7 - b)) bit
    ]

-- m bytes are a number below 2 ^ (8 * m)
pub number_of-lt : (m : ℕ) (xs : List ℕ) → IsByteArray m xs → number_of xs < 2 ^ (8 * m)
number_of-lt m xs are = rw (by_places xs, are.0) (number_from-lt m 0 xs are.1)

-- bit k of the bytes, counted from the highest, is bit j of their number, counted from the lowest
pub bit_at-number_of : (m k j : ℕ) (xs : List ℕ) → IsByteArray m xs → suc (k + j) ≡ 8 * m → bit_at (number_of xs) j ≡ bit_of xs k
bit_at-number_of m k j xs are e =
    rw (by_places xs, are.0) (bit_at-number_from m 0 k j xs are.1 e ∙ ap (λ p. bit_at (get_or xs p 0) (7 - k % 8)) (zero-add (k / 8)))
