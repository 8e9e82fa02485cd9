-- Lists of bytes, and their parts.
use Rattle.std.proofs.Common.{ℕ, zero, suc, ◌≡◌, ◌<◌, ◌+◌, ◌-◌, ◌&&◌, Bool, true, nat_lt, List, [], ◌∷◌, ◌++◌, drop, slice_range, take, sym, subst, arith}
use Rattle.std.proofs.lemmas.Bool.{ltb-true}
use Rattle.std.proofs.lemmas.List.{get_or-drop}
use Rattle.std.proofs.Math.Pow.{are_bytes}
use Rattle.std.specs.Int.{byte_at, bytes_high_first}
use Rattle.net_base.proofs.Spelled.{AreBytes}

-- a byte of a number is below 256
byte_at-lt : (k x : ℕ) → byte_at k x < 256
byte_at-lt k x = grind arith

-- the bytes of a number are bytes
pub AreBytes-bytes_high_first : (n x : ℕ) → AreBytes (bytes_high_first n x)
AreBytes-bytes_high_first zero x i = omega arith
AreBytes-bytes_high_first (suc n) x zero = byte_at-lt n x
AreBytes-bytes_high_first (suc n) x (suc i) = AreBytes-bytes_high_first n x i

-- what is put together of bytes, and their parts
pub AreBytes-cons : (x : ℕ) (xs : List ℕ) → x < 256 → AreBytes xs → AreBytes (x ∷ xs)
AreBytes-cons x xs small h = grind arith

pub AreBytes-append : (xs ys : List ℕ) → AreBytes xs → AreBytes ys → AreBytes (xs ++ ys)
AreBytes-append [] ys h k = k
AreBytes-append (x ∷ xs) ys h k = AreBytes-cons x (xs ++ ys) (h 0) (AreBytes-append xs ys (λ i. h (suc i)) k)

pub AreBytes-drop : (n : ℕ) (xs : List ℕ) → AreBytes xs → AreBytes (drop n xs)
AreBytes-drop n xs h i = rw (get_or-drop n xs i 0) (h (n + i))

pub AreBytes-take : (n : ℕ) (xs : List ℕ) → AreBytes xs → AreBytes (take n xs)
AreBytes-take zero xs h = λ i. omega arith
AreBytes-take (suc n) [] h = h
AreBytes-take (suc n) (x ∷ xs) h = AreBytes-cons x (take n xs) (h 0) (AreBytes-take n xs (λ i. h (suc i)))

pub AreBytes-slice_range : (xs : List ℕ) (from to : ℕ) → AreBytes xs → AreBytes (slice_range xs from to)
AreBytes-slice_range xs from to h = AreBytes-take (to - from) (drop from xs) (AreBytes-drop from xs h)

pub AreBytes-part : (xs part : List ℕ) (from to : ℕ) → AreBytes xs → part ≡ slice_range xs from to → AreBytes part
AreBytes-part xs part from to h is = subst AreBytes (sym is) (AreBytes-slice_range xs from to h)

-- numbers that pass the test are bytes
test-parts : (a b : Bool) → (a && b) ≡ true → (a ≡ true) × (b ≡ true)
test-parts a b e = grind arith

pub AreBytes-tested : (xs : List ℕ) → are_bytes xs ≡ true → AreBytes xs
AreBytes-tested [] e = λ i. omega arith
AreBytes-tested (x ∷ xs) e =
    let (first, rest) = test-parts (nat_lt x 256) (are_bytes xs) e in
    AreBytes-cons x xs (ltb-true x 256 first) (AreBytes-tested xs rest)
