-- Lanes that hold sums of bytes.
use Rattle.std.proofs.Common.{◌≡◌, ℕ, zero, suc, ◌+◌, ◌-◌, ◌*◌, ◌/◌, ◌%◌, ◌^◌, ◌<◌, ◌≤◌, List, [], ◌∷◌, length, sum, Fits, w16, refl, ap, map, arith}
use Rattle.std.specs.Simd.Lanes.{Each1, Each2, zip2, sum_l, number_l, digits_l}
use Rattle.std.specs.Prelude.{replicate}
use Rattle.wire_checksum.specs.WordSum.{words}
use Rattle.wire_checksum.proofs.WordLists.{sum-words-cons}

-- bytes al numbers of 16 bits, low byte first
abbrev pub pairs : List ℕ → List ℕ
pairs [] = []
pairs (x ∷ []) = []
pairs (x ∷ y ∷ rest) = (x + 256 * y) ∷ pairs rest

-- the sums at even places, of the sums of pairs modulo 65536 and the sums at odd places
abbrev pub evens : ℕ → List ℕ → List ℕ → List ℕ
evens n all odd = zip2 (λ a s. (a + (65536 - s)) % 65536) all (zip2 (λ o k. (o * 2 ^ k) % 65536) odd (replicate n 8))

-- `all` after one more vector
abbrev pub next_all : List ℕ → List ℕ → List ℕ
next_all all ps = zip2 (λ a x. (a + x) % 65536) all ps

-- `odd` after one more vector
abbrev pub next_odd : List ℕ → List ℕ → List ℕ
next_odd odd ps = zip2 (λ o d. o + d) odd (map (λ x. x / 256) ps)

-- the lanes of a vector are its pairs of bytes
pub digits-pairs : (n : ℕ) (v : List ℕ) → length v ≡ 2 * n → Each1 (λ a. a < 256) v → digits_l 65536 n (number_l 256 v) ≡ pairs v
digits-pairs zero [] e h = refl
digits-pairs (suc n) (x ∷ y ∷ v) e h =
    let p : x < 256 = h.0 in
    let q : y < 256 = (h.1).0 in
    let m = number_l 256 v in
    let a : (x + 256 * (y + 256 * m)) % 65536 ≡ x + 256 * y = omega arith in
    let b : (x + 256 * (y + 256 * m)) / 65536 ≡ m = omega arith in
    rw (a, b, digits-pairs n v (omega arith) (h.1).1) refl
digits-pairs n other e h = absurd (omega arith)

-- one more vector raises the bound of `odd` by 255
pub odd-bound : (b : ℕ) (os v : List ℕ) → Each1 (λ a. a ≤ b) os → Each1 (λ a. a < 256) v → Each1 (λ a. a ≤ b + 255) (next_odd os (pairs v))
odd-bound b (o ∷ os) (x ∷ y ∷ v) h k =
    let p : x < 256 = k.0 in
    let q : y < 256 = (k.1).0 in
    let r : o ≤ b = h.0 in
    (omega arith, odd-bound b os v h.1 (k.1).1)
odd-bound b os other h k = tt

-- the addition to `odd` does not overflow
pub odd-fit : (b : ℕ) (os v : List ℕ) → b + 255 ≤ 65535 → Each1 (λ a. a ≤ b) os → Each1 (λ a. a < 256) v → Each2 (λ o d. Fits w16 (o + d)) os (map (λ x. x / 256) (pairs v))
odd-fit b (o ∷ os) (x ∷ y ∷ v) room h k =
    let p : x < 256 = k.0 in
    let q : y < 256 = (k.1).0 in
    let r : o ≤ b = h.0 in
    (record { fits = omega arith }, odd-fit b os v room h.1 (k.1).1)
odd-fit b os other room h k = tt

-- `odd` keeps its number of lanes
pub odd-long : (n : ℕ) (os v : List ℕ) → length os ≡ n → length v ≡ 2 * n → length (next_odd os (pairs v)) ≡ n
odd-long n [] v e f = e
odd-long (suc n) (o ∷ os) (x ∷ y ∷ v) e f = ap suc (odd-long n os v (omega arith) (omega arith))
odd-long n (o ∷ os) other e f = absurd (omega arith)

-- `all` keeps its number of lanes
pub all-long : (n : ℕ) (al v : List ℕ) → length al ≡ n → length v ≡ 2 * n → length (next_all al (pairs v)) ≡ n
all-long n [] v e f = e
all-long (suc n) (a ∷ al) (x ∷ y ∷ v) e f = ap suc (all-long n al v (omega arith) (omega arith))
all-long n (a ∷ al) other e f = absurd (omega arith)

-- one lane, with one more pair
lane : (a o x y : ℕ) → x < 256 → y < 256 → (a + (65536 - (o * 256) % 65536)) % 65536 + x < 65536
    → ((a + (x + 256 * y)) % 65536 + (65536 - ((o + (x + 256 * y) / 256) * 256) % 65536)) % 65536 ≡ (a + (65536 - (o * 256) % 65536)) % 65536 + x
lane a o x y p q room = grind arith

-- the sums at even places, with one more vector of bytes
pub even-bound : (n b : ℕ) (al os v : List ℕ) → b + 255 ≤ 65535 → length al ≡ n → length os ≡ n → length v ≡ 2 * n → Each1 (λ a. a < 256) v → Each1 (λ a. a ≤ b) (evens n al os)
    → Each1 (λ a. a ≤ b + 255) (evens n (next_all al (pairs v)) (next_odd os (pairs v)))
even-bound zero b [] os v room e f g h k = tt
even-bound (suc n) b (a ∷ al) (o ∷ os) (x ∷ y ∷ v) room e f g h k =
    let p : x < 256 = h.0 in
    let q : y < 256 = (h.1).0 in
    let r : (a + (65536 - (o * 256) % 65536)) % 65536 ≤ b = k.0 in
    let s = lane a o x y p q (omega arith) in
    (omega (arith, s), even-bound n b al os v room (omega arith) (omega arith) (omega arith) (h.1).1 k.1)
even-bound n b al os other room e f g h k = absurd (omega arith)

-- one more vector adds the sum of its words
pub even-sum : (n b : ℕ) (al os v : List ℕ) → b + 255 ≤ 65535 → length al ≡ n → length os ≡ n → length v ≡ 2 * n → Each1 (λ a. a < 256) v → Each1 (λ a. a ≤ b) (evens n al os)
    → 256 * sum_l (evens n (next_all al (pairs v)) (next_odd os (pairs v))) + sum_l (next_odd os (pairs v)) ≡ 256 * sum_l (evens n al os) + sum_l os + sum (words v)
unfolding words
even-sum zero b [] [] [] room e f g h k = refl
even-sum (suc n) b (a ∷ al) (o ∷ os) (x ∷ y ∷ v) room e f g h k =
    let p : x < 256 = h.0 in
    let q : y < 256 = (h.1).0 in
    let r : (a + (65536 - (o * 256) % 65536)) % 65536 ≤ b = k.0 in
    let s = lane a o x y p q (omega arith) in
    let d : (x + 256 * y) / 256 ≡ y = omega arith in
    let rest = even-sum n b al os v room (omega arith) (omega arith) (omega arith) (h.1).1 k.1 in
    let w = sum-words-cons x y v in
    let first = ((a + (x + 256 * y)) % 65536 + (65536 - ((o + (x + 256 * y) / 256) * 256) % 65536)) % 65536 in
    let before = (a + (65536 - (o * 256) % 65536)) % 65536 in
    let ev = sum_l (evens n (next_all al (pairs v)) (next_odd os (pairs v))) in
    let od = sum_l (next_odd os (pairs v)) in
    let ev' = sum_l (evens n al os) in
    let od' = sum_l os in
    combine first before x y ((x + 256 * y) / 256) o ev od ev' od' (sum (words v)) (sum (words (x ∷ y ∷ v))) s d rest w
  where
    combine : (first before x y d o ev od ev' od' t w : ℕ) → first ≡ before + x → d ≡ y → 256 * ev + od ≡ 256 * ev' + od' + t → w ≡ 256 * x + y + t → 256 * (first + ev) + ((o + d) + od) ≡ 256 * (before + ev') + (o + od') + w
    combine first before x y d o ev od ev' od' t w a b c e = omega arith
even-sum n b al os other room e f g h k = absurd (omega arith)

-- the even sums have as many lanes
pub evens-long : (n : ℕ) (al os : List ℕ) → length al ≡ n → length os ≡ n → length (evens n al os) ≡ n
evens-long zero [] os e f = refl
evens-long (suc n) (a ∷ al) (o ∷ os) e f = ap suc (evens-long n al os (omega arith) (omega arith))
evens-long n al os e f = absurd (omega arith)
