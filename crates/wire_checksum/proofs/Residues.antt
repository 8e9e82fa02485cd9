-- Residues of totals.
use Rattle.std.proofs.Common.{◌≡◌, ℕ, zero, suc, ◌+◌, ◌-◌, ◌*◌, ◌%◌, ◌/◌, ◌<◌, ◌≤◌, refl, sym, ◌∙◌, ap, arith}
use Rattle.wire_checksum.specs.WordSum.{IsSum, residue}

-- numbers that differ by multiples of 65535, and are 0 together, have the same residue
pub residue-same : (s t j k : ℕ) → s + 65535 * j ≡ t + 65535 * k → (s ≡ 0 → t ≡ 0) → (t ≡ 0 → s ≡ 0) → residue s ≡ residue t
unfolding residue
residue-same s t j k e f g = grind arith

-- a total is its residue and a multiple of 65535
pub residue-quotient : (t : ℕ) → (k : ℕ) × (t ≡ residue t + 65535 * k)
unfolding residue
residue-quotient zero = (0, refl)
residue-quotient (suc n) = (n / 65535, omega arith)

-- a residue has 16 bits
pub residue-bound : (t : ℕ) → residue t ≤ 65535
unfolding residue
residue-bound t = grind arith

-- only 0 has the residue 0
pub residue-zero : (t : ℕ) → residue t ≡ 0 → t ≡ 0
unfolding residue
residue-zero t e = grind arith

-- the residue of 0 is 0
pub residue-of_zero : (t : ℕ) → t ≡ 0 → residue t ≡ 0
unfolding residue
residue-of_zero t e = grind arith

-- a number of 16 bits is its own residue
pub residue-small : (t : ℕ) → t ≤ 65535 → residue t ≡ t
unfolding residue
residue-small t h = grind arith

-- the residue of a sum, from the residues of both numbers
pub residue-join : (a b : ℕ) → residue (a + b) ≡ residue (residue a + residue b)
residue-join a b =
    let p = residue-quotient a in
    let q = residue-quotient b in
    residue-same (a + b) (residue a + residue b) 0 (p.0 + q.0) (omega (arith, p.1, q.1))
    (λ e. omega (arith, residue-of_zero a (omega arith), residue-of_zero b (omega arith)))
    (λ e. omega (arith, residue-zero a (omega arith), residue-zero b (omega arith)))

-- equal residues add up to equal residues
pub residue-add : (a b c d : ℕ) → residue a ≡ residue b → residue c ≡ residue d → residue (a + c) ≡ residue (b + d)
residue-add a b c d e f = residue-join a c ∙ ap (λ n. residue (n + residue c)) e ∙ ap (λ n. residue (residue b + n)) f ∙ sym (residue-join b d)

-- the two bytes of a word change places where a total is multiplied by 256
pub residue-swap : (t r : ℕ) → r ≡ residue t → residue (256 * t) ≡ 256 * (r % 256) + r / 256
residue-swap t r e =
    let p = residue-quotient t in
    let bound = residue-bound t in
    residue-same (256 * t) (256 * (r % 256) + r / 256) 0 (256 * p.0 + r / 256) (omega (arith, p.1))
    (λ z. omega (arith, residue-of_zero t (omega arith)))
    (λ z. omega (arith, residue-zero t (omega arith))) ∙ residue-small (256 * (r % 256) + r / 256) (omega arith)

-- one more number, with an end-around carry
pub residue-no_carry : (s t n : ℕ) → s ≡ residue t → s + n ≤ 65535 → s + n ≡ residue (t + n)
residue-no_carry s t n e h =
    sym (residue-join t n ∙ ap (λ m. residue (m + residue n)) (sym e) ∙ ap (λ m. residue (s + m)) (residue-small n (omega arith)) ∙ residue-small (s + n) h)

-- one step of `combine` that brings a carry round
pub residue-carry : (s t n : ℕ) → s ≡ residue t → s ≤ 65535 → n ≤ 65535 → 65535 < s + n → s + n - 65535 ≡ residue (t + n)
residue-carry s t n e a b h =
    sym (residue-join t n ∙ ap (λ m. residue (m + residue n)) (sym e) ∙ ap (λ m. residue (s + m)) (residue-small n b)
    ∙ residue-same (s + n) (s + n - 65535) 0 1 (omega arith) (λ z. omega arith) (λ z. omega arith) ∙ residue-small (s + n - 65535) (omega arith))

residue-least : (t : ℕ) → 0 < t → 1 ≤ residue t
unfolding residue
residue-least t h = grind arith

-- the residue is what a sum is
pub residue_IsSum : (t : ℕ) → IsSum t (residue t)
residue_IsSum t =
    let p = residue-quotient t in
    record { none = residue-of_zero t; least = residue-least t; most = residue-bound t; congruent = omega (arith, p.1) }

-- and nothing else is
pub IsSum_residue : (t r : ℕ) → IsSum t r → r ≡ residue t
IsSum_residue zero r is = is.none refl ∙ sym (residue-of_zero zero refl)
IsSum_residue (suc t) r is =
    let p = residue-quotient (suc t) in
    let least = residue-least (suc t) (omega arith) in
    let positive = is.least (omega arith) in
    omega (arith, positive, is.most, is.congruent, p.1, least, residue-bound (suc t))

-- a total and the complement of its residue
pub residue-complement : (m : ℕ) → residue (m + (65535 - residue m)) ≡ 65535
residue-complement m =
    let p = residue-quotient m in
    let bound = residue-bound m in
    residue-same (m + (65535 - residue m)) 65535 0 p.0 (omega (arith, p.1)) (λ z. absurd (omega (arith, residue-of_zero m (omega arith)))) (λ z. absurd (omega arith))
    ∙ residue-small 65535 (omega arith)
