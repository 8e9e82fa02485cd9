-- The sum of a message by the sums of its parts, each at its offset (RFC 1071, section 2 B).
use Rattle.std.proofs.Common.{ℕ, zero, suc, ◌≡◌, ◌∙◌, ◌⊎◌, ◌+◌, ◌-◌, ◌*◌, ◌/◌, ◌%◌, ◌<◌, ◌≤◌, ◌==◌, ◌++◌, [], ◌∷◌, Bool, List, add-zero, add_assoc, ap, ap₂, arith, false, if◌then◌else◌, inl, inr, length, mul-add, mul-zero, one-mul, refl, subst, sum, sym, true, zero-add}
use Rattle.ip_wire.proofs.Residues.{residue-add, residue-bound, residue-of_zero, residue-quotient, residue-same, residue-small, residue-swap, residue-zero}
use Rattle.ip_wire.specs.Udp.{checksum_for}
use Rattle.ip_wire.specs.WordSum.{residue, sum_of_bytes, words}
use Rattle.ip_wire.proofs.WordLists.{sum-words-cons}
use Rattle.app_edit.specs.Checksums.{sum_at, updated_udp}

-- ---- weights: what the sum of bytes counts after so many bytes of a message

abbrev weight : Bool → ℕ
weight even = if even then 1 else 256

times-256 : (a b : ℕ) → residue a ≡ residue b → residue (256 * a) ≡ residue (256 * b)
times-256 a b e = residue-swap a (residue b) (sym e) ∙ sym (residue-swap b (residue b) refl)

weighted : (even : Bool) (a b : ℕ) → residue a ≡ residue b → residue (weight even * a) ≡ residue (weight even * b)
weighted true a b e = ap residue (one-mul a) ∙ e ∙ ap residue (sym (one-mul b))
weighted false a b e = times-256 a b e

-- ---- parts

-- after one byte, the bytes of each word change places
shifted : (x : ℕ) (b : List ℕ) → residue (sum (words (x ∷ b))) ≡ residue (256 * x + 256 * sum (words b))
unfolding words
shifted x [] = ap residue (omega arith)
shifted x (y ∷ b) =
    let s = sum (words b) in
    ap residue (sum-words-cons x y b)
    ∙ residue-same (256 * x + y + s) (256 * x + 256 * (256 * y + 256 * s)) (y + s) 0 (omega arith) (λ z. omega (arith, z)) (λ z. omega (arith, z))
    ∙ residue-add (256 * x) (256 * x) (256 * (256 * y + 256 * s)) (256 * sum (words (y ∷ b))) refl (times-256 (256 * y + 256 * s) (sum (words (y ∷ b))) (sym (shifted y b)))

joined : (a b : List ℕ) → residue (sum (words (a ++ b))) ≡ residue (sum (words a) + weight (length a % 2 == 0) * sum (words b))
unfolding words
joined [] b = ap residue (sym (zero-add (1 * sum (words b)) ∙ one-mul (sum (words b))))
joined (x ∷ []) b = shifted x b ∙ ap residue (omega arith)
joined (x ∷ y ∷ a) b =
    let s = sum (words b) in
    let front = sum (words a) in
    let parity : length a % 2 ≡ suc (suc (length a)) % 2 = omega arith in
    ap residue (sum-words-cons x y (a ++ b))
    ∙ residue-add (256 * x + y) (256 * x + y) (sum (words (a ++ b))) (front + weight (length a % 2 == 0) * s) refl (joined a b)
    ∙ ap residue (sym (add_assoc (256 * x + y) front (weight (length a % 2 == 0) * s)))
    ∙ ap₂ (λ m p. residue (m + weight (p == 0) * s)) (sym (sum-words-cons x y a)) parity

-- the sum of a part, at its offset
at : (even : Bool) (bytes : List ℕ) → sum_of_bytes (if even then bytes else 0 ∷ bytes) ≡ residue (weight even * sum (words bytes))
at true bytes = ap residue (sym (one-mul (sum (words bytes))))
at false bytes = shifted 0 bytes ∙ ap residue (omega arith)

pub swapped : (bytes : List ℕ) (r : ℕ) → r ≡ sum_of_bytes bytes → sum_of_bytes (0 ∷ bytes) ≡ 256 * (r % 256) + r / 256
swapped bytes r is = at false bytes ∙ residue-swap (sum (words bytes)) r is

pub sum_at-bound : (offset : ℕ) (bytes : List ℕ) → sum_at offset bytes ≤ 65535
sum_at-bound offset bytes = residue-bound (sum (words (if offset % 2 == 0 then bytes else 0 ∷ bytes)))

-- the rest of a message, around a part of `n` bytes
abbrev around : List ℕ → ℕ → List ℕ → ℕ
around front n rest = sum (words front) + weight (length front % 2 == 0) * (weight (n % 2 == 0) * sum (words rest))

-- the sum of a message is that of a part, at its offset, and of the rest
placed : (front part rest : List ℕ) (offset : ℕ) → length front % 2 ≡ offset % 2
    → sum_of_bytes (front ++ (part ++ rest)) ≡ residue (around front (length part) rest + sum_at offset part)
placed front part rest offset parity =
    let f = sum (words front) in
    let w = weight (length front % 2 == 0) in
    let p = sum (words part) in
    let r = weight (length part % 2 == 0) * sum (words rest) in
    let same : residue (w * p) ≡ sum_at offset part = ap (λ k. residue (weight (k == 0) * p)) parity ∙ sym (at (offset % 2 == 0) part) in
    joined front (part ++ rest)
    ∙ residue-add f f (w * sum (words (part ++ rest))) (w * (p + r)) refl (weighted (length front % 2 == 0) (sum (words (part ++ rest))) (p + r) (joined part rest))
    ∙ ap residue (ap (λ n. f + n) (mul-add w p r) ∙ omega arith)
    ∙ residue-add (f + w * r) (f + w * r) (w * p) (sum_at offset part) refl
    (sym (residue-small (residue (w * p)) (residue-bound (w * p))) ∙ ap residue same)

around-nothing : (f : ℕ) (even whole : Bool) (s : ℕ) → s ≡ 0 → f + weight even * (weight whole * s) ≡ f
around-nothing f even whole s none =
    ap (λ k. f + weight even * (weight whole * k)) none ∙ ap (λ k. f + weight even * k) (mul-zero (weight whole)) ∙ ap (λ k. f + k) (mul-zero (weight even)) ∙ add-zero f

-- it does not depend on a part with as many bytes, or an even number more or less; with nothing after it, on none
same-around : (front before after rest : List ℕ) → (length before % 2 ≡ length after % 2) ⊎ (rest ≡ []) → around front (length before) rest ≡ around front (length after) rest
unfolding words
same-around front before after rest (inl parity) = ap (λ k. sum (words front) + weight (length front % 2 == 0) * (weight (k == 0) * sum (words rest))) parity
same-around front before after rest (inr none) =
    let nothing : sum (words rest) ≡ 0 = ap (λ l. sum (words l)) none in
    around-nothing (sum (words front)) (length front % 2 == 0) (length before % 2 == 0) (sum (words rest)) nothing
    ∙ sym (around-nothing (sum (words front)) (length front % 2 == 0) (length after % 2 == 0) (sum (words rest)) nothing)

-- ---- the checksum of a changed message

positive : (t : ℕ) → 0 < residue t → 0 < t
positive zero some = absurd (omega (arith, some, residue-of_zero zero refl))
positive (suc n) some = omega arith

pub stays_computed : (checksum_of : ℕ → ℕ) (front before after rest : List ℕ) (offset field result : ℕ) → length front % 2 ≡ offset % 2
    → (length before % 2 ≡ length after % 2) ⊎ (rest ≡ []) → 0 < sum_of_bytes (front ++ (after ++ rest))
    → field ≡ checksum_of (sum_of_bytes (front ++ (before ++ rest)))
    → ((n : ℕ) → 0 < n + sum_at offset after → field ≡ checksum_of (residue (n + sum_at offset before)) → result ≡ checksum_of (residue (n + sum_at offset after)))
    → result ≡ checksum_of (sum_of_bytes (front ++ (after ++ rest)))
stays_computed checksum_of front before after rest offset field result parity whole some is update =
    let n = around front (length after) rest in
    let old = placed front before rest offset parity ∙ ap (λ k. residue (k + sum_at offset before)) (same-around front before after rest whole) in
    let new = placed front after rest offset parity in
    update n (positive (n + sum_at offset after) (subst (λ r. 0 < r) new some)) (is ∙ ap checksum_of old) ∙ ap checksum_of (sym new)

-- ---- the same for UDP

udp-number : (t field old new x r y j k l : ℕ) → old ≤ 65535 → 0 < t + new → x ≤ 65535 → r ≤ 65535 → y ≤ 65535 → field ≡ checksum_for x → t + old ≡ x + 65535 * j
    → (65535 - field) + (65535 - old) + new ≡ r + 65535 * k → t + new ≡ y + 65535 * l → (r ≡ 0 → (65535 - field) + (65535 - old) + new ≡ 0) → (y ≡ 0 → t + new ≡ 0)
    → (if field == 0 then 0 else checksum_for (65535 - (65535 - r))) ≡ checksum_for y
udp-number t field old new x r y j k l fits some least most top is a b c none nothing = grind arith

pub udp_stays_computed : (t field old new : ℕ) → old ≤ 65535 → 0 < t + new → field ≡ checksum_for (residue (t + old))
    → updated_udp field old new ≡ checksum_for (residue (t + new))
udp_stays_computed t field old new fits some is =
    let sum = (65535 - field) + (65535 - old) + new in
    let a = residue-quotient (t + old) in
    let b = residue-quotient sum in
    let c = residue-quotient (t + new) in
    udp-number t field old new (residue (t + old)) (residue sum) (residue (t + new)) a.0 b.0 c.0 fits some (residue-bound (t + old)) (residue-bound sum) (residue-bound (t + new))
    is a.1 b.1 c.1 (residue-zero sum) (residue-zero (t + new))
