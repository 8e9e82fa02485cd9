-- The checksum of bytes, updated after a part of what it covers changed.
use Rattle.std.proofs.Common.{ℕ, zero, suc, ◌≡◌, ◌+◌, ◌*◌, ◌<◌, ◌≤◌, List, length, take, sum, refl, sym, ap, ◌∙◌, zero-add, arith}
use Rattle.wire_checksum.specs.WordSum.{residue, sum_of_bytes, updated, words}
use Rattle.wire_checksum.proofs.Parts.{sum-take-with_field, sum-words-with_field}
use Rattle.wire_checksum.proofs.Residues.{residue-of_zero}
use Rattle.wire_checksum.proofs.Updated.{stays_valid, updated-small}
use Rattle.net_base.proofs.Spelled.{AreBytes}
use Rattle.net_base.proofs.Written.{AreBytes-with_field, length_with_field}
use Rattle.net_base.specs.Field.{field, with_field}

-- the bytes with the c-th word, their checksum, updated
abbrev pub with_updated : List ℕ → ℕ → ℕ → ℕ → List ℕ
with_updated bytes c old new = with_field bytes (16 * c) 16 (updated (field bytes (16 * c) 16) (residue old) (residue new))

-- A valid checksum stays valid. The sum covers the first n bytes, and beside them a number that may change too.
pub updated-valid : (beside beside' : ℕ) (bytes changed : List ℕ) (n c old new : ℕ) → AreBytes changed → 2 * c + 2 ≤ n → n ≤ length changed
    → beside' + sum (words (take n changed)) + old ≡ beside + sum (words (take n bytes)) + new
    → 0 < beside' + sum (words (take n (with_field changed (16 * c) 16 0)))
    → residue (beside + sum (words (take n bytes))) ≡ 65535
    → residue (beside' + sum (words (take n (with_updated changed c old new)))) ≡ 65535
updated-valid beside beside' bytes changed n c old new are inside room change some valid =
    let checksum = field changed (16 * c) 16 in
    let u = updated checksum (residue old) (residue new) in
    let written = sum-take-with_field changed n c u are inside room (omega arith) in
    let zeroed = sum-take-with_field changed n c 0 are inside room (omega arith) in
    stays_valid (beside + sum (words (take n bytes))) (beside' + sum (words (take n changed))) (beside' + sum (words (take n (with_updated changed c old new))))
    checksum old new (omega arith) change (omega (arith, written)) (omega (arith, zeroed, some)) valid

-- the same where nothing else is covered
pub updated-front : (bytes changed : List ℕ) (n c old new : ℕ) → AreBytes changed → 2 * c + 2 ≤ n → n ≤ length changed
    → sum (words (take n changed)) + old ≡ sum (words (take n bytes)) + new
    → 0 < sum (words (take n (with_field changed (16 * c) 16 0)))
    → sum_of_bytes (take n bytes) ≡ 65535 → sum_of_bytes (take n (with_updated changed c old new)) ≡ 65535
updated-front bytes changed n c old new are inside room change some valid =
    ap residue (sym (zero-add (sum (words (take n (with_updated changed c old new))))))
    ∙ updated-valid 0 0 bytes changed n c old new are inside room (omega (arith, change)) (omega (arith, some)) (ap residue (zero-add (sum (words (take n bytes)))) ∙ valid)

-- the same of one word and all bytes
pub updated_word : (bytes : List ℕ) (c p word : ℕ) → AreBytes bytes → 2 * c + 2 ≤ length bytes → 2 * p + 2 ≤ length bytes → word < 65536
    → 0 < sum_of_bytes (with_field (with_field bytes (16 * p) 16 word) (16 * c) 16 0) → sum_of_bytes bytes ≡ 65535
    → sum_of_bytes (with_field (with_field bytes (16 * p) 16 word) (16 * c) 16 (updated (field (with_field bytes (16 * p) 16 word) (16 * c) 16) (field bytes (16 * p) 16) word)) ≡ 65535
updated_word bytes c p word are at_c at_p fits some valid =
    let old = field bytes (16 * p) 16 in
    let changed = with_field bytes (16 * p) 16 word in
    let checksum = field changed (16 * c) 16 in
    let changed_are = AreBytes-with_field bytes (16 * p) 16 word are (omega arith) (omega (arith, at_p)) in
    let room : 2 * c + 2 ≤ length changed = omega (arith, at_c, length_with_field bytes (16 * p) 16 word (omega arith) (omega (arith, at_p))) in
    let u = updated checksum (residue old) (residue word) in
    let written = sum-words-with_field changed c u changed_are room (omega arith) in
    let zeroed = sum-words-with_field changed c 0 changed_are room (omega arith) in
    let positive = positive_total (sum (words (with_field changed (16 * c) 16 0))) some in
    ap (λ (v : ℕ). sum_of_bytes (with_field changed (16 * c) 16 v)) (sym (updated-small checksum old word (omega arith) (omega (arith, fits))))
    ∙ stays_valid (sum (words bytes)) (sum (words changed)) (sum (words (with_field changed (16 * c) 16 u))) checksum old word (omega arith)
    (sum-words-with_field bytes p word are at_p fits) (omega (arith, written)) (omega (arith, zeroed, positive)) valid
  where
    positive_total : (total : ℕ) → 0 < residue total → 0 < total
    positive_total zero h = absurd (omega (arith, h, residue-of_zero zero refl))
    positive_total (suc n) h = omega arith
