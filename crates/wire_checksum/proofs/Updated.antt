-- A checksum that is updated.
use Rattle.std.proofs.Common.{ℕ, ◌≡◌, ◌+◌, ◌-◌, ◌*◌, ◌<◌, ◌≤◌, refl, ap, ◌∙◌, arith}
use Rattle.wire_checksum.specs.WordSum.{residue, updated}
use Rattle.wire_checksum.proofs.Residues.{residue-bound, residue-quotient, residue-same, residue-small, residue-zero}

-- a total whose sum is 0xffff
pub full : (total : ℕ) → residue total ≡ 65535 → (k : ℕ) × (total ≡ 65535 + 65535 * k)
full total e = let (k, is) = residue-quotient total in (k, is ∙ ap (λ (r : ℕ). r + 65535 * k) e)

-- A valid checksum stays valid. The totals are those before the change, after it, and after the update.
pub stays_valid : (before changed after checksum old new : ℕ) → checksum ≤ 65535 → changed + old ≡ before + new
    → after + checksum ≡ changed + updated checksum (residue old) (residue new) → checksum < changed → residue before ≡ 65535 → residue after ≡ 65535
stays_valid before changed after checksum old new fits change update some e =
    let f = full before e in
    let t = (65535 - checksum) + (65535 - residue old) + residue new in
    let q = residue-quotient t in
    let o = residue-quotient old in
    let n = residue-quotient new in
    let bound = residue-bound t in
    let old_bound = residue-bound old in
    residue-same after 65535 (1 + o.0) (f.0 + q.0 + n.0) (omega (arith, f.1, q.1, o.1, n.1, change, update)) (λ z. absurd (omega (arith, z, update))) (λ z. absurd (omega arith))
    ∙ residue-small 65535 (omega arith)

-- the computed checksum is updated to the computed one
pub stays_computed : (rest checksum old new : ℕ) → old ≤ 65535 → 0 < rest + new → checksum ≡ 65535 - residue (rest + old)
    → updated checksum old new ≡ 65535 - residue (rest + new)
stays_computed rest checksum old new fits some e =
    let t = (65535 - checksum) + (65535 - old) + new in
    let q = residue-quotient (rest + old) in
    let bound = residue-bound (rest + old) in
    ap (λ (n : ℕ). 65535 - n) (residue-same t (rest + new) q.0 1 (omega (arith, q.1)) (λ z. absurd (omega (arith, residue-zero (rest + old)))) (λ z. absurd (omega arith)))

-- the same checksum from numbers with 16 bits
pub updated-small : (checksum old new : ℕ) → old ≤ 65535 → new ≤ 65535 → updated checksum (residue old) (residue new) ≡ updated checksum old new
updated-small checksum old new o n = rw (residue-small old o, residue-small new n) refl
