-- End-around carries by rotations.
use Rattle.std.proofs.Common.{◌≡◌, ℕ, ◌+◌, ◌*◌, ◌%◌, ◌/◌, ◌<◌, refl, sym, ◌∙◌, ap, arith, w32, w64}
use Rattle.std.specs.Int.Bits.{bit_or}
use Rattle.std.specs.Int.{rotate_left}
use Rattle.std.proofs.lemmas.Nat.{or_shifted}
use Rattle.wire_checksum.specs.WordSum.{residue}
use Rattle.wire_checksum.proofs.Residues.{residue-same, residue-small}

rotated_64 : (t : ℕ) → t < 18446744073709551616 → rotate_left w64 t 32 ≡ (t % 4294967296) * 4294967296 + t / 4294967296
rotated_64 t h =
    let e : (t * 4294967296) % 18446744073709551616 ≡ (t % 4294967296) * 4294967296 = omega arith in
    ap (λ k. bit_or k (t / 4294967296)) e ∙ or_shifted (t % 4294967296) 32 (t / 4294967296) (omega arith)

-- 32 bits rotated by 16: both halves exchanged
pub rotated_32 : (t : ℕ) → t < 4294967296 → rotate_left w32 t 16 ≡ (t % 65536) * 65536 + t / 65536
rotated_32 t h =
    let e : (t * 65536) % 4294967296 ≡ (t % 65536) * 65536 = omega arith in
    ap (λ k. bit_or k (t / 65536)) e ∙ or_shifted (t % 65536) 16 (t / 65536) (omega arith)

-- a number plus itself with its halves exchanged: the upper half is the sum of the halves, with end-around carry
halves_64 : (t r c : ℕ) → t < 18446744073709551616 → r ≡ (t % 4294967296) * 4294967296 + t / 4294967296 → c ≡ (t / 4294967296 + t % 4294967296) / 4294967296
    → (t + r) % 18446744073709551616 / 4294967296 + 4294967295 * c ≡ t / 4294967296 + t % 4294967296
halves_64 t r c h e d = omega arith

zero_64 : (t r : ℕ) → t < 18446744073709551616 → r ≡ (t % 4294967296) * 4294967296 + t / 4294967296 → (t + r) % 18446744073709551616 / 4294967296 ≡ 0 → t ≡ 0
zero_64 t r h e z = omega arith

-- folding 64 bits to 32 keeps the residue
pub once_64 : (t r : ℕ) → t < 18446744073709551616 → r ≡ rotate_left w64 t 32 → residue ((t + r) % 18446744073709551616 / 4294967296) ≡ residue t
once_64 t r h is =
    let e = is ∙ rotated_64 t h in
    let c = (t / 4294967296 + t % 4294967296) / 4294967296 in
    let s = halves_64 t r c h e refl in
    residue-same ((t + r) % 18446744073709551616 / 4294967296) t (65537 * (t / 4294967296) + 65537 * c) 0 (omega (arith, s)) (λ z. zero_64 t r h e z) (λ z. omega (arith, s))

-- the sum of a number's two words, with end-around carry, is its residue
pub folded : (t s : ℕ) → t < 4294967296 → s + 65535 * ((t / 65536 + t % 65536) / 65536) ≡ t / 65536 + t % 65536 → s ≡ residue t
folded t s h e =
    let c = (t / 65536 + t % 65536) / 65536 in
    sym (residue-small s (omega arith)) ∙ residue-same s t (t / 65536 + c) 0 (omega arith) (λ z. omega arith) (λ z. omega arith)
