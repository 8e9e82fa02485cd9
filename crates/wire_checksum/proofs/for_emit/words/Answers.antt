use Rattle.std.proofs.Common.{ℕ, ◌≡◌, ◌∙◌, ◌+◌, ◌*◌, ◌/◌, ◌%◌, ◌<◌, List, [], ◌∷◌, flat_map, get_or, length, ap, sym, arith, rules}
use Rattle.byteorder.specs.Endian.{big_bytes}
use Rattle.wire_checksum.specs.WordSum.{residue, sum_of_bytes, words}
use Rattle.wire_checksum.proofs.Residues.{residue-same}
use Rattle.wire_checksum.proofs.for_emit.words.Goals as goal

-- the upper and the lower word of a number of 32 bits
abbrev upper : ℕ → ℕ
upper n = 256 * (n / 16777216 % 256) + n / 65536 % 256

abbrev lower : ℕ → ℕ
lower n = 256 * (n / 256 % 256) + n % 256

halves : (n : ℕ) → n < 4294967296 → n ≡ 65536 * upper n + lower n
halves n fits = omega arith

total : (a b c d e : ℕ) → sum_of_bytes (flat_map (big_bytes 4) (a ∷ b ∷ c ∷ d ∷ e ∷ []))
    ≡ residue (upper a + lower a + (upper b + lower b) + (upper c + lower c) + (upper d + lower d) + (upper e + lower e))
unfolding words
total a b c d e = ap residue (omega arith)

folded : (a b c d e p q r s t u v w x y : ℕ) → a ≡ 65536 * p + u → b ≡ 65536 * q + v → c ≡ 65536 * r + w → d ≡ 65536 * s + x → e ≡ 65536 * t + y
    → residue (a + b + c + d + e) ≡ residue (p + u + (q + v) + (r + w) + (s + x) + (t + y))
folded a b c d e p q r s t u v w x y i j k l m =
    residue-same (a + b + c + d + e) (p + u + (q + v) + (r + w) + (s + x) + (t + y)) 0 (p + q + r + s + t)
    (omega (arith, i, j, k, l, m)) (λ n. omega (arith, i, j, k, l, m, n)) (λ n. omega (arith, i, j, k, l, m, n))

five : (ns : List ℕ) → length ns ≡ 5 → get_or ns 0 0 < 4294967296 → get_or ns 1 0 < 4294967296 → get_or ns 2 0 < 4294967296 → get_or ns 3 0 < 4294967296
    → get_or ns 4 0 < 4294967296 → residue (get_or ns 0 0 + get_or ns 1 0 + get_or ns 2 0 + get_or ns 3 0 + get_or ns 4 0) ≡ sum_of_bytes (flat_map (big_bytes 4) ns)
five (a ∷ b ∷ c ∷ d ∷ e ∷ []) long i j k l m =
    folded a b c d e (upper a) (upper b) (upper c) (upper d) (upper e) (lower a) (lower b) (lower c) (lower d) (lower e)
    (halves a i) (halves b j) (halves c k) (halves d l) (halves e m) ∙ sym (total a b c d e)
five other long i j k l m = absurd (omega arith)

pub returns : goal.returns
returns c =
    let ns = c.args.numbers in
    let is : c.from.result + c.from-2.result + c.from-3.result + c.from-4.result + c.from-5.result ≡ get_or ns 0 0 + get_or ns 1 0 + get_or ns 2 0 + get_or ns 3 0 + get_or ns 4 0 =
    omega (arith, c.from.ensures, c.from-2.ensures, c.from-3.ensures, c.from-4.ensures, c.from-5.ensures) in
    c.reduce.ensures ∙ ap residue is ∙ five ns (search rules) c.element_fits.fits c.element_fits2.fits c.element_fits3.fits c.element_fits4.fits c.element_fits5.fits
