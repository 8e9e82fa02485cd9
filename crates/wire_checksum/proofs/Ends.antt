-- Bytes as one number, low byte first.
use Rattle.std.proofs.Common.{◌≡◌, ℕ, zero, suc, ◌+◌, ◌-◌, ◌*◌, ◌/◌, ◌%◌, ◌<◌, ◌≤◌, ◌^◌, List, [], ◌∷◌, length, take, drop, sum, sym, ◌∙◌, ap, subst, get_or, arith, Fits, w8, w64}
use Rattle.std.specs.Int.{from_le_bytes}
use Rattle.std.specs.Simd.Lanes.{Each1, number_l}
use Rattle.std.proofs.Math.Nat.{div-div-eq-div-mul, div-one, zero-div}
use Rattle.std.proofs.lemmas.Nat.{pow-add}
use Rattle.std.proofs.lemmas.Simd.{chunk-fits, below_from_Fits}
use Rattle.std.proofs.lemmas.List.{drop-drop, length-drop, take_all}
use Rattle.wire_checksum.specs.WordSum.{words, residue}
use Rattle.wire_checksum.proofs.WordLists.{number-of_8, number-words}

-- without its first bytes it is the number of what follows them
shifted : (j : ℕ) (xs : List ℕ) → Each1 (λ x. x < 256) xs → number_l 256 xs / 2 ^ (8 * j) ≡ number_l 256 (drop j xs)
shifted zero xs small = div-one (number_l 256 xs)
shifted (suc j) [] small = zero-div (2 ^ (8 * suc j))
shifted (suc j) (x ∷ xs) small =
    let first : x < 256 = small.0 in
    let m = number_l 256 xs in
    let next : (x + 256 * m) / 256 ≡ m = omega arith in
    let next_byte : 8 * suc j ≡ 8 + 8 * j = omega arith in
    let power : 2 ^ (8 * suc j) ≡ 256 * 2 ^ (8 * j) = ap (λ n. 2 ^ n) next_byte ∙ pow-add 2 8 (8 * j) in
    ap (λ n. (x + 256 * m) / n) power ∙ sym (div-div-eq-div-mul (x + 256 * m) 256 (2 ^ (8 * j))) ∙ ap (λ n. n / 2 ^ (8 * j)) next ∙ shifted j xs small.1

-- the last 8 bytes, shifted as in `tail`, have the sum of the bytes after the last whole word of 8
pub end_of : (bytes last : List ℕ) (r : ℕ) → 8 ≤ length bytes → last ≡ drop (length bytes - 8) bytes → ((k : ℕ) → Fits w8 (get_or bytes k 0)) → r ≡ from_le_bytes w64 last
    → residue (256 * (r / 2 ^ 8 / 2 ^ (56 - 8 * (length bytes % 8)))) ≡ residue (sum (words (drop (length bytes / 8 * 8) bytes)))
end_of bytes last r room is fit e =
    let n = length bytes - 8 in
    let j = 8 - length bytes % 8 in
    let long : length last ≡ 8 = ap length is ∙ rw length-drop (omega arith) in
    let whole : take 8 (drop n bytes) ≡ drop n bytes = take_all 8 (drop n bytes) (rw length-drop (omega arith)) in
    let P : List ℕ → Type 0 = λ l. Each1 (Fits w8) l in
    let small = below_from_Fits w8 last (subst P (sym is) (subst P whole (chunk-fits w8 n 8 bytes fit))) in
    let m = number_l 256 last in
    let places : 8 + (56 - 8 * (length bytes % 8)) ≡ 8 * j = omega arith in
    let once : m / 2 ^ 8 / 2 ^ (56 - 8 * (length bytes % 8)) ≡ m / 2 ^ (8 * j) = div-div-eq-div-mul m (2 ^ 8) (2 ^ (56 - 8 * (length bytes % 8))) ∙ ap (λ p. m / p) (sym (pow-add 2 8 (56 - 8 * (length bytes % 8)))) ∙ ap (λ p. m / 2 ^ p) places in
    let following : drop j last ≡ drop (length bytes / 8 * 8) bytes = ap (drop j) is ∙ drop-drop j n bytes ∙ ap (λ m. drop m bytes) (omega arith) in
    ap (λ m. residue (256 * (m / 2 ^ 8 / 2 ^ (56 - 8 * (length bytes % 8))))) (e ∙ number-of_8 last long) ∙ ap (λ m. residue (256 * m)) (once ∙ shifted j last small)
    ∙ number-words (drop j last) ∙ ap (λ l. residue (sum (words l))) following
