-- Chains of words, added with end-around carry.
use Rattle.std.proofs.Common.{◌≡◌, ℕ, ◌+◌, ◌*◌, ◌/◌, ◌%◌, ◌<◌, ◌≤◌, List, [], length, take, drop, get_or, sum, refl, sym, ◌∙◌, ap, arith, w64}
use Rattle.std.specs.Int.{from_le_bytes}
use Rattle.std.specs.Simd.{first_chunks}
use Rattle.std.proofs.lemmas.List.{length-drop, length-take-le, take_all}
use Rattle.std.proofs.Math.Nat.{mul-add}
use Rattle.wire_checksum.specs.WordSum.{words, residue}
use Rattle.wire_checksum.proofs.Residues.{residue-same, residue-add}
use Rattle.wire_checksum.proofs.WordLists.{words-of_8, chunk-at, sum-words-chunk, sum-words-split}

-- carries that move from bit 64 to bit 0 keep the residue
pub carried : (before after carries : ℕ) → after + 18446744073709551615 * carries ≡ before → (after ≡ 0 → carries ≡ 0) → residue (256 * after) ≡ residue (256 * before)
carried before after carries e none =
    residue-same (256 * after) (256 * before) (256 * (281479271743489 * carries)) 0 (omega (arith, e)) (λ z. let n = none (omega (arith, z)) in omega (arith, e, n, z)) (λ z. omega (arith, e, z))

-- a word of 8 bytes added to a chain
pub word_added : (chain w total : ℕ) (word : List ℕ) → length word ≡ 8 → w ≡ from_le_bytes w64 word → total ≡ chain + w
    → residue (256 * (total % 18446744073709551616 + total / 18446744073709551616)) ≡ residue (256 * chain + sum (words word))
word_added chain w total word long is all =
    carried total (total % 18446744073709551616 + total / 18446744073709551616) (total / 18446744073709551616) (omega arith) (λ e. omega (arith, e))
    ∙ ap (λ n. residue (256 * n)) all ∙ ap residue (mul-add 256 chain w)
    ∙ residue-add (256 * chain) (256 * chain) (256 * w) (sum (words word)) refl (ap (λ n. residue (256 * n)) is ∙ words-of_8 word long)

-- two sums added one after the other
pub and_then : (a b c s t : ℕ) → residue (256 * b) ≡ residue (256 * a + s) → residue (256 * c) ≡ residue (256 * b + t) → residue (256 * c) ≡ residue (256 * a + (s + t))
and_then a b c s t p q = q ∙ residue-add (256 * b) (256 * a + s) t t p refl ∙ ap residue (omega arith)

-- the words of both halves
pub in-two : (n : ℕ) (v : List ℕ) (hs : List (List ℕ)) → n % 2 ≡ 0 → length v ≡ n + n → hs ≡ first_chunks n 2 v → sum (words (get_or hs 0 [])) + sum (words (get_or hs 1 [])) ≡ sum (words v)
unfolding words
in-two n v hs even long cut =
    let first : 0 * n ≡ 0 = omega arith in
    let second : 1 * n ≡ n = omega arith in
    let at0 : sum (words (get_or hs 0 [])) ≡ sum (words (take n (drop 0 v))) =
    ap (λ cs. sum (words (get_or cs 0 []))) cut ∙ ap (λ l. sum (words l)) (chunk-at n 2 0 v [] (omega arith)) ∙ ap (λ j. sum (words (take n (drop j v)))) first in
    let at1 : sum (words (get_or hs 1 [])) ≡ sum (words (take n (drop n v))) =
    ap (λ cs. sum (words (get_or cs 1 []))) cut ∙ ap (λ l. sum (words l)) (chunk-at n 2 1 v [] (omega arith)) ∙ ap (λ j. sum (words (take n (drop j v)))) second in
    let none : sum (words (take 0 v)) ≡ 0 = refl in
    let one = sum-words-chunk n 0 n v (omega arith) (omega arith) (omega (arith, long)) in
    let two = sum-words-chunk n n (n + n) v even refl (omega (arith, long)) in
    let whole : sum (words (take (n + n) v)) ≡ sum (words v) = ap (λ l. sum (words l)) (take_all (n + n) v (omega (arith, long))) in
    omega (arith, at0, at1, none, one, two, whole)

-- two sums side by side
pub side-by-side : (a b a' b' s t w : ℕ) → residue (256 * a') ≡ residue (256 * a + s) → residue (256 * b') ≡ residue (256 * b + t) → s + t ≡ w → residue (256 * (a' + b')) ≡ residue (256 * (a + b) + w)
side-by-side a b a' b' s t w p q e = ap residue (mul-add 256 a' b') ∙ residue-add (256 * a') (256 * a + s) (256 * b') (256 * b + t) p q ∙ ap residue (omega (arith, e))

-- the words of both halves, added one after the other
pub halves_added : (n k : ℕ) (v : List ℕ) (hs : List (List ℕ)) (a b c : ℕ) → n % 2 ≡ 0 → length v ≡ n + n → k ≡ 2 → hs ≡ first_chunks n k v
    → residue (256 * b) ≡ residue (256 * a + sum (words (get_or hs 0 []))) → residue (256 * c) ≡ residue (256 * b + sum (words (get_or hs 1 [])))
    → residue (256 * c) ≡ residue (256 * a + sum (words v))
halves_added n k v hs a b c even long two cut p q =
    let both = in-two n v hs even long (cut ∙ ap (λ j. first_chunks n j v) two) in
    and_then a b c (sum (words (get_or hs 0 []))) (sum (words (get_or hs 1 []))) p q ∙ ap (λ s. residue (256 * a + s)) both

-- each chunk of n bytes has n bytes
pub chunk-long : (n k i : ℕ) (bytes : List ℕ) (chunks : List (List ℕ)) → chunks ≡ first_chunks n k bytes → i < k → i * n + n ≤ length bytes → length (get_or chunks i []) ≡ n
chunk-long n k i bytes chunks cut below room =
    ap (λ cs. length (get_or cs i [])) cut ∙ ap length (chunk-at n k i bytes [] below) ∙ length-take-le n (drop (i * n) bytes) (rw length-drop (omega arith))

-- more added to equal totals
pub and_more : (s t k : ℕ) → residue (256 * s) ≡ residue (256 * t) → residue (256 * (s + k)) ≡ residue (256 * (t + k))
and_more s t k e = ap residue (mul-add 256 s k) ∙ residue-add (256 * s) (256 * t) (256 * k) (256 * k) e refl ∙ ap residue (sym (mul-add 256 t k))

-- a total of a front and a total of the rest add up to a total of all bytes
pub ends : (m : ℕ) (bytes front rest : List ℕ) (f p s : ℕ) → m % 2 ≡ 0 → m ≤ length bytes → front ≡ take m bytes → rest ≡ drop m bytes → residue (256 * f) ≡ residue (sum (words front)) → residue (256 * p) ≡ residue (sum (words rest))
    → residue (256 * s) ≡ residue (256 * (f + p)) → residue (256 * s) ≡ residue (sum (words bytes))
ends m bytes front rest f p s even room first back a b c =
    c ∙ ap residue (mul-add 256 f p) ∙ residue-add (256 * f) (sum (words (take m bytes))) (256 * p) (sum (words (drop m bytes))) (a ∙ ap (λ l. residue (sum (words l))) first) (b ∙ ap (λ l. residue (sum (words l))) back)
    ∙ ap residue (sym (sum-words-split m bytes even room))
