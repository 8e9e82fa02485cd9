-- Words of joined bytes, and of the chunks of a slice.
use Rattle.std.proofs.Common.{◌≡◌, ℕ, zero, suc, ◌+◌, ◌*◌, ◌/◌, ◌%◌, ◌<◌, ◌≤◌, List, [], ◌∷◌, ◌++◌, length, take, drop, get_or, sum, refl, sym, ◌∙◌, ap, zero-add, arith, w16, w32, w64}
use Rattle.std.specs.Int.{from_le_bytes}
use Rattle.std.specs.Simd.{first_chunks}
use Rattle.std.specs.Simd.Lanes.{number_l}
use Rattle.std.proofs.lemmas.List.{drop-drop, length-drop, length-take-le, take-append-drop}
use Rattle.std.proofs.Math.Seq.{take-add}
use Rattle.std.proofs.Math.Nat.{zero-mul, suc-mul, mul-add}
use Rattle.std.proofs.lemmas.List.Sums.{sum_by-append, sum_by-cons}
use Rattle.wire_checksum.specs.WordSum.{words, residue}
use Rattle.wire_checksum.proofs.Residues.{residue-same, residue-add}

pub words-append : (a b : List ℕ) → length a % 2 ≡ 0 → words (a ++ b) ≡ words a ++ words b
unfolding words
words-append [] b e = refl
words-append (x ∷ []) b e = absurd (omega arith)
words-append (x ∷ y ∷ a) b e = ap (λ ws. (256 * x + y) ∷ ws) (words-append a b (omega arith))

-- the words of joined bytes, if the first part has an even length
pub sum-words-append : (a b : List ℕ) → length a % 2 ≡ 0 → sum (words (a ++ b)) ≡ sum (words a) + sum (words b)
sum-words-append a b e = ap sum (words-append a b e) ∙ sum_by-append (λ x. x) (words a) (words b)

-- one more word
pub sum-words-cons : (x y : ℕ) (xs : List ℕ) → sum (words (x ∷ y ∷ xs)) ≡ 256 * x + y + sum (words xs)
unfolding words
sum-words-cons x y xs = sum_by-cons (λ n. n) (256 * x + y) (words xs)

-- bytes as one number, low byte first
pub number-words : (xs : List ℕ) → residue (256 * number_l 256 xs) ≡ residue (sum (words xs))
unfolding words
number-words [] = refl
number-words (x ∷ []) = ap residue (omega arith)
number-words (x ∷ y ∷ xs) =
    let m = number_l 256 xs in
    residue-same (256 * (x + 256 * (y + 256 * m))) (256 * x + y + 256 * m) 0 (y + 256 * m) (omega arith) (λ z. omega arith) (λ z. omega arith)
    ∙ residue-add (256 * x + y) (256 * x + y) (256 * m) (sum (words xs)) refl (number-words xs) ∙ ap residue (sym (sum-words-cons x y xs))

-- the number that 8 bytes spell, low byte first
pub number-of_8 : (xs : List ℕ) → length xs ≡ 8 → from_le_bytes w64 xs ≡ number_l 256 xs
number-of_8 (a ∷ b ∷ c ∷ d ∷ e ∷ f ∷ g ∷ h ∷ []) l = omega arith
number-of_8 other l = absurd (omega arith)

number-of_4 : (xs : List ℕ) → length xs ≡ 4 → from_le_bytes w32 xs ≡ number_l 256 xs
number-of_4 (a ∷ b ∷ c ∷ d ∷ []) l = omega arith
number-of_4 other l = absurd (omega arith)

number-of_2 : (xs : List ℕ) → length xs ≡ 2 → from_le_bytes w16 xs ≡ number_l 256 xs
number-of_2 (a ∷ b ∷ []) l = omega arith
number-of_2 other l = absurd (omega arith)

-- the little-endian number of 8 bytes has the one's complement sum of their words, up to a factor of 256
pub words-of_8 : (xs : List ℕ) → length xs ≡ 8 → residue (256 * from_le_bytes w64 xs) ≡ residue (sum (words xs))
words-of_8 xs l = ap (λ n. residue (256 * n)) (number-of_8 xs l) ∙ number-words xs

-- the same for 4 bytes
pub words-of_4 : (xs : List ℕ) → length xs ≡ 4 → residue (256 * from_le_bytes w32 xs) ≡ residue (sum (words xs))
words-of_4 xs l = ap (λ n. residue (256 * n)) (number-of_4 xs l) ∙ number-words xs

-- the same for 2 bytes
pub words-of_2 : (xs : List ℕ) → length xs ≡ 2 → residue (256 * from_le_bytes w16 xs) ≡ residue (sum (words xs))
words-of_2 xs l = ap (λ n. residue (256 * n)) (number-of_2 xs l) ∙ number-words xs

-- one byte is the high byte of a word
pub words-of_1 : (xs : List ℕ) → length xs ≡ 1 → sum (words xs) ≡ 256 * get_or xs 0 0
unfolding words
words-of_1 xs l = grind arith

-- chunk i of n bytes is a slice of the bytes
pub chunk-at : (n k i : ℕ) (xs d : List ℕ) → i < k → get_or (first_chunks n k xs) i d ≡ take n (drop (i * n) xs)
chunk-at n zero i xs d h = absurd (omega arith)
chunk-at n (suc k) zero xs d h = ap (λ j. take n (drop j xs)) (sym (zero-mul n))
chunk-at n (suc k) (suc i) xs d h = chunk-at n k i (drop n xs) d (omega arith) ∙ ap (take n) (drop-drop (i * n) n xs ∙ ap (λ j. drop j xs) (omega (arith, suc-mul i n)))

-- the words of one more chunk of n bytes
pub sum-words-chunk : (n i j : ℕ) (xs : List ℕ) → i % 2 ≡ 0 → j ≡ i + n → j ≤ length xs → sum (words (take j xs)) ≡ sum (words (take i xs)) + sum (words (take n (drop i xs)))
sum-words-chunk n i j xs e is h =
    ap (λ l. sum (words l)) (ap (λ m. take m xs) is ∙ take-add i n xs) ∙ sum-words-append (take i xs) (take n (drop i xs)) (rw (length-take-le i xs (omega arith)) e)

-- the words up to i and from i on
pub sum-words-split : (i : ℕ) (xs : List ℕ) → i % 2 ≡ 0 → i ≤ length xs → sum (words xs) ≡ sum (words (take i xs)) + sum (words (drop i xs))
sum-words-split i xs e h = ap (λ l. sum (words l)) (sym (take-append-drop i xs)) ∙ sum-words-append (take i xs) (drop i xs) (rw (length-take-le i xs h) e)

-- one more chunk of n bytes, read as the number w, where the total began with the sum z
pub chunk-more : (n k : ℕ) (bytes : List ℕ) (chunks : List (List ℕ)) (number : List ℕ → ℕ) (z i j s w : ℕ) → chunks ≡ first_chunks n k bytes → i < k → (i * n) % 2 ≡ 0 → j ≡ i * n + n → j ≤ length bytes
    → ((xs : List ℕ) → length xs ≡ n → residue (256 * number xs) ≡ residue (sum (words xs)))
    → w ≡ number (get_or chunks i [])
    → residue (256 * s) ≡ residue (z + sum (words (take (i * n) bytes)))
    → residue (256 * (s + w)) ≡ residue (z + sum (words (take j bytes)))
chunk-more n k bytes chunks number z i j s w cut below even next room reads is so_far =
    let part = take n (drop (i * n) bytes) in
    let at : get_or chunks i [] ≡ part = ap (λ cs. get_or cs i []) cut ∙ chunk-at n k i bytes [] below in
    let long : length part ≡ n = length-take-le n (drop (i * n) bytes) (rw length-drop (omega arith)) in
    let word : residue (256 * w) ≡ residue (sum (words part)) = ap (λ m. residue (256 * m)) (is ∙ ap number at) ∙ reads part long in
    let more = sum-words-chunk n (i * n) j bytes even next room in
    ap residue (mul-add 256 s w) ∙ residue-add (256 * s) (z + sum (words (take (i * n) bytes))) (256 * w) (sum (words part)) so_far word
    ∙ ap residue (omega (arith, more))

-- one more chunk, whose words were added unchanged
pub chunk-added : (n k : ℕ) (bytes : List ℕ) (chunks : List (List ℕ)) (z i j s r : ℕ) → chunks ≡ first_chunks n k bytes → i < k → (i * n) % 2 ≡ 0 → j ≡ i * n + n → j ≤ length bytes
    → residue (256 * r) ≡ residue (256 * s + sum (words (get_or chunks i [])))
    → residue (256 * s) ≡ residue (z + sum (words (take (i * n) bytes)))
    → residue (256 * r) ≡ residue (z + sum (words (take j bytes)))
chunk-added n k bytes chunks z i j s r cut below even next room added so_far =
    let w = sum (words (get_or chunks i [])) in
    let at : w ≡ sum (words (take n (drop (i * n) bytes))) = ap (λ cs. sum (words (get_or cs i []))) cut ∙ ap (λ l. sum (words l)) (chunk-at n k i bytes [] below) in
    let more = sum-words-chunk n (i * n) j bytes even next room in
    added ∙ residue-add (256 * s) (z + sum (words (take (i * n) bytes))) w w so_far refl ∙ ap residue (omega (arith, more, at))

-- the same where it began with nothing
pub chunk-step : (n k : ℕ) (bytes : List ℕ) (chunks : List (List ℕ)) (number : List ℕ → ℕ) (i j s w : ℕ) → chunks ≡ first_chunks n k bytes → i < k → (i * n) % 2 ≡ 0 → j ≡ i * n + n → j ≤ length bytes
    → ((xs : List ℕ) → length xs ≡ n → residue (256 * number xs) ≡ residue (sum (words xs)))
    → w ≡ number (get_or chunks i [])
    → residue (256 * s) ≡ residue (sum (words (take (i * n) bytes)))
    → residue (256 * (s + w)) ≡ residue (sum (words (take j bytes)))
chunk-step n k bytes chunks number i j s w cut below even next room reads is so_far =
    chunk-more n k bytes chunks number 0 i j s w cut below even next room reads is (so_far ∙ ap residue (sym (zero-add (sum (words (take (i * n) bytes)))))) ∙ ap residue (zero-add (sum (words (take j bytes))))

-- the words of no bytes add up to 0
pub words-of_0 : (xs : List ℕ) → length xs ≡ 0 → sum (words xs) ≡ 0
unfolding words
words-of_0 xs l = grind arith

-- the whole sum, where i chunks of n bytes are in s and what is left is in w
pub chunks-end : (n m i : ℕ) (bytes rest : List ℕ) (s w : ℕ) → i * n ≡ m → m % 2 ≡ 0 → m ≤ length bytes → rest ≡ drop m bytes
    → residue (256 * s) ≡ residue (sum (words (take (i * n) bytes)))
    → residue (256 * w) ≡ residue (sum (words rest))
    → residue (256 * (s + w)) ≡ residue (sum (words bytes))
chunks-end n m i bytes rest s w ends even room cut so_far left =
    ap residue (mul-add 256 s w)
    ∙ residue-add (256 * s) (sum (words (take m bytes))) (256 * w) (sum (words (drop m bytes))) (so_far ∙ ap (λ j. residue (sum (words (take j bytes)))) ends) (left ∙ ap (λ l. residue (sum (words l))) cut)
    ∙ ap residue (sym (sum-words-split m bytes even room))

-- a total of the bytes after the last whole word of 8, with all whole words added, is a total of all bytes
pub with_tail : (bytes : List ℕ) (t s : ℕ) → residue (256 * t) ≡ residue (sum (words (drop (length bytes / 8 * 8) bytes)))
    → residue (256 * s) ≡ residue (256 * t + sum (words (take (length bytes / 8 * 8) bytes))) → residue (256 * s) ≡ residue (sum (words bytes))
with_tail bytes t s a b =
    let m = length bytes / 8 * 8 in
    let split = sum-words-split m bytes (omega arith) (omega arith) in
    b ∙ residue-add (256 * t) (sum (words (drop m bytes))) (sum (words (take m bytes))) (sum (words (take m bytes))) a refl ∙ ap residue (omega (arith, split))
