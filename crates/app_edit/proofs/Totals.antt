-- Sums of the words of a frame, byte by byte, before and after bytes of it are replaced.
use Rattle.std.proofs.Common.{ℕ, zero, suc, ◌≡◌, ◌∙◌, ◌⊎◌, ◌+◌, ◌-◌, ◌*◌, ◌%◌, ◌<◌, ◌≤◌, ◌==◌, ◌++◌, List, [], ◌∷◌, add-zero, ap, append_assoc, arith, drop, get_or, if◌then◌else◌, inl, inr, length, length-append, refl, slice_index, slice_range, subst, sum, sym, take, zero-add}
use Rattle.std.proofs.lemmas.List.{get_or-append_right, get_or_append_left, get_or-drop, get_or-take, length-drop, length-take-le}
use Rattle.ip_wire.proofs.WordLists.{sum-words-cons}
use Rattle.ip_wire.specs.WordSum.{words}
use Rattle.byteorder.specs.Endian.{big_bytes}
use Rattle.app_edit.specs.Edited.{written}

-- ---- totals by the places of bytes

-- what a byte at this place counts for: those at even places are the high bytes of words
pub worth : ℕ → ℕ → ℕ
worth i x = if i % 2 == 0 then 256 * x else x

-- the total of n bytes from place i on
pub total : (ℕ → ℕ) → ℕ → ℕ → ℕ
total f i zero = 0
total f i (suc n) = worth i (f i) + total f (suc i) n

pub total-split : (f : ℕ → ℕ) (i n m : ℕ) → total f i (n + m) ≡ total f i n + total f (i + n) m
unfolding total
total-split f i zero m = ap (λ k. total f i k) (zero-add m) ∙ ap (λ k. total f k m) (sym (add-zero i)) ∙ sym (zero-add (total f (i + 0) m))
total-split f i (suc n) m =
    let whole : suc n + m ≡ suc (n + m) = omega arith in
    let place : suc i + n ≡ i + suc n = omega arith in
    ap (λ k. total f i k) whole ∙ ap (λ k. worth i (f i) + k) (total-split f (suc i) n m ∙ ap (λ k. total f (suc i) n + total f k m) place) ∙ omega arith

pub total-same : (f g : ℕ → ℕ) (i n : ℕ) → ((k : ℕ) → i ≤ k → k < i + n → f k ≡ g k) → total f i n ≡ total g i n
unfolding total
total-same f g i zero same = refl
total-same f g i (suc n) same =
    ap (λ k. worth i k + total f (suc i) n) (same i (omega arith) (omega arith))
    ∙ ap (λ k. worth i (g i) + k) (total-same f g (suc i) n (λ k a b. same k (omega (arith, a)) (omega (arith, b))))

pub total-two : (f : ℕ → ℕ) (i : ℕ) → total f i 2 ≡ worth i (f i) + worth (suc i) (f (suc i))
unfolding total
total-two f i = omega arith

-- ---- totals and words

pub even-worth : (i x : ℕ) → i % 2 ≡ 0 → worth i x ≡ 256 * x
unfolding worth
even-worth i x even = grind arith

pub odd-worth : (i x : ℕ) → i % 2 ≡ 1 → worth i x ≡ x
unfolding worth
odd-worth i x odd = grind arith

-- it is not 0, if the first byte is not
pub some-total : (f : ℕ → ℕ) (i n : ℕ) → i % 2 ≡ 0 → 0 < f i → 0 < n → 0 < total f i n
unfolding total
some-total f i zero even some more = absurd (omega (arith, more))
some-total f i (suc n) even some more = omega (arith, even-worth i (f i) even, some)

high-byte : (x : ℕ) (xs : List ℕ) → 256 * x + sum (words (0 ∷ xs)) ≡ sum (words (x ∷ xs))
unfolding words
high-byte x [] = omega arith
high-byte x (y ∷ xs) = ap (λ k. 256 * x + k) (sum-words-cons 0 y xs) ∙ omega arith ∙ sym (sum-words-cons x y xs)

low-byte : (x : ℕ) (xs : List ℕ) → x + sum (words xs) ≡ sum (words (0 ∷ x ∷ xs))
low-byte x xs = omega arith ∙ sym (sum-words-cons 0 x xs)

nothing : sum (words (0 ∷ [])) ≡ 0
unfolding words
nothing = omega arith

no-words : sum (words []) ≡ 0
unfolding words
no-words = refl

pub total-words : (xs : List ℕ) (f : ℕ → ℕ) (i : ℕ) → ((k : ℕ) → k < length xs → f (i + k) ≡ get_or xs k 0)
    → (i % 2 ≡ 0 → total f i (length xs) ≡ sum (words xs)) × (i % 2 ≡ 1 → total f i (length xs) ≡ sum (words (0 ∷ xs)))
unfolding total
total-words [] f i reads = (λ _. sym no-words, λ _. sym nothing)
total-words (x ∷ xs) f i reads =
    let here : f i ≡ x = ap f (omega arith) ∙ reads 0 (omega arith) in
    let next = total-words xs f (suc i) (λ k h. ap f (omega arith) ∙ reads (suc k) (omega (arith, h))) in (
      λ even. even-worth-step even here (next.1 (omega (arith, even))),
      λ odd. odd-worth-step odd here (next.0 (omega (arith, odd))),
    )
  where
    even-worth-step : i % 2 ≡ 0 → f i ≡ x → total f (suc i) (length xs) ≡ sum (words (0 ∷ xs)) → worth i (f i) + total f (suc i) (length xs) ≡ sum (words (x ∷ xs))
    even-worth-step even here rest = ap (λ k. worth i k + total f (suc i) (length xs)) here ∙ ap (λ k. k + total f (suc i) (length xs)) (even-worth i x even) ∙ ap (λ k. 256 * x + k) rest ∙ high-byte x xs

    odd-worth-step : i % 2 ≡ 1 → f i ≡ x → total f (suc i) (length xs) ≡ sum (words xs) → worth i (f i) + total f (suc i) (length xs) ≡ sum (words (0 ∷ x ∷ xs))
    odd-worth-step odd here rest = ap (λ k. worth i k + total f (suc i) (length xs)) here ∙ ap (λ k. k + total f (suc i) (length xs)) (odd-worth i x odd) ∙ ap (λ k. x + k) rest ∙ low-byte x xs

-- ---- parts of a frame

pub range-length : (xs : List ℕ) (first last : ℕ) → first ≤ last → last ≤ length xs → length (slice_range xs first last) ≡ last - first
range-length xs first last order room = length-take-le (last - first) (drop first xs) (rw length-drop (omega (arith, order, room)))

pub range-index : (xs : List ℕ) (first last k : ℕ) → k < last - first → get_or (slice_range xs first last) k 0 ≡ slice_index xs (first + k)
range-index xs first last k h = get_or-take (last - first) (drop first xs) k 0 h ∙ get_or-drop first xs k 0

-- the words of a part that begins at an even place
pub total-range : (xs : List ℕ) (first last : ℕ) → first % 2 ≡ 0 → first ≤ last → last ≤ length xs
    → sum (words (slice_range xs first last)) ≡ total (slice_index xs) first (last - first)
total-range xs first last even order room =
    let long = range-length xs first last order room in
    sym ((total-words (slice_range xs first last) (slice_index xs) first (λ k h. sym (range-index xs first last k (subst (λ n. k < n) long h)))).0 even)
    ∙ ap (total (slice_index xs) first) long

-- ---- bytes that are replaced

front-length : (xs bytes : List ℕ) (at : ℕ) → at + length bytes ≤ length xs → length (take at xs) ≡ at
front-length xs bytes at room = length-take-le at xs (omega (arith, room))

pub index-outside : (xs bytes : List ℕ) (at i : ℕ) → at + length bytes ≤ length xs → (i < at) ⊎ (at + length bytes ≤ i) → slice_index (written xs at bytes) i ≡ slice_index xs i
index-outside xs bytes at i room (inl before) =
    let front = front-length xs bytes at room in
    ap (λ (l : List ℕ). slice_index l i) (append_assoc (take at xs) bytes (drop (at + length bytes) xs))
    ∙ get_or_append_left_at front ∙ get_or-take at xs i 0 before
  where
    get_or_append_left_at : length (take at xs) ≡ at → get_or (take at xs ++ (bytes ++ drop (at + length bytes) xs)) i 0 ≡ get_or (take at xs) i 0
    get_or_append_left_at front = get_or_append_left (take at xs) (bytes ++ drop (at + length bytes) xs) 0 i (omega (arith, front, before))
index-outside xs bytes at i room (inr after) =
    let front = front-length xs bytes at room in
    let whole : length (take at xs ++ bytes) ≡ at + length bytes = length-append (take at xs) bytes ∙ ap (λ k. k + length bytes) front in
    get_or-append_right (take at xs ++ bytes) (drop (at + length bytes) xs) (at + length bytes) i 0 whole after
    ∙ get_or-drop (at + length bytes) xs (i - (at + length bytes)) 0 ∙ ap (λ k. slice_index xs k) (omega (arith, after))

pub index-inside : (xs bytes : List ℕ) (at k : ℕ) → at + length bytes ≤ length xs → k < length bytes → slice_index (written xs at bytes) (at + k) ≡ get_or bytes k 0
index-inside xs bytes at k room h =
    let front = front-length xs bytes at room in
    ap (λ (l : List ℕ). slice_index l (at + k)) (append_assoc (take at xs) bytes (drop (at + length bytes) xs))
    ∙ get_or-append_right (take at xs) (bytes ++ drop (at + length bytes) xs) at (at + k) 0 front (omega arith)
    ∙ ap (λ j. get_or (bytes ++ drop (at + length bytes) xs) j 0) (omega arith)
    ∙ get_or_append_left bytes (drop (at + length bytes) xs) 0 k h

pub written-length : (xs bytes : List ℕ) (at : ℕ) → at + length bytes ≤ length xs → length (written xs at bytes) ≡ length xs
written-length xs bytes at room =
    let front = front-length xs bytes at room in
    simp (length-append, front, length-drop) (omega (arith, room))

-- the words of a protocol number and a length
pub sum-of_number : (number len : ℕ) → sum (words (0 ∷ number ∷ big_bytes 2 len)) ≡ number + len % 65536
unfolding words
sum-of_number number len = omega arith
