-- Where the bytes of a ring are in its buffer.
use Rattle.std.proofs.Common.{◌≡◌, ◌⊎◌, refl, ℕ, ◌+◌, ◌-◌, ◌≤◌, ◌<◌, min, List, ◌++◌, length, get_or, take, drop, sym, ◌∙◌, ap, arith}
use Rattle.std.proofs.lemmas.List.{get_or_append_left, get_or-append_right, get_or-take, get_or-drop, length-take, length-drop, length-append, length-take-le, get_or_default, same_lists, take-append-le}
use Rattle.std.proofs.lemmas.Bool.{cases_lt}
use mathlib.Core.Logic.{inl, inr}
use borrow.Rule.Slice.PartMut.{put_mid}
use Rattle.tcp_stream.specs.Ring.{ring, placed}

-- byte i of the ring is before the end of the buffer, or past it
near : (s : ℕ) (b : List ℕ) (i : ℕ) → s ≤ length b → s + i < length b → get_or (ring s b) i 0 ≡ get_or b (s + i) 0
near s b i le lt = get_or_append_left (drop s b) (take s b) 0 i (omega (arith, length-drop s b)) ∙ get_or-drop s b i 0

far : (s : ℕ) (b : List ℕ) (i : ℕ) → s ≤ length b → length b ≤ s + i → i < length b → get_or (ring s b) i 0 ≡ get_or b (s + i - length b) 0
far s b i le past lt =
    let j : i - (length b - s) ≡ s + i - length b = omega arith in
    get_or-append_right (drop s b) (take s b) (length b - s) i 0 (length-drop s b) (omega arith) ∙ get_or-take s b (i - (length b - s)) 0 (omega arith) ∙ ap (λ (k : ℕ). get_or b k 0) j

pub at_place : (s : ℕ) (x : List ℕ) (i j : ℕ) → s ≤ length x → (s + i ≡ j) ⊎ (s + i ≡ j + length x) → j < length x → i < length x → get_or (ring s x) i 0 ≡ get_or x j 0
at_place s x i j le (inl is) lt fits = near s x i le (omega arith) ∙ ap (λ (k : ℕ). get_or x k 0) is
at_place s x i j le (inr is) lt fits = far s x i le (omega arith) (omega arith) ∙ ap (λ (k : ℕ). get_or x k 0) (let e : s + i - length x ≡ j = omega arith in e)

pub length-ring : (s : ℕ) (b : List ℕ) → s ≤ length b → length (ring s b) ≡ length b
length-ring s b le = omega (arith, length-append (drop s b) (take s b), length-drop s b, length-take s b)

-- two lists with the same bytes are one
same_bytes : (xs ys : List ℕ) → length xs ≡ length ys → ((k : ℕ) → k < length xs → get_or xs k 0 ≡ get_or ys k 0) → xs ≡ ys
same_bytes xs ys long each = same_lists xs ys long (λ k z h. get_or_default xs k z 0 h ∙ each k h ∙ get_or_default ys k 0 z (omega (arith, long)))

-- the ring without its first n bytes begins n bytes later
pub ring_drop : (s t n len : ℕ) (b : List ℕ) → s < length b → t < length b → (t ≡ s + n) ⊎ (t + length b ≡ s + n) → n ≤ len → len ≤ length b
    → drop n (take len (ring s b)) ≡ take (len - n) (ring t b)
ring_drop s t n len b start next is le fits = same_bytes _ _ (left ∙ sym right) each
  where
    all : length (take len (ring s b)) ≡ len
    all = length-take-le len (ring s b) (omega (arith, length-ring s b (omega arith)))

    left : length (drop n (take len (ring s b))) ≡ len - n
    left = omega (arith, length-drop n (take len (ring s b)), all)

    right : length (take (len - n) (ring t b)) ≡ len - n
    right = length-take-le (len - n) (ring t b) (omega (arith, length-ring t b (omega arith)))

    place : (k : ℕ) → k < len - n → (t ≡ s + n) ⊎ (t + length b ≡ s + n) → get_or (ring s b) (n + k) 0 ≡ get_or (ring t b) k 0
    place k lt (inl here) = elim (cases_lt (t + k) (length b)) [
      | inl low ↦ at_place s b (n + k) (t + k) (omega arith) (inl (omega arith)) low (omega arith) ∙ sym (at_place t b k (t + k) (omega arith) (inl refl) low (omega arith))
      | inr high ↦ at_place s b (n + k) (t + k - length b) (omega arith) (inr (omega arith)) (omega arith) (omega arith) ∙ sym (at_place t b k (t + k - length b) (omega arith) (inr (omega arith)) (omega arith) (omega arith))
    ]
    place k lt (inr round) = at_place s b (n + k) (t + k) (omega arith) (inr (omega arith)) (omega arith) (omega arith) ∙ sym (at_place t b k (t + k) (omega arith) (inl refl) (omega arith) (omega arith))

    each : (k : ℕ) → k < length (drop n (take len (ring s b))) → get_or (drop n (take len (ring s b))) k 0 ≡ get_or (take (len - n) (ring t b)) k 0
    each k h = get_or-drop n (take len (ring s b)) k 0 ∙ get_or-take len (ring s b) (n + k) 0 (omega (arith, left)) ∙ place k (omega (arith, left)) is ∙ sym (get_or-take (len - n) (ring t b) k 0 (omega (arith, left)))

-- bytes before the end of the buffer
pub ring_front : (s n : ℕ) (b : List ℕ) → s + n ≤ length b → take n (ring s b) ≡ take n (drop s b)
ring_front s n b fits = take-append-le n (drop s b) (take s b) (omega (arith, length-drop s b))

-- what a write of ys at a leaves of b
pub record Written (a : ℕ) (b ys c : List ℕ) : Type 0 where
  pub size : length c ≡ length b
  pub below : (i : ℕ) → i < a → get_or c i 0 ≡ get_or b i 0
  pub inside : (k : ℕ) → k < length ys → get_or c (a + k) 0 ≡ get_or ys k 0
  pub above : (i : ℕ) → a + length ys ≤ i → i < length b → get_or c i 0 ≡ get_or b i 0

pub written : (a k : ℕ) (b ys : List ℕ) → length ys ≡ k → a + k ≤ length b → Written a b ys (put_mid a k b ys)
written a k b ys is fits = record {
  size = omega (arith, length-append (take a b) (ys ++ drop k (drop a b)), length-append ys (drop k (drop a b)), length-take a b, length-drop k (drop a b), length-drop a b);
  below = λ i lt. get_or_append_left (take a b) (ys ++ drop k (drop a b)) 0 i (omega (arith, long)) ∙ get_or-take a b i 0 lt;
  inside = λ j lt.
      let e : a + j - a ≡ j = omega arith in
      get_or-append_right (take a b) (ys ++ drop k (drop a b)) a (a + j) 0 long (omega arith) ∙ ap (λ (n : ℕ). get_or (ys ++ drop k (drop a b)) n 0) e ∙ get_or_append_left ys (drop k (drop a b)) 0 j lt;
  above = λ i le lt.
      let e : a + (k + (i - a - k)) ≡ i = omega arith in
      get_or-append_right (take a b) (ys ++ drop k (drop a b)) a i 0 long (omega arith) ∙ get_or-append_right ys (drop k (drop a b)) k (i - a) 0 is (omega arith)
      ∙ get_or-drop k (drop a b) (i - a - k) 0 ∙ get_or-drop a b (k + (i - a - k)) 0 ∙ ap (λ (n : ℕ). get_or b n 0) e;
}
  where
    long : length (take a b) ≡ a
    long = length-take-le a b (omega arith)

-- such a write is one list
one_written : (a : ℕ) (b ys c d : List ℕ) → Written a b ys c → Written a b ys d → c ≡ d
one_written a b ys c d one two = same_bytes c d (one.size ∙ sym two.size) (λ k h. elim (cases_lt k a) [
  | inl low ↦ one.below k low ∙ sym (two.below k low)
  | inr past ↦ elim (cases_lt k (a + length ys)) [
    | inl here ↦
        let e : a + (k - a) ≡ k = omega arith in
        ap (λ (j : ℕ). get_or c j 0) (sym e) ∙ one.inside (k - a) (omega arith) ∙ sym (two.inside (k - a) (omega arith)) ∙ ap (λ (j : ℕ). get_or d j 0) e
    | inr high ↦ one.above k high (omega (arith, one.size)) ∙ sym (two.above k high (omega (arith, one.size)))
  ]
])

-- two writes, the second at the front of the buffer
module _ (s len at first : ℕ) (b c d ys : List ℕ) (start : s < length b) (room : len + length ys ≤ length b) (size : first ≡ min (length ys) (length b - at))
    (one : Written at b (take first ys) c) (two : Written 0 c (drop first ys) d) where
  long : length d ≡ length b
  long = two.size ∙ one.size

  below : (j : ℕ) → length ys - first ≤ j → j < at → j < length b → get_or d j 0 ≡ get_or b j 0
  below j le lt fits = two.above j (omega (arith, length-drop first ys)) (omega (arith, one.size)) ∙ one.below j lt

  above : (j : ℕ) → length ys - first ≤ j → at + first ≤ j → j < length b → get_or d j 0 ≡ get_or b j 0
  above j le past fits = two.above j (omega (arith, length-drop first ys)) (omega (arith, one.size)) ∙ one.above j (omega (arith, length-take first ys)) fits

  inside : (q : ℕ) → q < first → length ys - first ≤ at + q → at + q < length b → get_or d (at + q) 0 ≡ get_or ys q 0
  inside q lt le fits = two.above (at + q) (omega (arith, length-drop first ys)) (omega (arith, one.size)) ∙ one.inside q (omega (arith, length-take first ys)) ∙ get_or-take first ys q 0 lt

  front : (q : ℕ) → first ≤ q → q < length ys → get_or d (q - first) 0 ≡ get_or ys q 0
  front q le lt =
      let z : 0 + (q - first) ≡ q - first = omega arith in
      let e : first + (q - first) ≡ q = omega arith in
      ap (λ (j : ℕ). get_or d j 0) (sym z) ∙ two.inside (q - first) (omega (arith, length-drop first ys)) ∙ get_or-drop first ys (q - first) 0 ∙ ap (λ (j : ℕ). get_or ys j 0) e

  in_d : (i j : ℕ) → (s + i ≡ j) ⊎ (s + i ≡ j + length b) → j < length b → i < length b → get_or (ring s d) i 0 ≡ get_or d j 0
  in_d i j (inl is) lt fits = at_place s d i j (omega (arith, long)) (inl is) (omega (arith, long)) (omega (arith, long))
  in_d i j (inr is) lt fits = at_place s d i j (omega (arith, long)) (inr (omega (arith, long))) (omega (arith, long)) (omega (arith, long))

  in_b : (i j : ℕ) → (s + i ≡ j) ⊎ (s + i ≡ j + length b) → j < length b → i < length b → get_or (ring s b) i 0 ≡ get_or b j 0
  in_b i j is lt fits = at_place s b i j (omega arith) is lt fits

  ring_size : length (ring s d) ≡ length (ring s b)
  ring_size = length-ring s d (omega (arith, long)) ∙ long ∙ sym (length-ring s b (omega arith))

  finish : Written len (ring s b) ys (ring s d) → ring s d ≡ placed len ys (ring s b)
  finish w = one_written len (ring s b) ys _ _ w (written len (length ys) (ring s b) ys refl (omega (arith, length-ring s b (omega arith))))

  -- what is held ends before the end of the buffer
  pub put_before : at ≡ s + len → at < length b → ring s d ≡ placed len ys (ring s b)
  put_before is within = finish (record {
    size = ring_size;
    below = λ k lt. elim (cases_lt (s + k) (length b)) [
      | inl low ↦ in_d k (s + k) (inl refl) low (omega arith) ∙ below (s + k) (omega arith) (omega arith) low ∙ sym (in_b k (s + k) (inl refl) low (omega arith))
      | inr high ↦ absurd (omega arith)
    ];
    inside = λ q lt. elim (cases_lt q first) [
      | inl here ↦ in_d (len + q) (at + q) (inl (omega arith)) (omega arith) (omega arith) ∙ inside q here (omega arith) (omega arith)
      | inr past ↦ in_d (len + q) (q - first) (inr (omega arith)) (omega arith) (omega arith) ∙ front q past lt
    ];
    above = λ k le lt0.
        let lt : k < length b = omega (arith, length-ring s b (omega arith)) in
        elim (cases_lt (s + k) (length b)) [
          | inl low ↦ in_d k (s + k) (inl refl) low lt ∙ above (s + k) (omega arith) (omega arith) low ∙ sym (in_b k (s + k) (inl refl) low lt)
          | inr high ↦
              let e : s + k ≡ s + k - length b + length b = omega arith in
              in_d k (s + k - length b) (inr e) (omega arith) lt ∙ below (s + k - length b) (omega arith) (omega arith) (omega arith) ∙ sym (in_b k (s + k - length b) (inr e) (omega arith) lt)
        ];
  })

  -- it has gone round
  pub put_round : at + length b ≡ s + len → ring s d ≡ placed len ys (ring s b)
  put_round is = finish (record {
    size = ring_size;
    below = λ k lt. elim (cases_lt (s + k) (length b)) [
      | inl low ↦ in_d k (s + k) (inl refl) low (omega arith) ∙ above (s + k) (omega arith) (omega arith) low ∙ sym (in_b k (s + k) (inl refl) low (omega arith))
      | inr high ↦
          let e : s + k ≡ s + k - length b + length b = omega arith in
          in_d k (s + k - length b) (inr e) (omega arith) (omega arith) ∙ below (s + k - length b) (omega arith) (omega arith) (omega arith) ∙ sym (in_b k (s + k - length b) (inr e) (omega arith) (omega arith))
    ];
    inside = λ q lt. in_d (len + q) (at + q) (inr (omega arith)) (omega arith) (omega arith) ∙ inside q (omega arith) (omega arith) (omega arith);
    above = λ k le lt0.
        let lt : k < length b = omega (arith, length-ring s b (omega arith)) in
        let e : s + k ≡ s + k - length b + length b = omega arith in
        in_d k (s + k - length b) (inr e) (omega arith) lt ∙ above (s + k - length b) (omega arith) (omega arith) (omega arith) ∙ sym (in_b k (s + k - length b) (inr e) (omega arith) lt);
  })
