use Rattle.std.proofs.Common.{◌≡◌, ℕ, ◌+◌, ◌*◌, ◌/◌, ◌≤◌, ◌<◌, List, [], take, drop, get_or, length, sum, sym, ap, ◌∙◌, refl, subst, lit≤, map, map-id, zero-add, Fits, w8, w16, w32, arith}
use Rattle.std.specs.Simd.Lanes.{Each1, Each2, Steps, fold_l, sum_l, number_l, digits_l}
use Rattle.std.proofs.lemmas.Simd.{widens, chunk-fits, below_from_Fits, Each1-weaker, Each1-replicate, sum_fits, fold-sum, sum_bound}
use Rattle.std.specs.Simd.{first_chunks}
use Rattle.std.proofs.lemmas.List.{take_all, length-drop, length-take-le}
use Rattle.wire_checksum.specs.WordSum.{words}
use Rattle.wire_checksum.proofs.WordLists.{chunk-at, sum-words-chunk}
use Rattle.wire_checksum.proofs.Lanes.{pairs, evens, next_all, next_odd, digits-pairs, odd-bound, odd-fit, odd-long, all-long, even-bound, even-sum, evens-long}
use Rattle.wire_checksum.proofs.totals.by_lanes.Goals as goal

pub loop-vector-init : goal.loop-vector-init
unfolding words
loop-vector-init c = record { long_all = refl; long_odd = refl; small_odd = Each1-replicate (λ a. a ≤ 0) 16 0 (omega arith); small_even = Each1-replicate (λ a. a ≤ 0) 16 0 (omega arith); so_far = refl }

-- the vector that an iteration takes, as bytes of the slice
vector-is : (bytes : List ℕ) (vectors : List (List ℕ)) (i : ℕ) → vectors ≡ first_chunks 32 (length bytes / 32) bytes → i < length bytes / 32 → get_or vectors i [] ≡ take 32 (drop (i * 32) bytes)
vector-is bytes vectors i cut below = ap (λ cs. get_or cs i []) cut ∙ chunk-at 32 (length bytes / 32) i bytes [] below

bytes-fit : (bytes : List ℕ) (i : ℕ) (v : List ℕ) → ((k : ℕ) → Fits w8 (get_or bytes k 0)) → v ≡ take 32 (drop (i * 32) bytes) → Each1 (λ a. a < 256) v
bytes-fit bytes i v fit is = let P : List ℕ → Type 0 = λ l. Each1 (Fits w8) l in below_from_Fits w8 v (subst P (sym is) (chunk-fits w8 (i * 32) 32 bytes fit))

vector-long : (bytes : List ℕ) (i : ℕ) (v : List ℕ) → v ≡ take 32 (drop (i * 32) bytes) → i * 32 + 32 ≤ length bytes → length v ≡ 32
vector-long bytes i v is room = ap length is ∙ length-take-le 32 (drop (i * 32) bytes) (rw length-drop (omega arith))

pub overflow_add-odd : goal.overflow_add-odd
overflow_add-odd c =
    let bytes = c.args.bytes.now in
    let i = c.loop-vector.vector-index in
    let v = get_or c.as_chunks.result.0.now i [] in
    let is = vector-is bytes c.as_chunks.result.0.now i c.as_chunks.ensures.front (omega arith) in
    let fit = bytes-fit bytes i v c.type_inv.bytes is in
    let long = vector-long bytes i v is (omega arith) in
    let P : List ℕ → Type 0 = λ l. Each2 (λ o d. Fits w16 (o + d)) c.loop-vector.odd (map (λ x. x / 256) l) in
    subst P (sym (digits-pairs 16 v long fit)) (odd-fit (255 * i) c.loop-vector.odd v (omega arith) c.loop-vector.invariant.small_odd fit)

pub loop-vector-preserved : goal.loop-vector-preserved
loop-vector-preserved c =
    let bytes = c.args.bytes.now in
    let i = c.loop-vector.vector-index in
    let v = get_or c.as_chunks.result.0.now i [] in
    let is = vector-is bytes c.as_chunks.result.0.now i c.as_chunks.ensures.front (omega arith) in
    let fit = bytes-fit bytes i v c.type_inv.bytes is in
    let long = vector-long bytes i v is (omega arith) in
    let all = c.loop-vector.all in
    let odd = c.loop-vector.odd in
    let inv = c.loop-vector.invariant in
    let room : 255 * i + 255 ≤ 65535 = omega arith in
    let P : List ℕ → Type 0 = λ l. record {
      long_all : length (next_all all l) ≡ 16;
      long_odd : length (next_odd odd l) ≡ 16;
      small_odd : Each1 (λ a. a ≤ 255 * (i + 1)) (next_odd odd l);
      small_even : Each1 (λ a. a ≤ 255 * (i + 1)) (evens 16 (next_all all l) (next_odd odd l));
      so_far : 256 * sum_l (evens 16 (next_all all l) (next_odd odd l)) + sum_l (next_odd odd l) ≡ sum (words (take ((i + 1) * 32) bytes));
    } in
    let now : P (pairs v) = record {
      long_all = all-long 16 all v inv.long_all long;
      long_odd = odd-long 16 odd v inv.long_odd long;
      small_odd = Each1-weaker (λ a. a ≤ 255 * i + 255) (λ a. a ≤ 255 * (i + 1)) (λ a p. omega arith) (next_odd odd (pairs v)) (odd-bound (255 * i) odd v inv.small_odd fit);
      small_even = Each1-weaker (λ a. a ≤ 255 * i + 255) (λ a. a ≤ 255 * (i + 1)) (λ a p. omega arith) (evens 16 (next_all all (pairs v)) (next_odd odd (pairs v)))
          (even-bound 16 (255 * i) all odd v room inv.long_all inv.long_odd long fit inv.small_even);
      so_far = even-sum 16 (255 * i) all odd v room inv.long_all inv.long_odd long fit inv.small_even ∙ ap (λ n. n + sum (words v)) inv.so_far
          ∙ ap (λ l. sum (words (take (i * 32) bytes)) + sum (words l)) is ∙ sym (sum-words-chunk 32 (i * 32) ((i + 1) * 32) bytes (omega arith) (omega arith) (omega arith));
    } in
    let given : P (digits_l 65536 16 (number_l 256 v)) = subst P (sym (digits-pairs 16 v long fit)) now in
    given

below : (b : ℕ) (xs : List ℕ) → b ≤ 65535 → Each1 (λ a. a ≤ b) xs → Each1 (λ a. a ≤ 65535) xs
below b xs room h = Each1-weaker (λ a. a ≤ b) (λ a. a ≤ 65535) (λ a p. omega arith) xs h

fits : (b : ℕ) (xs : List ℕ) → b ≤ 65535 → Each1 (λ a. a ≤ b) xs → Each1 (Fits w16) xs
fits b xs room h = Each1-weaker (λ a. a ≤ b) (Fits w16) (λ a p. record { fits = omega arith }) xs h

bound : (xs : List ℕ) → length xs ≡ 16 → Each1 (λ a. a ≤ 65535) xs → sum_l xs ≤ 1048560
bound xs e h = let b = sum_bound 65535 xs h in let P : ℕ → Type 0 = λ n. sum_l xs ≤ 65535 * n in subst P e b

steps : (xs : List ℕ) → length xs ≡ 16 → Each1 (λ a. a ≤ 65535) xs → Steps (λ s x. Fits w32 (s + x)) (λ s x. s + x) 0 (map (λ x. x) xs)
steps xs e h = let P : List ℕ → Type 0 = λ l. Steps (λ s x. Fits w32 (s + x)) (λ s x. s + x) 0 l in subst P (sym (map-id xs)) (sum_fits w32 0 xs (omega (arith, bound xs e h)))

folded : (xs : List ℕ) → fold_l (λ s x. s + x) 0 (map (λ x. x) xs) ≡ sum_l xs
folded xs = ap (λ l. fold_l (λ s x. s + x) 0 l) (map-id xs) ∙ fold-sum 0 xs ∙ zero-add (sum_l xs)

pub overflow_cast-even : goal.overflow_cast-even
overflow_cast-even c = widens w16 w32 (lit≤ tt) (evens 16 c.loop-vector.all c.loop-vector.odd) (fits (255 * c.loop-vector.vector-index) (evens 16 c.loop-vector.all c.loop-vector.odd) (omega arith) c.loop-vector.invariant.small_even)

pub overflow_add-even : goal.overflow_add-even
overflow_add-even c =
    let inv = c.loop-vector.invariant in
    let xs = evens 16 c.loop-vector.all c.loop-vector.odd in
    steps xs (evens-long 16 c.loop-vector.all c.loop-vector.odd inv.long_all inv.long_odd) (below (255 * c.loop-vector.vector-index) xs (omega arith) inv.small_even)

pub overflow_cast-odd : goal.overflow_cast-odd
overflow_cast-odd c = widens w16 w32 (lit≤ tt) c.loop-vector.odd (fits (255 * c.loop-vector.vector-index) c.loop-vector.odd (omega arith) c.loop-vector.invariant.small_odd)

pub overflow_add-odd-2 : goal.overflow_add-odd-2
overflow_add-odd-2 c = steps c.loop-vector.odd c.loop-vector.invariant.long_odd (below (255 * c.loop-vector.vector-index) c.loop-vector.odd (omega arith) c.loop-vector.invariant.small_odd)

pub returns-clause-value : goal.returns-clause-value
returns-clause-value c =
    let all = c.loop-vector.all in
    let odd = c.loop-vector.odd in
    let even : c.from-even.result ≡ sum_l (evens 16 all odd) = c.from-even.ensures ∙ folded (evens 16 all odd) in
    let odds : c.from.result ≡ sum_l odd = c.from.ensures ∙ folded odd in
    rw (even, odds) (c.loop-vector.invariant.so_far ∙ ap (λ l. sum (words l)) (take_all (c.loop-vector.vector-index * 32) c.args.bytes.now (omega arith)))

-- both totals are below 2 ^ 20
small_total : (b : ℕ) (xs : List ℕ) (r : ℕ) → r ≡ fold_l (λ s x. s + x) 0 (map (λ x. x) xs) → length xs ≡ 16 → b ≤ 65535 → Each1 (λ a. a ≤ b) xs → r ≤ 1048560
small_total b xs r is long room h = omega (arith, is ∙ folded xs, bound xs long (below b xs room h))

pub overflow_mul-result : goal.overflow_mul-result
overflow_mul-result c =
    let inv = c.loop-vector.invariant in
    let xs = evens 16 c.loop-vector.all c.loop-vector.odd in
    record { fits = omega (arith, small_total (255 * c.loop-vector.vector-index) xs c.from-even.result c.from-even.ensures (evens-long 16 c.loop-vector.all c.loop-vector.odd inv.long_all inv.long_odd) (omega arith) inv.small_even) }

pub overflow_add-result : goal.overflow_add-result
overflow_add-result c =
    let inv = c.loop-vector.invariant in
    let xs = evens 16 c.loop-vector.all c.loop-vector.odd in
    record {
      fits = omega (
        arith,
        small_total (255 * c.loop-vector.vector-index) xs c.from-even.result c.from-even.ensures (evens-long 16 c.loop-vector.all c.loop-vector.odd inv.long_all inv.long_odd) (omega arith) inv.small_even,
        small_total (255 * c.loop-vector.vector-index) c.loop-vector.odd c.from.result c.from.ensures inv.long_odd (omega arith) inv.small_odd,
      );
    }

pub returns-clause-small : goal.returns-clause-small
returns-clause-small c =
    let inv = c.loop-vector.invariant in
    let xs = evens 16 c.loop-vector.all c.loop-vector.odd in
    omega (
      arith,
      small_total (255 * c.loop-vector.vector-index) xs c.from-even.result c.from-even.ensures (evens-long 16 c.loop-vector.all c.loop-vector.odd inv.long_all inv.long_odd) (omega arith) inv.small_even,
      small_total (255 * c.loop-vector.vector-index) c.loop-vector.odd c.from.result c.from.ensures inv.long_odd (omega arith) inv.small_odd,
    )
