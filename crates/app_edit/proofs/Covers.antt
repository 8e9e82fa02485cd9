-- A checksum that covers a part of the frame, before and after bytes of the frame are replaced.
use Rattle.std.proofs.Common.{ℕ, ◌≡◌, ◌≢◌, ◌∙◌, ◌⊎◌, ◌+◌, ◌-◌, ◌*◌, ◌%◌, ◌<◌, ◌≤◌, ◌==◌, Bool, List, ◌∷◌, ap, arith, false, get_or, if◌then◌else◌, inl, inr, length, max, min, nat_lt, slice_index, slice_range, subst, sum, sym, true}
use Rattle.std.proofs.lemmas.Bool.{cases_eq, cases_lt}
use Rattle.std.proofs.lemmas.Bool.Decides.{nat_tests}
use Rattle.app_edit.specs.Checksums.{sum_at, updated_udp}
use Rattle.ip_wire.proofs.Residues.{residue-bound, residue-quotient}
use Rattle.ip_wire.specs.WordSum.{residue, sum_of_bytes, updated, words}
use Rattle.app_edit.proofs.Totals.{index-inside, index-outside, range-index, range-length, total, total-range, total-same, total-split, total-words, written-length}
use Rattle.app_edit.specs.Edited.{updated_over, written}

-- ---- the overlap of a covered part and the bytes that are replaced

-- a total in three parts
in-three : (f : ℕ → ℕ) (first from to last : ℕ) → first ≤ from → from ≤ to → to ≤ last
    → total f first (last - first) ≡ total f first (from - first) + (total f from (to - from) + total f to (last - to))
in-three f first from to last a b c =
    ap (total f first) (omega (arith, a, b, c)) ∙ total-split f first (from - first) ((to - from) + (last - to))
    ∙ ap (λ k. total f first (from - first) + k) (ap (λ k. total f k ((to - from) + (last - to))) (omega (arith, a))
    ∙ total-split f from (to - from) (last - to) ∙ ap (λ k. total f from (to - from) + total f k (last - to)) (omega (arith, b)))

-- the new bytes take the place of the old ones in the total
pub changed : (f g : ℕ → ℕ) (first from to last : ℕ) → first ≤ from → from ≤ to → to ≤ last
    → ((k : ℕ) → first ≤ k → k < from → g k ≡ f k) → ((k : ℕ) → to ≤ k → k < last → g k ≡ f k)
    → total g first (last - first) + total f from (to - from) ≡ total f first (last - first) + total g from (to - from)
changed f g first from to last a b c before after =
    let one = in-three f first from to last a b c in
    let two = in-three g first from to last a b c in
    let front = total-same g f first (from - first) (λ k h j. before k h (omega (arith, a, j))) in
    let back = total-same g f to (last - to) (λ k h j. after k h (omega (arith, c, j))) in
    omega (arith, one, two, front, back)

-- the sum of bytes at their place in a message
sum-placed : (xs : List ℕ) (f : ℕ → ℕ) (i n : ℕ) → length xs ≡ n → ((k : ℕ) → k < n → f (i + k) ≡ get_or xs k 0) → sum_at i xs ≡ residue (total f i n)
sum-placed xs f i n long reads =
    let both = total-words xs f i (λ k h. reads k (subst (λ m. k < m) long h)) in
    elim (cases_eq (i % 2) 0) [
      | inl even ↦ ap (λ k. sum_of_bytes (if k == 0 then xs else 0 ∷ xs)) even ∙ ap residue (sym (both.0 even)) ∙ ap (λ m. residue (total f i m)) long
      | inr apart ↦
          let odd : i % 2 ≡ 1 = omega (arith, apart) in
          ap (λ k. sum_of_bytes (if k == 0 then xs else 0 ∷ xs)) odd ∙ ap residue (sym (both.1 odd)) ∙ ap (λ m. residue (total f i m)) long
    ]

-- ---- the update of a checksum

-- an update that keeps the sum of the field and of what it covers, modulo 65535
abbrev pub Keeps : (ℕ → ℕ → ℕ → ℕ) → ℕ → Type 0
Keeps update field = (old new : ℕ) → old ≤ 65535 → new ≤ 65535 → (update field old new + new) % 65535 ≡ (field + old) % 65535

pub updated-keeps : (field : ℕ) → field ≤ 65535 → Keeps updated field
updated-keeps field fits old new a b =
    let t = (65535 - field) + (65535 - old) + new in
    let q = residue-quotient t in
    omega (arith, q.1, residue-bound t, fits, a, b)

pub udp-keeps : (field : ℕ) → field ≤ 65535 → field ≢ 0 → Keeps updated_udp field
udp-keeps field fits some old new a b =
    let t = (65535 - field) + (65535 - old) + new in
    let q = residue-quotient t in
    let bound = residue-bound t in
    udp-number field old new (residue t) q.0 fits some a b bound q.1
  where
    udp-number : (field old new r q : ℕ) → field ≤ 65535 → field ≢ 0 → old ≤ 65535 → new ≤ 65535 → r ≤ 65535
        → (65535 - field) + (65535 - old) + new ≡ r + 65535 * q
        → ((if field == 0 then 0 else (if 65535 - (65535 - (65535 - r)) == 0 then 65535 else 65535 - (65535 - (65535 - r)))) + new) % 65535 ≡ (field + old) % 65535
    udp-number field old new r q fits some a b bound is = grind arith

-- ---- a covered part

-- the words of the bytes from first up to last
abbrev pub sum_over : List ℕ → ℕ → ℕ → ℕ
sum_over xs first last = sum (words (slice_range xs first last))

below : (a b : ℕ) → a < b → nat_lt a b ≡ true
below a b h = grind (arith, nat_tests)

pub above : (a b : ℕ) → b ≤ a → nat_lt a b ≡ false
above a b h = grind (arith, nat_tests)

-- a place that is covered and not replaced, if there is no overlap
outside : (at first last n k : ℕ) → min (at + n) last ≤ max at first → first ≤ k → k < last → (k < at) ⊎ (at + n ≤ k)
outside at first last n k none a b = elim (cases_lt k at) [
  | inl h ↦ inl h
  | inr h ↦ inr (omega (arith, none, a, b, h))
]

-- The total of what a checksum covers and of its field stays, modulo 65535.
pub covered : (update : ℕ → ℕ → ℕ → ℕ) (xs bytes : List ℕ) (at first last field : ℕ) → first % 2 ≡ 0 → first ≤ last → last ≤ length xs
    → at + length bytes ≤ length xs → Keeps update field
    → (sum_over (written xs at bytes) first last + updated_over update field first last at (slice_range xs at (at + length bytes)) bytes) % 65535
    ≡ (sum_over xs first last + field) % 65535
covered update xs bytes at first last field even order inside room keeps = elim (cases_lt (max at first) (min (at + length bytes) last)) [
  | inl meet ↦ ap (λ (b : Bool). (sum_over (written xs at bytes) first last + (if b then both else field)) % 65535) (below (max at first) (min (at + length bytes) last) meet) ∙ overlap meet
  | inr none ↦ ap (λ (b : Bool). (sum_over (written xs at bytes) first last + (if b then both else field)) % 65535) (above (max at first) (min (at + length bytes) last) none)
      ∙ ap (λ k. (k + field) % 65535) (apart none)
]
  where
    before : List ℕ
    before = slice_range xs at (at + length bytes)

    old : List ℕ
    old = slice_range before (max at first - at) (min (at + length bytes) last - at)

    new : List ℕ
    new = slice_range bytes (max at first - at) (min (at + length bytes) last - at)

    both : ℕ
    both = update field (sum_at (max at first) old) (sum_at (max at first) new)

    f : ℕ → ℕ
    f = slice_index xs

    g : ℕ → ℕ
    g = slice_index (written xs at bytes)

    whole : length (written xs at bytes) ≡ length xs
    whole = written-length xs bytes at room

    apart : min (at + length bytes) last ≤ max at first → sum_over (written xs at bytes) first last ≡ sum_over xs first last
    apart none =
        total-range (written xs at bytes) first last even order (omega (arith, whole, inside))
        ∙ total-same g f first (last - first) (λ k a b. index-outside xs bytes at k room (outside at first last (length bytes) k none a (omega (arith, order, b))))
        ∙ sym (total-range xs first last even order inside)

    before_long : length before ≡ length bytes
    before_long = range-length xs at (at + length bytes) (omega arith) room ∙ omega arith

    was_long : max at first < min (at + length bytes) last → length old ≡ min (at + length bytes) last - max at first
    was_long meet = range-length before (max at first - at) (min (at + length bytes) last - at) (omega (arith, meet)) (omega (arith, before_long)) ∙ omega (arith, meet)

    is_long : max at first < min (at + length bytes) last → length new ≡ min (at + length bytes) last - max at first
    is_long meet = range-length bytes (max at first - at) (min (at + length bytes) last - at) (omega (arith, meet)) (omega arith) ∙ omega (arith, meet)

    was_reads : max at first < min (at + length bytes) last → (k : ℕ) → k < min (at + length bytes) last - max at first → f (max at first + k) ≡ get_or old k 0
    was_reads meet k h =
        sym (range-index before (max at first - at) (min (at + length bytes) last - at) k (omega (arith, h, meet))
        ∙ range-index xs at (at + length bytes) (max at first - at + k) (omega (arith, h, meet)) ∙ ap f (omega arith))

    is_reads : max at first < min (at + length bytes) last → (k : ℕ) → k < min (at + length bytes) last - max at first → g (max at first + k) ≡ get_or new k 0
    is_reads meet k h =
        ap g (omega arith) ∙ index-inside xs bytes at (max at first - at + k) room (omega (arith, h, meet))
        ∙ sym (range-index bytes (max at first - at) (min (at + length bytes) last - at) k (omega (arith, h, meet)))

    overlap : max at first < min (at + length bytes) last → (sum_over (written xs at bytes) first last + both) % 65535 ≡ (sum_over xs first last + field) % 65535
    overlap meet =
        let from = max at first in
        let to = min (at + length bytes) last in
        let kept = changed f g first from to last (omega arith) (omega (arith, meet)) (omega arith)
        (λ k a b. index-outside xs bytes at k room (inl (omega (arith, a, b))))
        (λ k a b. index-outside xs bytes at k room (inr (omega (arith, a, b))))
        in
        let was : sum_at from old ≡ residue (total f from (to - from)) = sum-placed old f from (to - from) (was_long meet) (was_reads meet) in
        let is : sum_at from new ≡ residue (total g from (to - from)) = sum-placed new g from (to - from) (is_long meet) (is_reads meet) in
        let p = residue-quotient (total f from (to - from)) in
        let q = residue-quotient (total g from (to - from)) in
        let shift = keeps (sum_at from old) (sum_at from new) (omega (arith, was, residue-bound (total f from (to - from)))) (omega (arith, is, residue-bound (total g from (to - from)))) in
        let one = total-range xs first last even order inside in
        let two = total-range (written xs at bytes) first last even order (omega (arith, whole, inside)) in
        omega (arith, kept, was, is, p.1, q.1, shift, one, two)
