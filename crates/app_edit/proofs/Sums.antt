-- The sums of a header and of a transport packet before and after an edit.
use Rattle.std.proofs.Common.{ℕ, suc, ◌≡◌, ◌≢◌, ◌∙◌, ◌⊎◌, ◌+◌, ◌-◌, ◌*◌, ◌/◌, ◌%◌, ◌<◌, ◌≤◌, Bool, List, ap, ap₂, arith, drop, false, get_or, if◌then◌else◌, inl, inr, length, max, min, nat_lt, slice_index, slice_range, sym, true}
use Rattle.std.proofs.lemmas.List.{get_or-drop}
use Rattle.byteorder.specs.Endian.{big_bytes}
use Rattle.ip_wire.specs.WordSum.{residue, updated}
use Rattle.ip_wire.proofs.Spelled.{AreBytes}
use Rattle.app_edit.proofs.Covers.{changed, sum_over}
use Rattle.app_edit.proofs.Totals.{index-inside, index-outside, even-worth, odd-worth, total, total-range, total-same, total-two, worth, written-length}
use Rattle.app_edit.specs.Checksums.{sum_at, updated_udp}
use Rattle.app_edit.specs.Edited.{updated_over, with_word, word_at, written}

-- ---- bytes outside of a covered part, and a word in it

-- the bytes from at up to at + n are none of those from first up to last
abbrev pub IsApart : ℕ → ℕ → ℕ → ℕ → Type 0
IsApart at n first last = (at + n ≤ first) ⊎ (last ≤ at)

place-apart : (at n first last k : ℕ) → IsApart at n first last → first ≤ k → k < last → (k < at) ⊎ (at + n ≤ k)
place-apart at n first last k (inl before) a b = inr (omega (arith, before, a))
place-apart at n first last k (inr after) a b = inl (omega (arith, after, b))

pub sum-apart : (xs bytes : List ℕ) (at first last : ℕ) → first % 2 ≡ 0 → first ≤ last → last ≤ length xs → at + length bytes ≤ length xs
    → IsApart at (length bytes) first last → sum_over (written xs at bytes) first last ≡ sum_over xs first last
sum-apart xs bytes at first last even order inside room apart =
    total-range (written xs at bytes) first last even order (omega (arith, written-length xs bytes at room, inside))
    ∙ total-same (slice_index (written xs at bytes)) (slice_index xs) first (last - first)
    (λ k a b. index-outside xs bytes at k room (place-apart at (length bytes) first last k apart a (omega (arith, order, b))))
    ∙ sym (total-range xs first last even order inside)

pub word-is : (xs : List ℕ) (c : ℕ) → word_at xs c ≡ 256 * slice_index xs c + slice_index xs (c + 1)
word-is xs c =
    let high : get_or (drop c xs) 0 0 ≡ slice_index xs c = get_or-drop c xs 0 0 ∙ ap (slice_index xs) (omega arith) in
    let low : get_or (drop c xs) 1 0 ≡ slice_index xs (c + 1) = get_or-drop c xs 1 0 in
    omega (arith, high, low)

pub word-fits : (xs : List ℕ) (c : ℕ) → AreBytes xs → word_at xs c ≤ 65535
word-fits xs c are = omega (arith, word-is xs c, are c, are (c + 1))

pub word-apart : (xs bytes : List ℕ) (at c : ℕ) → at + length bytes ≤ length xs → IsApart at (length bytes) c (c + 2) → word_at (written xs at bytes) c ≡ word_at xs c
word-apart xs bytes at c room apart =
    let one = index-outside xs bytes at c room (place-apart at (length bytes) c (c + 2) c apart (omega arith) (omega arith)) in
    let two = index-outside xs bytes at (c + 1) room (place-apart at (length bytes) c (c + 2) (c + 1) apart (omega arith) (omega arith)) in
    omega (arith, word-is (written xs at bytes) c, word-is xs c, one, two)

pub word-written : (xs : List ℕ) (c n : ℕ) → c + 2 ≤ length xs → n ≤ 65535 → word_at (with_word xs c n) c ≡ n
word-written xs c n room fits =
    let high : slice_index (with_word xs c n) c ≡ n / 256 % 256 = ap (slice_index (with_word xs c n)) (omega arith) ∙ index-inside xs (big_bytes 2 n) c 0 room (omega arith) in
    let low : slice_index (with_word xs c n) (c + 1) ≡ n % 256 = index-inside xs (big_bytes 2 n) c 1 room (omega arith) in
    word-is (with_word xs c n) c ∙ ap₂ (λ a b. 256 * a + b) high low ∙ omega (arith, fits)

total-word : (xs : List ℕ) (c : ℕ) → c % 2 ≡ 0 → total (slice_index xs) c 2 ≡ word_at xs c
total-word xs c even =
    let low : worth (suc c) (slice_index xs (suc c)) ≡ slice_index xs (c + 1) = odd-worth (suc c) (slice_index xs (suc c)) (omega (arith, even)) ∙ ap (slice_index xs) (omega arith) in
    total-two (slice_index xs) c ∙ omega (arith, even-worth c (slice_index xs c) even, low, word-is xs c)

-- a word in a covered part takes the place of the old one
pub sum-word : (xs : List ℕ) (c n first last : ℕ) → first % 2 ≡ 0 → c % 2 ≡ 0 → first ≤ c → c + 2 ≤ last → last ≤ length xs → n ≤ 65535
    → sum_over (with_word xs c n) first last + word_at xs c ≡ sum_over xs first last + n
sum-word xs c n first last even place begins ends inside fits =
    let room : c + length (big_bytes 2 n) ≤ length xs = omega (arith, ends, inside) in
    let whole = written-length xs (big_bytes 2 n) c room in
    let kept = changed (slice_index xs) (slice_index (with_word xs c n)) first c (c + 2) last begins (omega arith) ends
    (λ k a b. index-outside xs (big_bytes 2 n) c k room (inl b))
    (λ k a b. index-outside xs (big_bytes 2 n) c k room (inr a))
    in
    let two : c + 2 - c ≡ 2 = omega arith in
    let was = ap (total (slice_index xs) c) two ∙ total-word xs c place in
    let is = ap (total (slice_index (with_word xs c n)) c) two ∙ total-word (with_word xs c n) c place ∙ word-written xs c n (omega (arith, ends, inside)) fits in
    let one = total-range xs first last even (omega (arith, begins, ends)) inside in
    let other = total-range (with_word xs c n) first last even (omega (arith, begins, ends)) (omega (arith, whole, inside)) in
    omega (arith, kept, was, is, one, other)

-- ---- the bounds of an updated field

pub updated-fits : (update : ℕ → ℕ → ℕ → ℕ) (field first last at : ℕ) (before after : List ℕ) → field ≤ 65535 → ((old new : ℕ) → update field old new ≤ 65535)
    → updated_over update field first last at before after ≤ 65535
updated-fits update field first last at before after fits bound =
    let from = max at first in
    let to = min (at + length after) last in
    choice (nat_lt from to) (update field (sum_at from (slice_range before (from - at) (to - at))) (sum_at from (slice_range after (from - at) (to - at)))) (bound _ _)
  where
    choice : (b : Bool) (u : ℕ) → u ≤ 65535 → (if b then u else field) ≤ 65535
    choice true u h = h
    choice false u h = fits

pub plain-fits : (field old new : ℕ) → updated field old new ≤ 65535
plain-fits field old new = omega arith

pub udp-fits : (field old new : ℕ) → updated_udp field old new ≤ 65535
udp-fits field old new = grind arith

-- a UDP checksum that is there is there after an update
pub udp-stays : (field first last at : ℕ) (before after : List ℕ) → field ≢ 0 → updated_over updated_udp field first last at before after ≢ 0
udp-stays field first last at before after some =
    let from = max at first in
    let to = min (at + length after) last in
    choice (nat_lt from to) (updated_udp field (sum_at from (slice_range before (from - at) (to - at))) (sum_at from (slice_range after (from - at) (to - at)))) (not-zero _ _)
  where
    not-zero : (old new : ℕ) → updated_udp field old new ≢ 0
    not-zero old new = grind arith

    choice : (b : Bool) (u : ℕ) → u ≢ 0 → (if b then u else field) ≢ 0
    choice true u h = h
    choice false u h = some

pub residue-least : (t : ℕ) → 0 < t → 1 ≤ residue t
unfolding residue
residue-least t h = grind arith

-- the complement of a field that is not 0 stays below 0xffff
pub updated-below : (field first last at : ℕ) (before after : List ℕ) → field < 65535 → updated_over updated field first last at before after < 65535
updated-below field first last at before after below =
    let from = max at first in
    let to = min (at + length after) last in
    choice (nat_lt from to) (updated field (sum_at from (slice_range before (from - at) (to - at))) (sum_at from (slice_range after (from - at) (to - at)))) (plain _ _)
  where
    plain : (old new : ℕ) → updated field old new < 65535
    plain old new = omega (arith, residue-least ((65535 - field) + (65535 - old) + new) (omega (arith, below)), below)

    choice : (b : Bool) (u : ℕ) → u < 65535 → (if b then u else field) < 65535
    choice true u h = h
    choice false u h = below
