-- A part that lies within a range has its answer.
use Rattle.std.proofs.Common.{ℕ, ◌≡◌, ◌∙◌, ◌+◌, ◌++◌, ◌-◌, ◌*◌, ◌%◌, ◌^◌, ◌<◌, ◌≤◌, inl, inr, List, ap, arith, drop, length, slice_index_or, subst, sym, take}
use Rattle.std.proofs.lemmas.Bool.{cases_lt}
use Rattle.std.proofs.lemmas.List.{drop-append-le, drop_at, get_or_default, get_or_past, length-drop, take-append-le, take_all, take_at}
use Rattle.std.proofs.Math.Nat.{le_of_mul-le-mul_right, lt_of_mul-lt-mul_right}
use Rattle.app_router.specs.Table.{AreEnough, AreFilled, AreParts, AreRanges, IsAnswer, IsClear, IsEntry, IsInPart, IsInRange, IsTable, IsWithinRange, answer_of, half_at, hints_in, range_at, start_of}
use Rattle.ip_wire.specs.declared.IpAddress.TheVariants.{Ipv4}
use Rattle.ip_wire.specs.declared.IpCidr.{IpCidr}

-- the addresses of the part are in the range
in_range : (ranges : List ℕ) (count p k addr : ℕ) → p < count → IsWithinRange ranges count p k → IsInPart count p addr → IsInRange ranges k addr
in_range ranges count p k addr below within inside =
    let pos : 0 < count = omega (arith, below) in
    let from : p * 2 ^ 32 ≤ addr * count = omega (arith, inside) in
    let to : addr * count < (p + 1) * 2 ^ 32 = omega (arith, inside) in (
      le_of_mul-le-mul_right (omega (arith, within.low, from)) pos,
      lt_of_mul-lt-mul_right count (omega (arith, within.high, to)),
    )

pub parts : (blocks : List IpCidr) (ranges cells : List ℕ) → AreRanges blocks ranges
    → ((p : ℕ) → p < 2 * length cells → IsEntry ranges (2 * length cells) p (half_at cells p)) → AreParts blocks cells
parts blocks ranges cells are entries p below whole bytes is inside =
    let entry = entries p below whole in
    let k = entry.0 in
    let within = entry.1 in
    let e : half_at cells p - 2 ^ 31 ≡ answer_of (range_at ranges k) = omega (arith, entry.2) in
    subst (IsAnswer blocks (Ipv4 bytes)) (sym e) (are k within.listed bytes is (in_range ranges (2 * length cells) p k _ below within inside))

-- the next range after the last one that begins before a part, in which none begins
pub ends_after : (ranges : List ℕ) (count p k : ℕ) → p < count → IsClear ranges count p
    → (k + 1 < length ranges → p * 2 ^ 32 < start_of (range_at ranges (k + 1)) * count) → (p + 1) * 2 ^ 32 ≤ start_of (range_at ranges (k + 1)) * count
ends_after ranges count p k within clear after = elim (cases_lt (k + 1) (length ranges)) [
  | inl below ↦ let begins = after below in
      elim (clear (k + 1) below).0 [ inl low ↦ absurd (omega (arith, low, begins)) | inr high ↦ high ]
  | inr past ↦ subst (λ r. (p + 1) * 2 ^ 32 ≤ start_of r * count) (sym (get_or_past ranges (k + 1) (2 ^ 64) past)) (omega (arith, within))
]

-- the hints in a table
pub hints_between : (n : ℕ) (entries hints ranges : List ℕ) → length entries ≡ 2 * (n + 1) → length hints ≡ n + 1
    → hints_in n (entries ++ (hints ++ ranges)) ≡ hints
hints_between n entries hints ranges entries_len hints_len =
    ap (take (n + 1)) (drop_at entries (hints ++ ranges) (2 * (n + 1)) entries_len) ∙ take_at hints ranges (n + 1) hints_len

-- the hints in a longer list of cells
pub hints_before : (n : ℕ) (cells following : List ℕ) → length cells ≡ 5 * (n + 1) → hints_in n (cells ++ following) ≡ hints_in n cells
hints_before n cells following len =
    let front = 2 * (n + 1) in
    ap (take (n + 1)) (drop-append-le front cells following (omega (arith, len)))
    ∙ take-append-le (n + 1) (drop front cells) following (omega (arith, len, length-drop front cells))

-- entries, hints and ranges of these lengths are a table
pub table : (blocks : List IpCidr) (entries hints ranges : List ℕ) → length entries ≡ 2 * (length blocks + 1)
    → length hints ≡ length blocks + 1 → length ranges ≡ 2 * (length blocks + 1)
    → AreParts blocks entries → AreFilled blocks entries → AreRanges blocks ranges → IsTable blocks (entries ++ (hints ++ ranges))
table blocks entries hints ranges entries_len hints_len ranges_len are_parts are_filled are_ranges =
    let u = length blocks + 1 in
    let cells = entries ++ (hints ++ ranges) in
    let front : take (2 * u) cells ≡ entries = take_at entries (hints ++ ranges) (2 * u) entries_len in
    let back : take (2 * u) (drop u (drop (2 * u) cells)) ≡ ranges =
    ap (λ (l : List ℕ). take (2 * u) (drop u l)) (drop_at entries (hints ++ ranges) (2 * u) entries_len)
    ∙ ap (take (2 * u)) (drop_at hints ranges u hints_len) ∙ take_all (2 * u) ranges (omega (arith, ranges_len)) in
    record {
      parts = λ _. subst (AreParts blocks) (sym front) are_parts;
      filled = λ _. subst (AreFilled blocks) (sym front) are_filled;
      ranges = λ _. subst (AreRanges blocks) (sym back) are_ranges;
    }

-- a table is one in a longer list of cells
pub longer : (blocks : List IpCidr) (cells following : List ℕ) → length cells ≡ 5 * (length blocks + 1) → IsTable blocks cells → IsTable blocks (cells ++ following)
longer blocks cells following len is =
    let u = length blocks + 1 in
    let rest = drop (2 * u) cells in
    let enough : AreEnough blocks cells = omega (arith, len) in
    let rest_len : length rest ≡ 3 * u = length-drop (2 * u) cells ∙ omega (arith, len) in
    let front : take (2 * u) (cells ++ following) ≡ take (2 * u) cells = take-append-le (2 * u) cells following (omega (arith, len)) in
    let back : take (2 * u) (drop u (drop (2 * u) (cells ++ following))) ≡ take (2 * u) (drop u rest) =
    ap (λ (l : List ℕ). take (2 * u) (drop u l)) (drop-append-le (2 * u) cells following (omega (arith, len)))
    ∙ ap (take (2 * u)) (drop-append-le u rest following (omega (arith, rest_len)))
    ∙ take-append-le (2 * u) (drop u rest) following (omega (arith, rest_len, length-drop u rest)) in
    record {
      parts = λ _. subst (AreParts blocks) (sym front) (is.parts enough);
      filled = λ _. subst (AreFilled blocks) (sym front) (is.filled enough);
      ranges = λ _. subst (AreRanges blocks) (sym back) (is.ranges enough);
    }

-- the range that begins at or before the last number with an address, and whose next one begins after it
pub found : (ranges : List ℕ) (k addr last : ℕ) → k + 1 < length ranges → last ≡ addr * 2 ^ 32 + (2 ^ 32 - 1) → slice_index_or ranges k 0 ≤ last
    → last < slice_index_or ranges (k + 1) 0
    → (j : ℕ) × (j < length ranges) × IsInRange ranges j addr × (slice_index_or ranges k 0 % 2 ^ 32 ≡ answer_of (range_at ranges j))
found ranges k addr last within is low high =
    let here : slice_index_or ranges k 0 ≡ range_at ranges k = get_or_default ranges k 0 (2 ^ 64) (omega (arith, within)) in
    let after : slice_index_or ranges (k + 1) 0 ≡ range_at ranges (k + 1) = get_or_default ranges (k + 1) 0 (2 ^ 64) within in
    (k, omega (arith, within), (omega (arith, here, is, low), omega (arith, after, is, high)), ap (λ n. n % 2 ^ 32) here)
