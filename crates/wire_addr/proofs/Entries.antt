-- Tables of digits, checked entry by entry.
use Rattle.std.proofs.Common.{◌≡◌, ℕ, zero, suc, ◌+◌, ◌*◌, ◌/◌, ◌%◌, ◌<◌, ◌≤◌, ◌==◌, ◌&&◌, Bool, true, List, [], ◌∷◌, ◌++◌, length, get_or, take, decimal, bytes_eq, nat_lt, IsAscii, T, ltb→lt, subst, sym, ap, ◌∙◌, arith, eqb-true}
use Rattle.std.proofs.lemmas.Bool.{and_parts}
use Rattle.std.proofs.lemmas.List.{take-take, take_at}
use Rattle.std.proofs.lemmas.Slice.Eq.{bytes_eq-Decides}
use Rattle.std.proofs.lemmas.Str.Ascii.{IsAscii-cons, IsAscii-nil}
use Rattle.std.specs.Char.{digit_char}
use Rattle.std.specs.Int.{to_le_bytes, w32}

-- the two hex digits of a number as one number, the first digit in the low byte
abbrev pub pair_of : ℕ → ℕ
pair_of n = digit_char (n % 16) * 256 + digit_char (n / 16)

-- the table has these of each number from one on
abbrev pub are_pairs : ℕ → List ℕ → Bool
are_pairs n [] = true
are_pairs n (pair ∷ table) = (pair == pair_of n) && are_pairs (n + 1) table

pair_from : (n k : ℕ) (table : List ℕ) → are_pairs n table ≡ true → k < length table → get_or table k 0 ≡ pair_of (n + k)
pair_from n k [] all within = absurd (omega arith)
pair_from n zero (pair ∷ table) all within =
    let place : n ≡ n + 0 = omega arith in
    eqb-true _ _ (and_parts _ _ all).0 ∙ ap pair_of place
pair_from n (suc k) (pair ∷ table) all within =
    let place : n + 1 + k ≡ n + suc k = omega arith in
    pair_from (n + 1) k table (and_parts _ _ all).1 (omega arith) ∙ ap pair_of place

-- an entry of a checked table
pub pair_at : (table : List ℕ) (k : ℕ) → k < 256 → length table ≡ 256 → are_pairs 0 table ≡ true → get_or table k 0 ≡ pair_of k
pair_at table k within size all =
    let place : 0 + k ≡ k = omega arith in
    pair_from 0 k table all (omega arith) ∙ ap pair_of place

-- a digit is ASCII
pub digit_small : (n : ℕ) → n < 16 → digit_char n < 128
digit_small n small = grind (arith)

-- ---- decimal digits

abbrev pub are_ascii : List ℕ → Bool
are_ascii [] = true
are_ascii (b ∷ bytes) = nat_lt b 128 && are_ascii bytes

IsAscii-tested : (bytes : List ℕ) → are_ascii bytes ≡ true → IsAscii bytes
IsAscii-tested [] all = IsAscii-nil
IsAscii-tested (b ∷ bytes) all = IsAscii-cons b bytes (ltb→lt b 128 (subst T (sym (and_parts _ _ all).0) tt)) (IsAscii-tested bytes (and_parts _ _ all).1)

-- bytes that begin with the decimal digits of a number and a dot
abbrev pub begins_with : ℕ → List ℕ → Bool
begins_with n bytes = bytes_eq (take (length (decimal n) + 1) bytes) (decimal n ++ 46 ∷ []) && are_ascii bytes

-- the bytes of the table's entries do so, for each number from one on
abbrev pub are_decimals : ℕ → List ℕ → Bool
are_decimals n [] = true
are_decimals n (entry ∷ table) = begins_with n (to_le_bytes w32 entry) && are_decimals (n + 1) table

decimal_from : (n k : ℕ) (table : List ℕ) → are_decimals n table ≡ true → k < length table → begins_with (n + k) (to_le_bytes w32 (get_or table k 0)) ≡ true
decimal_from n k [] all within = absurd (omega arith)
decimal_from n zero (entry ∷ table) all within =
    let place : n ≡ n + 0 = omega arith in
    subst (λ (m : ℕ). begins_with m (to_le_bytes w32 entry) ≡ true) place (and_parts _ _ all).0
decimal_from n (suc k) (entry ∷ table) all within =
    let place : n + 1 + k ≡ n + suc k = omega arith in
    subst (λ (m : ℕ). begins_with m (to_le_bytes w32 (get_or table k 0)) ≡ true) place (decimal_from (n + 1) k table (and_parts _ _ all).1 (omega arith))

decimal_at : (table : List ℕ) (k : ℕ) → k < 256 → length table ≡ 256 → are_decimals 0 table ≡ true → begins_with k (to_le_bytes w32 (get_or table k 0)) ≡ true
decimal_at table k within size all =
    let place : 0 + k ≡ k = omega arith in
    subst (λ (m : ℕ). begins_with m (to_le_bytes w32 (get_or table k 0)) ≡ true) place (decimal_from 0 k table all (omega arith))

-- an entry of a checked table begins with the digits and a dot
pub decimal_text : (table : List ℕ) (k : ℕ) → k < 256 → length table ≡ 256 → are_decimals 0 table ≡ true
    → take (length (decimal k) + 1) (to_le_bytes w32 (get_or table k 0)) ≡ decimal k ++ 46 ∷ []
decimal_text table k within size all =
    (bytes_eq-Decides (take (length (decimal k) + 1) (to_le_bytes w32 (get_or table k 0))) (decimal k ++ 46 ∷ [])).0 (and_parts _ _ (decimal_at table k within size all)).0

-- and is ASCII
pub decimal_ascii : (table : List ℕ) (k : ℕ) → k < 256 → length table ≡ 256 → are_decimals 0 table ≡ true → IsAscii (to_le_bytes w32 (get_or table k 0))
decimal_ascii table k within size all = IsAscii-tested (to_le_bytes w32 (get_or table k 0)) (and_parts _ _ (decimal_at table k within size all)).1

-- the text before the dot
pub front_of : (bytes text : List ℕ) (n : ℕ) → take (length text + 1) bytes ≡ text ++ 46 ∷ [] → n ≡ length text → n ≤ 3 → take n (take 3 bytes) ≡ text
front_of bytes text n whole len most =
    take-take n 3 bytes most ∙ sym (take-take n (length text + 1) bytes (omega (arith, len)))
    ∙ ap (take n) whole ∙ take_at text (46 ∷ []) n (sym len)
