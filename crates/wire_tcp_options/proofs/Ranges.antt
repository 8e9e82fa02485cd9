-- SACK ranges as bytes, and writes to a part of a slice.
use Rattle.std.proofs.Common.{◌≡◌, ℕ, ◌+◌, ◌*◌, ◌<◌, List, [], ◌∷◌, ◌++◌, length, get_or, take, drop, Option, Some, None, is_some, cond, count_by, arith, sym, ap, ◌∙◌, append_assoc}
use Rattle.std.proofs.lemmas.Grind.{flat_map-append}
use Rattle.std.proofs.lemmas.List.{take_more, append-nil, drop-drop, drop_at, take_at}
use Rattle.std.proofs.lemmas.List.Elements.{filter_map-append}
use Rattle.std.proofs.lemmas.List.Sums.{sum_by-cons}
use borrow.Rule.Slice.PartMut.{put_mid}
use Rattle.byteorder.specs.Endian.{big_bytes}
use Rattle.wire_tcp_options.specs.TcpOption.{range_bytes}
use Rattle.std.proofs.lemmas.Grind.{common_steps}
use Rattle.std.proofs.lemmas.Bool.Decides.{nat_tests}

abbrev Ranges : Type 0
Ranges = List (Option (ℕ × ℕ))

-- the bytes of joined lists of ranges
pub range_bytes-append : (xs ys : Ranges) → range_bytes (xs ++ ys) ≡ range_bytes xs ++ range_bytes ys
range_bytes-append xs ys = grind (arith, common_steps, nat_tests, filter_map-append, flat_map-append)

-- eight bytes for each range
pub length-range_bytes : (xs : Ranges) → length (range_bytes xs) ≡ 8 * count_by is_some xs
length-range_bytes [] = omega arith
length-range_bytes (None ∷ xs) = length-range_bytes xs
length-range_bytes (Some r ∷ xs) =
    let e = length-range_bytes xs in
    let n = sum_by-cons (λ x. cond (is_some x) 1 0) (Some r) xs in
    omega (arith, e, n)

-- one more range
pub range_bytes_more : (xs : Ranges) (i start end : ℕ) → i < length xs → get_or xs i None ≡ Some (start, end) → range_bytes (take (i + 1) xs) ≡ range_bytes (take i xs) ++ (big_bytes 4 start ++ big_bytes 4 end)
range_bytes_more xs i start end h e =
    ap range_bytes (take_more xs i None h) ∙ range_bytes-append (take i xs) (get_or xs i None ∷ []) ∙ ap (λ r. range_bytes (take i xs) ++ range_bytes (r ∷ [])) e

-- no range
pub range_bytes_same : (xs : Ranges) (i : ℕ) → i < length xs → get_or xs i None ≡ None → range_bytes (take (i + 1) xs) ≡ range_bytes (take i xs)
range_bytes_same xs i h e =
    ap range_bytes (take_more xs i None h) ∙ range_bytes-append (take i xs) (get_or xs i None ∷ []) ∙ ap (λ r. range_bytes (take i xs) ++ range_bytes (r ∷ [])) e ∙ append-nil _

-- a slice that is written from an index on
pub put_mid_more : (b old front new : List ℕ) (at k : ℕ) → b ≡ front ++ drop at old → length front ≡ at → put_mid at k b new ≡ (front ++ new) ++ drop (at + k) old
put_mid_more b old front new at k is place = grind (arith, common_steps, nat_tests, take_at, drop_at, drop-drop, append_assoc)

-- the next range, written at its index
pub range_written : (xs : Ranges) (i start end : ℕ) (b old new : List ℕ) (at k : ℕ) → i < length xs → get_or xs i None ≡ Some (start, end) → b ≡ range_bytes (take i xs) ++ drop at old → at ≡ 8 * count_by is_some (take i xs) → k ≡ 8 → new ≡ big_bytes 4 start ++ big_bytes 4 end → put_mid at k b new ≡ range_bytes (take (i + 1) xs) ++ drop (at + 8) old
range_written xs i start end b old new at k inside is done place eight written =
    put_mid_more b old (range_bytes (take i xs)) new at k done (length-range_bytes (take i xs) ∙ sym place)
    ∙ rw (eight, written) (ap (λ (l : List ℕ). l ++ drop (at + 8) old) (sym (range_bytes_more xs i start end inside is)))
