-- What is written of a TCP header is bytes.
use Rattle.std.proofs.Common.{ℕ, zero, suc, ◌<◌, ◌≤◌, ◌+◌, ◌-◌, ◌^◌, ◌==◌, ◌||◌, List, [], ◌∷◌, ◌++◌, Option, Some, None, IfSome, count_by, is_none, is_some, length, refl, sym, subst, arith}
use Rattle.std.proofs.lemmas.Bool.{cond_both}
use Rattle.std.proofs.lemmas.Grind.{flat_map-append}
use Rattle.std.proofs.lemmas.List.Sums.{count_by-le-length}
use Rattle.std.specs.Int.{bytes_high_first}
use Rattle.std.specs.Prelude.{replicate}
use Rattle.ip_wire.proofs.Layers.{byte-lt}
use Rattle.net_base.proofs.ByteLists.{AreBytes-append, AreBytes-bytes_high_first, AreBytes-cons, AreBytes-tested}
use Rattle.net_base.proofs.Spelled.{AreBytes}
use Rattle.wire_tcp_options.proofs.Ranges.{length-range_bytes}
use Rattle.wire_tcp_options.specs.TcpItems.{Item, item, text, texts}
use Rattle.wire_tcp_options.specs.TcpOption.{range_bytes}
use Rattle.wire_tcp_options.specs.declared.TcpTimestampRepr.{TcpTimestampRepr}
use Rattle.wire_tcp.specs.TcpRepr.{IsInRange, TcpHeader, header_len_of, items_of, option_bytes, sack_items, segment_size_items, segment_with, timestamp_items, window_scale_items}

none : AreBytes []
none i = omega arith

with_number : (front : List ℕ) (size n : ℕ) → AreBytes front → AreBytes (front ++ bytes_high_first size n)
with_number front size n is = AreBytes-append front (bytes_high_first size n) is (AreBytes-bytes_high_first size n)

-- ---- the texts of the options

texts-append : (xs ys : List Item) → AreBytes (texts xs) → AreBytes (texts ys) → AreBytes (texts (xs ++ ys))
texts-append xs ys h k = subst AreBytes (sym (flat_map-append text xs ys)) (AreBytes-append (texts xs) (texts ys) h k)

segment_size-bytes : (o : Option ℕ) → AreBytes (texts (segment_size_items o))
segment_size-bytes None = none
segment_size-bytes (Some n) = with_number (2 ∷ 4 ∷ []) 2 n (AreBytes-tested (2 ∷ 4 ∷ []) refl)

window_scale-bytes : (o : Option ℕ) → IfSome o (λ n. n < 2 ^ 8) → AreBytes (texts (window_scale_items o))
window_scale-bytes None h = none
window_scale-bytes (Some n) h = AreBytes-append (3 ∷ 3 ∷ []) (n ∷ []) (AreBytes-tested (3 ∷ 3 ∷ []) refl) (AreBytes-cons n [] (omega (arith, h)) none)

timestamp-bytes : (o : Option TcpTimestampRepr) → AreBytes (texts (timestamp_items o))
timestamp-bytes None = none
timestamp-bytes (Some t) =
    with_number ((8 ∷ 10 ∷ []) ++ bytes_high_first 4 t.tsval) 4 t.tsecr (with_number (8 ∷ 10 ∷ []) 4 t.tsval (AreBytes-tested (8 ∷ 10 ∷ []) refl))

range_bytes-bytes : (ranges : List (Option (ℕ × ℕ))) → AreBytes (range_bytes ranges)
range_bytes-bytes [] = none
range_bytes-bytes (None ∷ ranges) = range_bytes-bytes ranges
range_bytes-bytes (Some r ∷ ranges) =
    AreBytes-append (bytes_high_first 4 r.0 ++ bytes_high_first 4 r.1) (range_bytes ranges)
    (with_number (bytes_high_first 4 r.0) 4 r.1 (AreBytes-bytes_high_first 4 r.0)) (range_bytes-bytes ranges)

ranges-bytes : (ranges : List (Option (ℕ × ℕ))) → length ranges ≤ 31 → AreBytes (texts (item 5 (range_bytes ranges) ∷ []))
ranges-bytes ranges few =
    let len : 2 + length (range_bytes ranges) < 256 = let e = length-range_bytes ranges in let c = count_by-le-length is_some ranges in omega (arith, e, c, few) in
    let said = AreBytes-cons (2 + length (range_bytes ranges)) (range_bytes ranges) len (range_bytes-bytes ranges) in
    AreBytes-append (5 ∷ (2 + length (range_bytes ranges)) ∷ range_bytes ranges) [] (AreBytes-cons 5 ((2 + length (range_bytes ranges)) ∷ range_bytes ranges) (omega arith) said) none

sack-bytes : (v : TcpHeader) → length v.sack_ranges ≤ 31 → AreBytes (texts (sack_items v))
sack-bytes v few =
    cond_both v.sack_permitted (item 4 [] ∷ []) _ (λ items. AreBytes (texts items)) (λ _. AreBytes-tested (4 ∷ 2 ∷ []) refl) (λ _.
    cond_both (is_none v.ack_number || (count_by is_some v.sack_ranges == 0)) [] _ (λ items. AreBytes (texts items)) (λ _. none) (λ _.
    ranges-bytes v.sack_ranges few))

zeros-bytes : (n : ℕ) → AreBytes (replicate n 0)
zeros-bytes zero = none
zeros-bytes (suc n) = AreBytes-cons 0 (replicate n 0) (omega arith) (zeros-bytes n)

options-bytes : (v : TcpHeader) → IsInRange v → AreBytes (option_bytes v)
options-bytes v h =
    let size = segment_size_items v.max_seg_size in
    let scale = size ++ window_scale_items v.window_scale in
    let scaled = texts-append size (window_scale_items v.window_scale) (segment_size-bytes v.max_seg_size) (window_scale-bytes v.window_scale h.window_scale) in
    let few : length v.sack_ranges ≤ 31 = let places = h.places in omega (arith, places) in
    let ranged = texts-append scale (sack_items v) scaled (sack-bytes v few) in
    let all = texts-append (scale ++ sack_items v) (timestamp_items v.timestamp) ranged (timestamp-bytes v.timestamp) in
    let padding = header_len_of v - 20 - length (texts (items_of v)) in
    AreBytes-append (texts (items_of v)) (replicate padding 0) all (zeros-bytes padding)

-- ---- the segment

pub AreBytes-segment : (v : TcpHeader) (q : List ℕ) (checksum : ℕ) → IsInRange v → AreBytes q → AreBytes (segment_with v q checksum)
AreBytes-segment v q checksum h k =
    let options = options-bytes v h in
    let zero_byte : 0 < 256 = omega arith in
    search (AreBytes-cons, AreBytes-append, byte-lt, zero_byte, options) depth 30 fits 3000
