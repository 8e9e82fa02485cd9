-- Emitted options parse as those of the normal form.
use Rattle.std.proofs.Common.{◌≡◌, ℕ, zero, suc, ◌+◌, ◌-◌, ◌*◌, ◌^◌, ◌<◌, ◌≤◌, Bool, true, false, cond, eqb, ltb, ◌||◌, List, [], ◌∷◌, ◌++◌, length, map, drop, get_or, count_by, replicate, Option, Some, None, is_some, is_none, arith, refl, sym, ap, ◌∙◌, min, IfSome, length-append}
use Rattle.std.specs.Option.{option_or, option_map, option_map_or}
use Rattle.std.specs.List.{AllByRecursion, flat_map, filter_map}
use Rattle.std.proofs.lemmas.Bool.{eqb-true, false_from_ne_true, lt-ltb, ltb-true}
use Rattle.std.proofs.lemmas.Bool.Decides.{nat_tests}
use Rattle.std.proofs.lemmas.List.FromFn.{fill_by_all}
use Rattle.std.proofs.lemmas.List.{drop-drop, length-replicate, length-map}
use Rattle.std.proofs.lemmas.List.Sums.{sum_by-cons, count_by-le-length}
use Rattle.std.proofs.Math.Dec.{eqb-suc-zero}
use Rattle.byteorder.specs.Endian.{big_number, big_bytes}
use Rattle.std.proofs.lemmas.Nat.{from_be_bytes-to_be_bytes_4}
use Rattle.wire_tcp_options.specs.TcpItems.{Item, item, IsItem, IsTail, block_at, first_blocks, last_of, is_of, is_timestamp}
use Rattle.wire_tcp_options.specs.TcpOption.{range_bytes}
use Rattle.wire_tcp_options.proofs.Items.{IsItem-ranges}
use Rattle.wire_tcp_options.proofs.Ranges.{length-range_bytes}
use Rattle.wire_tcp_options.specs.declared.tcp.TheConstants.{SACK_BLOCKS}
use Rattle.wire_tcp_options.specs.declared.tcp.timestamp.TcpTimestampRepr.{TcpTimestampRepr}
use Rattle.wire_tcp.specs.TcpRepr.{IsInRange, ReadsOptions, TcpHeader, closed, items_of, no_ranges, normal, option_bytes, sack_items, segment_size_items, stamp_of, timestamp_items, window_scale_items}
use Rattle.std.proofs.lemmas.Grind.{common_steps}

or_assoc : (a b c : Option Item) → option_or (option_or a b) c ≡ option_or a (option_or b c)
or_assoc a b c = grind arith

or_none : (a : Option Item) → option_or a None ≡ a
or_none a = grind arith

-- the last item of joined lists
last_of-append : (p : Item → Bool) (xs ys : List Item) → last_of p (xs ++ ys) ≡ option_or (last_of p ys) (last_of p xs)
last_of-append p [] ys = sym (or_none (last_of p ys))
last_of-append p (x ∷ xs) ys = ap (λ o. option_or o (cond (p x) (Some x) None)) (last_of-append p xs ys) ∙ or_assoc (last_of p ys) (last_of p xs) (cond (p x) (Some x) None)

-- of two lists, one is empty
in_front : (p : Item → Bool) (xs ys : List Item) → last_of p ys ≡ None → last_of p (xs ++ ys) ≡ last_of p xs
in_front p xs ys none = last_of-append p xs ys ∙ ap (λ o. option_or o (last_of p xs)) none

in_back : (p : Item → Bool) (xs ys : List Item) → last_of p xs ≡ None → last_of p (xs ++ ys) ≡ last_of p ys
in_back p xs ys none = last_of-append p xs ys ∙ ap (option_or (last_of p ys)) none ∙ or_none (last_of p ys)

no_segment : (p : Item → Bool) → ((c : List ℕ) → p (item 2 c) ≡ false) → (o : Option ℕ) → last_of p (segment_size_items o) ≡ None
no_segment p h o = grind arith

no_scale : (p : Item → Bool) → ((c : List ℕ) → p (item 3 c) ≡ false) → (o : Option ℕ) → last_of p (window_scale_items o) ≡ None
no_scale p h o = grind arith

no_stamp : (p : Item → Bool) → ((c : List ℕ) → p (item 8 c) ≡ false) → (o : Option TcpTimestampRepr) → last_of p (timestamp_items o) ≡ None
no_stamp p h o = grind arith

abbrev sack_list : Bool → Bool → List ℕ → List Item
sack_list permitted none bytes = cond permitted (item 4 [] ∷ []) (cond none [] (item 5 bytes ∷ []))

no_sack : (p : Item → Bool) → ((c : List ℕ) → p (item 4 c) ≡ false) → ((c : List ℕ) → p (item 5 c) ≡ false) → (s n : Bool) (bytes : List ℕ) → last_of p (sack_list s n bytes) ≡ None
no_sack p g h s n bytes = grind arith

-- the big-endian bytes of a number parse as the number
number_back_4 : (x : ℕ) (rest : List ℕ) → x < 2 ^ 32 → big_number 4 (big_bytes 4 x ++ rest) ≡ x
number_back_4 x rest h = let e = from_be_bytes-to_be_bytes_4 x h in omega (arith, e)

size_back : (o : Option ℕ) → IfSome o (λ n. n < 2 ^ 16) → o ≡ option_map (λ i. big_number 2 i.content) (last_of (is_of 2) (segment_size_items o))
size_back o fits = grind arith

scale_back : (o : Option ℕ) → o ≡ option_map (λ i. big_number 1 i.content) (last_of (is_of 3) (window_scale_items o))
scale_back o = grind arith

abbrev stamp_in : Item → ℕ × ℕ
stamp_in i = (big_number 4 i.content, big_number 4 (drop 4 i.content))

stamp_back : (o : Option TcpTimestampRepr) → IfSome o (λ t. (t.tsval < 2 ^ 32) × (t.tsecr < 2 ^ 32)) → o ≡ option_map stamp_of (option_map stamp_in (last_of is_timestamp (timestamp_items o)))
stamp_back o fits = grind arith

permitted_back : (s n : Bool) (bytes : List ℕ) → s ≡ is_some (last_of (is_of 4) (sack_list s n bytes))
permitted_back s n bytes = grind arith

-- the kept blocks
abbrev pub Pair : Type 0
Pair = ℕ × ℕ

abbrev pair_bytes : Pair → List ℕ
pair_bytes r = big_bytes 4 r.0 ++ big_bytes 4 r.1

abbrev block_from : List ℕ → ℕ → Option Pair
block_from content n = cond (ltb n (length content)) (Some (big_number 4 (drop n content), big_number 4 (drop (n + 4) content))) None

block_shape : (b b' : Bool) (x x' y y' : List ℕ) → b ≡ b' → x ≡ x' → y ≡ y' → cond {A = Option Pair} b (Some (big_number 4 x, big_number 4 y)) None ≡ cond b' (Some (big_number 4 x', big_number 4 y')) None
block_shape b b' x x' y y' p q r = rw (p, q, r) refl

ltb_shift : (n l : ℕ) → ltb (8 + n) (8 + l) ≡ ltb n l
ltb_shift n l = grind (arith, nat_tests)

block_shift : (p : Pair) (rest : List ℕ) (n : ℕ) → block_from (pair_bytes p ++ rest) (8 + n) ≡ block_from rest n
block_shift p rest n =
    let x = pair_bytes p ++ rest in
    let long : length x ≡ 8 + length rest = omega arith in
    let d : drop (8 + n) x ≡ drop n rest = sym (drop-drop n 8 x) in
    block_shape _ _ _ _ _ _ (ap (ltb (8 + n)) long ∙ ltb_shift n (length rest)) d (sym (drop-drop 4 (8 + n) x) ∙ ap (drop 4) d ∙ drop-drop 4 n rest)

abbrev pub PairFits : Pair → Type 0
PairFits r = (r.0 < 2 ^ 32) × (r.1 < 2 ^ 32)

block_first : (p : Pair) (rest : List ℕ) → PairFits p → block_from (pair_bytes p ++ rest) 0 ≡ Some p
block_first p rest fits =
    ap (λ c. cond {A = Option Pair} c (Some (big_number 4 (pair_bytes p ++ rest), big_number 4 (drop 4 (pair_bytes p ++ rest)))) None) (lt-ltb 0 (length (pair_bytes p ++ rest)) (omega arith))
    ∙ rw (number_back_4 p.0 (big_bytes 4 p.1 ++ rest) fits.0, number_back_4 p.1 rest fits.1) refl

block_get : (ps : List Pair) → AllByRecursion PairFits ps → (k : ℕ) → block_from (flat_map pair_bytes ps) (8 * k) ≡ get_or (map Some ps) k None
block_get [] all k = ap (λ c. cond {A = Option Pair} c (Some (big_number 4 (drop (8 * k) []), big_number 4 (drop (8 * k + 4) []))) None) (false_from_ne_true _ (λ e. let h = ltb-true (8 * k) 0 e in omega (arith, h)))
block_get (p ∷ ps) all zero = block_first p (flat_map pair_bytes ps) all.0
block_get (p ∷ ps) all (suc k) =
    let eight : 8 * suc k ≡ 8 + 8 * k = omega arith in
    ap (block_from (pair_bytes p ++ flat_map pair_bytes ps)) eight ∙ block_shift p (flat_map pair_bytes ps) (8 * k) ∙ block_get ps all.1 k

none_get : (m k : ℕ) → get_or {A = Option Pair} (replicate m None) k None ≡ None
none_get zero k = refl
none_get (suc m) zero = refl
none_get (suc m) (suc k) = none_get m k

closed_get : (ps : List Pair) (m k : ℕ) → get_or (map Some ps ++ replicate m None) k None ≡ get_or (map Some ps) k None
closed_get [] m k = none_get m k
closed_get (p ∷ ps) m zero = refl
closed_get (p ∷ ps) m (suc k) = closed_get ps m k

-- the ranges that are `Some`, in their order
abbrev pub somes : List (Option Pair) → List Pair
somes rs = filter_map (λ r. r) rs

somes-le : (rs : List (Option Pair)) → length (somes rs) ≤ length rs
somes-le [] = omega arith
somes-le (None ∷ rs) = let h = somes-le rs in omega (arith, h)
somes-le (Some r ∷ rs) = let h = somes-le rs in omega (arith, h)

somes_fit : (rs : List (Option Pair)) → AllByRecursion (λ r. IfSome r PairFits) rs → AllByRecursion PairFits (somes rs)
somes_fit [] all = tt
somes_fit (None ∷ rs) all = somes_fit rs all.1
somes_fit (Some r ∷ rs) all = (all.0, somes_fit rs all.1)

length-closed : (rs : List (Option Pair)) → length (closed rs) ≡ length rs
length-closed rs = grind (arith, common_steps, nat_tests, somes-le, length-append, length-map, length-replicate)

-- emitted ranges parse as these ranges without gaps
blocks_back : (rs : List (Option Pair)) → length rs ≡ SACK_BLOCKS → AllByRecursion (λ r. IfSome r PairFits) rs → first_blocks (range_bytes rs) ≡ closed rs
blocks_back rs long all =
    sym (fill_by_all (block_at (range_bytes rs)) (closed rs) SACK_BLOCKS None (length-closed rs ∙ long) (λ k h. closed_get (somes rs) _ k ∙ sym (block_get (somes rs) (somes_fit rs all) k)))

-- counting the ranges that are `Some` gives the length of their list
pub count_somes : (rs : List (Option Pair)) → count_by is_some rs ≡ length (somes rs)
count_somes [] = refl
count_somes (None ∷ rs) = count_somes rs
count_somes (Some r ∷ rs) = let h = count_somes rs in let n = sum_by-cons (λ x. cond (is_some x) 1 0) (Some r) rs in omega (arith, h, n)

-- no ranges, padded to n elements, are n times `None`
pub closed_none : (ps : List Pair) (n : ℕ) → length ps ≡ 0 → map Some ps ++ replicate (n - length ps) None ≡ replicate n None
closed_none [] n e = ap (λ m. replicate m None) (omega arith)
closed_none (p ∷ ps) n e = absurd (omega (arith, e))

ranges_back : (s n z : Bool) (bytes : List ℕ) (c : List (Option Pair)) → (z ≡ true → c ≡ no_ranges) → first_blocks bytes ≡ c
    → cond (s || n) no_ranges c ≡ first_blocks (option_map_or (λ i. i.content) (last_of (is_of 5) (sack_list s (n || z) bytes)) [])
ranges_back s n z bytes c e f = grind arith

-- the items are well formed
all_append : (xs ys : List Item) → AllByRecursion IsItem xs → AllByRecursion IsItem ys → AllByRecursion IsItem (xs ++ ys)
all_append [] ys xa ya = ya
all_append (x ∷ xs) ys xa ya = (xa.0, all_append xs ys xa.1 ya)

segment_items : (o : Option ℕ) → AllByRecursion IsItem (segment_size_items o)
segment_items o = grind arith

scale_items : (o : Option ℕ) → AllByRecursion IsItem (window_scale_items o)
scale_items o = grind arith

stamp_items : (o : Option TcpTimestampRepr) → AllByRecursion IsItem (timestamp_items o)
stamp_items o = grind arith

sack_all : (s n : Bool) (count : ℕ) (bytes : List ℕ) → length bytes ≡ 8 * count → count ≤ SACK_BLOCKS → AllByRecursion IsItem (sack_list s (n || eqb count 0) bytes)
sack_all s n count bytes long few = grind (arith, common_steps, nat_tests, eqb-suc-zero, IsItem-ranges)

zeros_end : (n : ℕ) → IsTail (replicate n 0)
zeros_end n = grind arith

one_of_four : (p : Item → Bool) (a b c d : List Item) → last_of p b ≡ None → last_of p c ≡ None → last_of p d ≡ None → last_of p (a ++ b ++ c ++ d) ≡ last_of p a
one_of_four p a b c d hb hc hd = in_front p (a ++ b ++ c) d hd ∙ in_front p (a ++ b) c hc ∙ in_front p a b hb

two_of_four : (p : Item → Bool) (a b c d : List Item) → last_of p a ≡ None → last_of p c ≡ None → last_of p d ≡ None → last_of p (a ++ b ++ c ++ d) ≡ last_of p b
two_of_four p a b c d ha hc hd = in_front p (a ++ b ++ c) d hd ∙ in_front p (a ++ b) c hc ∙ in_back p a b ha

three_of_four : (p : Item → Bool) (a b c d : List Item) → last_of p a ≡ None → last_of p b ≡ None → last_of p d ≡ None → last_of p (a ++ b ++ c ++ d) ≡ last_of p c
three_of_four p a b c d ha hb hd = in_front p (a ++ b ++ c) d hd ∙ in_back p (a ++ b) c (in_front p a b hb ∙ ha)

four_of_four : (p : Item → Bool) (a b c d : List Item) → last_of p a ≡ None → last_of p b ≡ None → last_of p c ≡ None → last_of p (a ++ b ++ c ++ d) ≡ last_of p d
four_of_four p a b c d ha hb hc = in_back p (a ++ b ++ c) d (in_front p (a ++ b) c hc ∙ in_front p a b hb ∙ ha)

-- emitted options parse as those of the normal form
pub options_back : (v : TcpHeader) → IsInRange v → ReadsOptions (option_bytes v) (normal v)
options_back v r =
    let a = segment_size_items v.max_seg_size in
    let b = window_scale_items v.window_scale in
    let count = count_by is_some v.sack_ranges in
    let bytes = range_bytes v.sack_ranges in
    let c = sack_items v in
    let d = timestamp_items v.timestamp in
    record {
      items = items_of v;
      tail = replicate _ 0;
      list = record {
        each = all_append (a ++ b ++ c) d (all_append (a ++ b) c (all_append a b (segment_items v.max_seg_size) (scale_items v.window_scale)) (sack_all v.sack_permitted (is_none v.ack_number) count bytes (length-range_bytes v.sack_ranges) (omega (arith, count_by-le-length is_some v.sack_ranges, r.places)))) (stamp_items v.timestamp);
        joined = refl;
        ended = zeros_end _;
      };
      max_seg_size = size_back v.max_seg_size r.max_seg_size ∙ ap (option_map (λ i. big_number 2 i.content)) (sym (one_of_four (is_of 2) a b c d (no_scale (is_of 2) (λ _. refl) v.window_scale) (no_sack (is_of 2) (λ _. refl) (λ _. refl) v.sack_permitted _ bytes) (no_stamp (is_of 2) (λ _. refl) v.timestamp)));
      window_scale = ap (option_map (min 14)) (scale_back v.window_scale ∙ ap (option_map (λ i. big_number 1 i.content)) (sym (two_of_four (is_of 3) a b c d (no_segment (is_of 3) (λ _. refl) v.max_seg_size) (no_sack (is_of 3) (λ _. refl) (λ _. refl) v.sack_permitted _ bytes) (no_stamp (is_of 3) (λ _. refl) v.timestamp))));
      sack_permitted = permitted_back v.sack_permitted _ bytes ∙ ap is_some (sym (three_of_four (is_of 4) a b c d (no_segment (is_of 4) (λ _. refl) v.max_seg_size) (no_scale (is_of 4) (λ _. refl) v.window_scale) (no_stamp (is_of 4) (λ _. refl) v.timestamp)));
      sack_ranges = ranges_back v.sack_permitted (is_none v.ack_number) (eqb count 0) bytes (closed v.sack_ranges)
          (λ e. closed_none (somes v.sack_ranges) (length v.sack_ranges) (sym (count_somes v.sack_ranges) ∙ eqb-true count 0 e) ∙ ap (λ (n : ℕ). replicate {A = Option Pair} n None) r.places)
          (blocks_back v.sack_ranges r.places r.sack_ranges)
          ∙ ap (λ o. first_blocks (option_map_or (λ i. i.content) o [])) (sym (three_of_four (is_of 5) a b c d (no_segment (is_of 5) (λ _. refl) v.max_seg_size) (no_scale (is_of 5) (λ _. refl) v.window_scale) (no_stamp (is_of 5) (λ _. refl) v.timestamp)));
      timestamp = stamp_back v.timestamp r.timestamp ∙ ap (λ o. option_map stamp_of (option_map stamp_in o)) (sym (four_of_four is_timestamp a b c d (no_segment is_timestamp (λ _. refl) v.max_seg_size) (no_scale is_timestamp (λ _. refl) v.window_scale) (no_sack is_timestamp (λ _. refl) (λ _. refl) v.sack_permitted _ bytes)));
    }

somes_none : (m : ℕ) → somes (replicate m None) ≡ []
somes_none zero = refl
somes_none (suc m) = somes_none m

-- the ranges that are `Some` among ranges without gaps
pub somes_closed : (ps : List Pair) (m : ℕ) → somes (map Some ps ++ replicate m None) ≡ ps
somes_closed [] m = somes_none m
somes_closed (p ∷ ps) m = ap (λ l. p ∷ l) (somes_closed ps m)

closed_twice : (rs : List (Option Pair)) → closed (closed rs) ≡ closed rs
closed_twice rs = rw (somes_closed (somes rs) (length rs - length (somes rs)), length-closed rs) refl

-- limiting a window scale to 14 twice is the same as once
pub min_twice : (o : Option ℕ) → option_map (min 14) (option_map (min 14) o) ≡ option_map (min 14) o
min_twice o = grind arith

gaps_twice : (b : Bool) (none rs : List (Option Pair)) → cond b none (closed (cond b none (closed rs))) ≡ cond b none (closed rs)
gaps_twice true none rs = refl
gaps_twice false none rs = closed_twice rs

-- the normal form of a normal form is itself
pub twice : (v : TcpHeader) → normal (normal v) ≡ normal v
twice v = rw (min_twice v.window_scale, gaps_twice (v.sack_permitted || is_none v.ack_number) no_ranges v.sack_ranges) refl
