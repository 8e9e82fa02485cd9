-- An emitted header is never longer than a header that parses as the same value.
use Rattle.std.proofs.Common.{◌≡◌, ℕ, zero, suc, ◌+◌, ◌-◌, ◌*◌, ◌%◌, ◌≤◌, inl, inr, Bool, cond, ltb, List, [], ◌∷◌, length, map, drop, count_by, Option, Some, None, is_some, arith, ap, length-append, length-drop}
use Rattle.std.specs.Option.{option_or, option_map, option_map_or}
use Rattle.std.specs.List.{AllByRecursion, range_with_len}
use Rattle.std.proofs.lemmas.Bool.{cases_Bool, ltb-true, ltb-false}
use Rattle.std.proofs.lemmas.Bool.Decides.{nat_tests}
use Rattle.std.proofs.lemmas.List.{length-take-le}
use Rattle.std.proofs.Math.Dec.{eqb-suc-zero}
use Rattle.std.proofs.lemmas.List.Sums.{sum_by-cons}
use Rattle.byteorder.specs.Endian.{big_number}
use Rattle.wire_addr.specs.declared.ip_address.IpAddress.{IpAddress}
use Rattle.wire_tcp.specs.Tcp.{header_len, options_of, payload_of}
use Rattle.wire_tcp_options.specs.TcpItems.{Item, IsItem, text, texts, block_at, first_blocks, last_of, is_of, is_timestamp, segment_size_of, window_scale_of, sack_permitted_of, sack_ranges_of, timestamp_of}
use Rattle.wire_tcp.proofs.TcpComputed.{tcp_of-Reads}
use Rattle.wire_tcp.specs.TcpRepr.{Reads, ReadsOptions, TcpHeader, sack_len, len_if, header_len_of, tcp_of}
use Rattle.std.proofs.lemmas.Grind.{common_steps}

-- the option length of one field is at most that of the later items and of this item
field_step : {X : Type 0} (f : Item → X) (w : ℕ) (o : Option Item) (b : Bool) (i : Item) → len_if (is_some (option_map f (option_or o (cond b (Some i) None)))) w ≤ len_if (is_some (option_map f o)) w + len_if b w
field_step f w o b i = grind arith

flag_step : (w : ℕ) (o : Option Item) (b : Bool) (i : Item) → len_if (is_some (option_or o (cond b (Some i) None))) w ≤ len_if (is_some o) w + len_if b w
flag_step w o b i = grind arith

abbrev kept : List (Option (ℕ × ℕ)) → ℕ
kept ranges = sack_len (count_by is_some ranges)

ranges_step : (o : Option Item) (b : Bool) (i : Item)
    → kept (first_blocks (option_map_or (λ i. i.content) (option_or o (cond b (Some i) None)) [])) ≤ kept (first_blocks (option_map_or (λ i. i.content) o [])) + len_if b (kept (first_blocks i.content))
ranges_step o b i = grind arith

-- a block, if there is one
abbrev block_if : List ℕ → ℕ → Bool → Option (ℕ × ℕ)
block_if content a b = cond b (Some (big_number 4 (drop (8 * a) content), big_number 4 (drop (8 * a + 4) content))) None

abbrev block_count : List ℕ → ℕ → Bool → ℕ
block_count content a b = cond (is_some (block_if content a b)) 1 0

-- of n blocks, those from index a on
blocks_from : (content : List ℕ) (n : ℕ) → length content ≡ 8 * n → (m a : ℕ) → count_by is_some (map (block_at content) (range_with_len a m)) ≤ n - a
blocks_from content n whole zero a = omega arith
blocks_from content n whole (suc m) a =
    let later = blocks_from content n whole m (a + 1) in
    let first : count_by is_some (map (block_at content) (range_with_len a (suc m))) ≡ block_count content a (ltb (8 * a) (length content)) + count_by is_some (map (block_at content) (range_with_len (a + 1) m)) = sum_by-cons (λ x. cond (is_some x) 1 0) (block_at content a) (map (block_at content) (range_with_len (a + 1) m)) in
    elim (cases_Bool (ltb (8 * a) (length content))) [
      | inl y ↦ let inside = ltb-true _ _ y in let one = ap (block_count content a) y in omega (arith, first, later, one, inside, whole)
      | inr y ↦ let past = ltb-false _ _ y in let no = ap (block_count content a) y in omega (arith, first, later, no, past, whole)
    ]

-- the length of a SACK option with at least one range
pub sack_len-suc : (k : ℕ) → sack_len (suc k) ≡ 2 + 8 * suc k
sack_len-suc k = ap (λ b. cond b 0 (2 + 8 * suc k)) (eqb-suc-zero k)

sack_len-le : (k n : ℕ) → k ≤ n → sack_len k ≤ 2 + 8 * n
sack_len-le k n h = grind arith

-- whole blocks of data are at least as long as the ranges kept from them
pub kept-le : (content : List ℕ) (n : ℕ) → length content ≡ 8 * n → kept (first_blocks content) ≤ 2 + length content
kept-le content n whole = grind (arith, common_steps, nat_tests, blocks_from, sack_len-le)

-- the option lengths that the items need
abbrev pub asked : List Item → ℕ
asked items =
    len_if (is_some (segment_size_of items)) 4 + len_if (is_some (window_scale_of items)) 3 + len_if (sack_permitted_of items) 2
    + kept (sack_ranges_of items) + len_if (is_some (timestamp_of items)) 10

abbrev IsWeighed : Item → Type 0
IsWeighed i = len_if (is_of 2 i) 4 + len_if (is_of 3 i) 3 + len_if (is_of 4 i) 2 + len_if (is_of 5 i) (kept (first_blocks i.content)) + len_if (is_timestamp i) 10 ≤ length (text i)

-- an item is at least as long as the option emitted for its value, if that of its ranges has at most this length
weighed : (i : Item) (ranges : ℕ) → IsItem i → (i.kind ≡ 5 → ranges ≤ 2 + length i.content)
    → len_if (is_of 2 i) 4 + len_if (is_of 3 i) 3 + len_if (is_of 4 i) 2 + len_if (is_of 5 i) ranges + len_if (is_timestamp i) 10 ≤ length (text i)
weighed i ranges is most = grind (arith, nat_tests)

weight : (i : Item) → IsItem i → IsWeighed i
weight i is = weighed i (kept (first_blocks i.content)) is (λ e. let (n, some, whole) = is.sack_ranges e in kept-le i.content n whole)

abbrev stamp_in : Item → ℕ × ℕ
stamp_in i = (big_number 4 i.content, big_number 4 (drop 4 i.content))

-- the items are never shorter than the emitted options of the value that they parse as
pub asked-le : (items : List Item) → AllByRecursion IsItem items → asked items ≤ length (texts items)
asked-le [] all = omega arith
asked-le (i ∷ items) all =
    let later = asked-le items all.1 in
    let own = weight i all.0 in
    let a = field_step (λ i. big_number 2 i.content) 4 (last_of (is_of 2) items) (is_of 2 i) i in
    let b = field_step (λ i. big_number 1 i.content) 3 (last_of (is_of 3) items) (is_of 3 i) i in
    let c = flag_step 2 (last_of (is_of 4) items) (is_of 4 i) i in
    let d = ranges_step (last_of (is_of 5) items) (is_of 5 i) i in
    let e = field_step stamp_in 10 (last_of is_timestamp items) (is_timestamp i) i in
    omega (arith, later, own, a, b, c, d, e, length-append (text i) (texts items))

-- a mapped option is `Some` exactly if the option is
pub some_map : {X Y : Type 0} (f : X → Y) (o : Option X) → is_some (option_map f o) ≡ is_some o
some_map f o = grind arith

-- a header that parses as a value is never shorter than the emitted header of the value
pub shortest : (bytes : List ℕ) (v : TcpHeader) → ReadsOptions bytes v → length bytes % 4 ≡ 0 → header_len_of v ≤ 20 + length bytes
shortest bytes v r words = grind (arith, common_steps, nat_tests, asked-le, some_map, length-append)

-- the same for a segment
pub header_len-read : (src dst : IpAddress) (verified : Bool) (bytes payload : List ℕ) (v : TcpHeader) → Reads bytes src dst verified v payload → header_len_of v ≤ header_len bytes
header_len-read src dst verified bytes payload v r =
    let least = r.lengths.header in
    let whole = r.lengths.whole in
    let long : length (options_of bytes) ≡ header_len bytes - 20 = length-take-le (header_len bytes - 20) (drop 20 bytes) (omega (arith, length-drop 20 bytes)) in
    omega (arith, least, long, shortest (options_of bytes) v r.options (omega (arith, long, least)))

-- the emitted header of a parsed value is never longer than the parsed header
pub header_len-tcp_of : (src dst : IpAddress) (verified : Bool) (bytes : List ℕ) (v : TcpHeader) → tcp_of src dst verified bytes ≡ Some v → header_len_of v ≤ header_len bytes
header_len-tcp_of src dst verified bytes v e = header_len-read src dst verified bytes (payload_of bytes) v ((tcp_of-Reads src dst verified bytes v).0 e)
