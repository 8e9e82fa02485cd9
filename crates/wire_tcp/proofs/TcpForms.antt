-- A parsed value is in range. It is normal, or the header of its normal form is shorter.
use Rattle.std.proofs.Common.{ℕ, zero, suc, ◌≡◌, ◌↔◌, ◌⊎◌, if◌then◌else◌, false, inl, inr, ◌+◌, ◌-◌, ◌*◌, ◌^◌, ◌<◌, ◌≤◌, ◌||◌, ◌==◌, eqb, nat_lt, min, Bool, true, IsTrue, cond, List, [], ◌∷◌, ◌++◌, length, drop, map, count_by, replicate, Option, Some, None, IfSome, is_some, is_none, refl, sym, ap, subst, ◌∙◌, append_assoc, length-append, arith}
use Rattle.std.specs.List.{AllByRecursion, range_with_len}
use Rattle.std.specs.Option.{option_map, option_map_or, option_or}
use Rattle.std.specs.Prelude.{⊤}
use Rattle.std.proofs.lemmas.Bool.{cases_Bool, eqb-true, eqb-false, false_from_ne_true, ltb-true, ltb-false}
use Rattle.std.proofs.lemmas.List.{length-map, length-replicate}
use Rattle.std.proofs.Math.Facts.{sfits_to_z}
use Rattle.byteorder.specs.Endian.{big_number}
use Rattle.wire_addr.specs.declared.ip_address.IpAddress.{IpAddress}
use Rattle.net_base.specs.Field.{field}
use Rattle.net_base.proofs.ByteLists.{AreBytes-drop, AreBytes-take}
use Rattle.net_base.proofs.Spelled.{AreBytes}
use Rattle.wire_tcp.specs.Tcp.{header_len, options_of}
use Rattle.wire_tcp_options.specs.TcpItems.{Item, IsItem, block_at, first_blocks, is_of, is_timestamp, last_of, stamps, text, texts, timestamp_of, window_scale_of}
use Rattle.wire_tcp_options.specs.declared.tcp.TheConstants.{SACK_BLOCKS}
use Rattle.wire_tcp_options.specs.declared.tcp.seq_number.TcpSeqNumber.{TcpSeqNumber}
use Rattle.wire_tcp.specs.TcpRepr.{HasIdleRanges, IsInRange, IsSeq, Reads, TcpHeader, closed, header_len_of, len_if, no_ranges, normal, seq_of, stamp_of}
use Rattle.wire_tcp.proofs.OptionsBack.{Pair, closed_none, count_somes, min_twice, somes, somes_closed}
use Rattle.wire_tcp_options.proofs.Items.{text-other}
use Rattle.wire_tcp.proofs.OptionLens.{header_len-read, some_map}
use Rattle.wire_tcp.proofs.TcpReadsBack.{IsWritable}
use Rattle.std.proofs.lemmas.Grind.{common_steps}
use Rattle.std.proofs.lemmas.Bool.Decides.{nat_tests}

-- ---- parsed blocks have no gaps

-- ranges, followed by `None` only
abbrev Shaped : List (Option Pair) → Type 0
Shaped rs = (ps : List Pair) × (k : ℕ) × (rs ≡ map Some ps ++ replicate k None)

no_block : (content : List ℕ) (m a : ℕ) → length content ≤ 8 * a → map (block_at content) (range_with_len a m) ≡ replicate m None
no_block content zero a past = refl
no_block content (suc m) a past =
    let no : nat_lt (8 * a) (length content) ≡ false = false_from_ne_true _ (λ e. let h = ltb-true (8 * a) (length content) e in omega (arith, h, past)) in
    rw no (ap (λ (l : List (Option Pair)). None ∷ l) (no_block content m (a + 1) (omega (arith, past))))

shaped : (content : List ℕ) (m a : ℕ) → Shaped (map (block_at content) (range_with_len a m))
shaped content zero a = ([], 0, refl)
shaped content (suc m) a = elim (cases_Bool (nat_lt (8 * a) (length content))) [
  | inl y ↦
      let (ps, k, is) = shaped content m (a + 1) in
      let p : Pair = (big_number 4 (drop (8 * a) content), big_number 4 (drop (8 * a + 4) content)) in
      (p ∷ ps, k, rw y (ap (λ (l : List (Option Pair)). Some p ∷ l) is))
  | inr n ↦ let past = ltb-false (8 * a) (length content) n in ([], suc m, no_block content (suc m) a (omega (arith, past)))
]

closed-shaped : (rs : List (Option Pair)) → Shaped rs → closed rs ≡ rs
closed-shaped rs h = grind (arith, common_steps, nat_tests, somes, somes_closed, length-append, Pair, length-map, length-replicate)

closed-blocks : (content : List ℕ) → closed (first_blocks content) ≡ first_blocks content
closed-blocks content = closed-shaped (first_blocks content) (shaped content SACK_BLOCKS 0)

-- ---- normal, or a shorter header

-- no range is emitted beside SACK permitted, or without an acknowledgement
unwritten : (permitted : Bool) (o : Option TcpSeqNumber) → ((permitted || is_none o) ≡ true) ↔ (IsTrue permitted ⊎ (o ≡ None))
unwritten permitted o = (λ e. grind arith, λ h. grind arith)

-- a parsed value is normal unless it has ranges that are not emitted
pub normal_or_idle : (src dst : IpAddress) (verified : Bool) (bytes payload : List ℕ) (v : TcpHeader) → Reads bytes src dst verified v payload → (normal v ≡ v) ⊎ HasIdleRanges v
normal_or_idle src dst verified bytes payload v r =
    let items = r.options.items in
    let rs = v.sack_ranges in
    let cut : option_map (min 14) v.window_scale ≡ v.window_scale = ap (option_map (min 14)) r.options.window_scale ∙ min_twice (window_scale_of items) ∙ sym r.options.window_scale in
    let whole : closed rs ≡ rs = ap closed r.options.sack_ranges ∙ closed-blocks (option_map_or (λ i. i.content) (last_of (is_of 5) items) []) ∙ sym r.options.sack_ranges in
    let is : (normal v).sack_ranges ≡ rs → normal v ≡ v = λ e i. record v { window_scale = cut i; sack_ranges = e i } in
    let chosen = λ (b : Bool) (e : (v.sack_permitted || is_none v.ack_number) ≡ b). ap (λ (b : Bool). cond b no_ranges (closed rs)) e in
    elim (cases_Bool (v.sack_permitted || is_none v.ack_number)) [
      | inl y ↦ elim (cases_Bool (eqb (count_by is_some rs) 0)) [
        | inl z ↦
            let none = eqb-true (count_by is_some rs) 0 z in
            let places : length rs ≡ SACK_BLOCKS = ap length r.options.sack_ranges in
            let empty : rs ≡ no_ranges = sym whole ∙ closed_none (somes rs) (length rs) (sym (count_somes rs) ∙ none) ∙ ap (λ (n : ℕ). replicate {A = Option Pair} n None) places in
            inl (is (chosen true y ∙ sym empty))
        | inr z ↦ inr (eqb-false (count_by is_some rs) 0 z, (unwritten v.sack_permitted v.ack_number).0 y)
      ]
      | inr n ↦ inl (is (chosen false n ∙ whole))
    ]

-- without these ranges its header is shorter
pub idle-shorter : (v : TcpHeader) → HasIdleRanges v → header_len_of (normal v) < header_len_of v
idle-shorter v h = grind (arith, common_steps, nat_tests, false_from_ne_true, eqb-true, unwritten, some_map)

-- a parsed value is normal, or the header of its normal form is shorter
pub normal_or_shorter : (src dst : IpAddress) (verified : Bool) (bytes payload : List ℕ) (v : TcpHeader) → Reads bytes src dst verified v payload
    → (normal v ≡ v) ⊎ (header_len_of (normal v) < header_len_of v)
normal_or_shorter src dst verified bytes payload v r = elim (normal_or_idle src dst verified bytes payload v r) [ inl e ↦ inl e | inr h ↦ inr (idle-shorter v h) ]

-- ---- values without SACK ranges

len_if-most : (b : Bool) (n : ℕ) → len_if b n ≤ n
len_if-most b n = grind arith

-- a value without SACK ranges has a header of at most 40 bytes
pub header_len_no_ranges : (v : TcpHeader) → v.sack_ranges ≡ no_ranges → header_len_of v ≤ 40
header_len_no_ranges v none = grind (arith, common_steps, nat_tests, len_if-most)

scale_kept : (scale : Option ℕ) → IfSome scale (λ n. n ≤ 14) → option_map (min 14) scale ≡ scale
scale_kept scale h = grind arith

ranges_kept : (ranges : List (Option (ℕ × ℕ))) (unwritten : Bool) → ranges ≡ no_ranges → (if unwritten then no_ranges else closed ranges) ≡ ranges
ranges_kept ranges unwritten none = grind arith

-- a value without SACK ranges is normal if its window scale is at most 14
pub normal_no_ranges : (v : TcpHeader) → v.sack_ranges ≡ no_ranges → IfSome v.window_scale (λ n. n ≤ 14) → normal v ≡ v
normal_no_ranges v none small = grind (arith, common_steps, nat_tests, scale_kept, ranges_kept)

-- ---- a parsed value is in range

AreBytes-split : (xs ys : List ℕ) → AreBytes (xs ++ ys) → AreBytes xs × AreBytes ys
AreBytes-split [] ys h = ((λ i. omega arith), h)
AreBytes-split (x ∷ xs) ys h =
    let (front, following) = AreBytes-split xs ys (λ i. h (suc i)) in
    (first front, following)
  where
    first : AreBytes xs → AreBytes (x ∷ xs)
    first front zero = h 0
    first front (suc i) = front i

-- the data of an item are bytes
content_bytes : (i : Item) → IsItem i → AreBytes (text i) → AreBytes i.content
content_bytes i is h = elim (cases_Bool (eqb i.kind 1)) [
  | inl y ↦ subst AreBytes (sym (is.no_operation (eqb-true i.kind 1 y))) (λ k. omega arith)
  | inr n ↦ AreBytes-drop 2 (i.kind ∷ (2 + length i.content) ∷ i.content) (subst AreBytes (text-other i (eqb-false i.kind 1 n)) h)
]

abbrev HasBytes : Item → Type 0
HasBytes i = AreBytes i.content

items_bytes : (items : List Item) (tail : List ℕ) → AllByRecursion IsItem items → AreBytes (texts items ++ tail) → AllByRecursion HasBytes items
items_bytes [] tail all h = tt
items_bytes (i ∷ items) tail all h =
    let (first, rest) = AreBytes-split (text i) (texts items ++ tail) (subst AreBytes (append_assoc (text i) (texts items) tail) h) in
    (content_bytes i all.0 first, items_bytes items tail all.1 rest)

one_or : (P : Item → Type 0) (o : Option Item) (b : Bool) (i : Item) → IfSome o P → P i → IfSome (option_or o (cond b (Some i) None)) P
one_or P o b i h k = grind arith

last_has : (P : Item → Type 0) (p : Item → Bool) (items : List Item) → AllByRecursion P items → IfSome (last_of p items) P
last_has P p [] all = tt
last_has P p (i ∷ items) all = one_or P (last_of p items) (p i) i (last_has P p items all.1) all.0

mapped_has : {X Y : Type 0} (P : X → Type 0) (Q : Y → Type 0) (f : X → Y) (o : Option X) → ((x : X) → P x → Q (f x)) → IfSome o P → IfSome (option_map f o) Q
mapped_has P Q f o each h = grind arith

number_2 : (xs : List ℕ) → AreBytes xs → big_number 2 xs < 2 ^ 16
number_2 xs h = omega (arith, h 0, h 1)

number_4 : (xs : List ℕ) → AreBytes xs → big_number 4 xs < 2 ^ 32
number_4 xs h = omega (arith, h 0, h 1, h 2, h 3)

abbrev EdgesFit : Option Pair → Type 0
EdgesFit r = IfSome r (λ r. (r.0 < 2 ^ 32) × (r.1 < 2 ^ 32))

block_fits : (content : List ℕ) (a : ℕ) (b : Bool) → AreBytes content → EdgesFit (cond b (Some (big_number 4 (drop (8 * a) content), big_number 4 (drop (8 * a + 4) content))) None)
block_fits content a true h = (number_4 (drop (8 * a) content) (AreBytes-drop (8 * a) content h), number_4 (drop (8 * a + 4) content) (AreBytes-drop (8 * a + 4) content h))
block_fits content a false h = tt

blocks_fit : (content : List ℕ) → AreBytes content → (m a : ℕ) → AllByRecursion EdgesFit (map (block_at content) (range_with_len a m))
blocks_fit content h zero a = tt
blocks_fit content h (suc m) a = (block_fits content a (nat_lt (8 * a) (length content)) h, blocks_fit content h m (a + 1))

content_has : (o : Option Item) → IfSome o HasBytes → AreBytes (option_map_or (λ i. i.content) o [])
content_has o h = grind arith

seq-fits : (n : ℕ) → n < 2 ^ 32 → IsSeq (seq_of n)
seq-fits n h = sfits_to_z (record { fits = h })

ack-fits : (b : Bool) (n : ℕ) → n < 2 ^ 32 → IfSome (cond b (Some (seq_of n)) None) IsSeq
ack-fits b n h = grind arith

-- the value parsed from bytes is in range
pub Reads-IsInRange : (src dst : IpAddress) (verified : Bool) (bytes payload : List ℕ) (v : TcpHeader) → AreBytes bytes → Reads bytes src dst verified v payload → IsInRange v
Reads-IsInRange src dst verified bytes payload v h r =
    let o = r.options in
    let options : AreBytes (options_of bytes) = AreBytes-take (header_len bytes - 20) (drop 20 bytes) (AreBytes-drop 20 bytes h) in
    let have = items_bytes o.items o.tail o.list.each (subst AreBytes o.list.joined options) in
    let content = option_map_or (λ i. i.content) (last_of (is_of 5) o.items) [] in
    record {
      src_port = rw r.src_port (omega arith);
      dst_port = rw r.dst_port (omega arith);
      seq_number = rw r.seq_number (seq-fits (field bytes 32 32) (omega arith));
      ack_number = rw r.ack_number (ack-fits (field bytes 107 1 == 1) (field bytes 64 32) (omega arith));
      window_len = rw r.window_len (omega arith);
      window_scale = rw o.window_scale (mapped_has (λ n. ⊤) (λ n. n < 2 ^ 8) (min 14) (window_scale_of o.items) (λ n k. omega arith) (given (window_scale_of o.items)));
      max_seg_size = rw o.max_seg_size (mapped_has HasBytes (λ n. n < 2 ^ 16) (λ i. big_number 2 i.content) (last_of (is_of 2) o.items) (λ i k. number_2 i.content k) (last_has HasBytes (is_of 2) o.items have));
      places = ap length o.sack_ranges;
      sack_ranges = rw o.sack_ranges (blocks_fit content (content_has (last_of (is_of 5) o.items) (last_has HasBytes (is_of 5) o.items have)) SACK_BLOCKS 0);
      timestamp = rw o.timestamp (mapped_has (λ t. (t.0 < 2 ^ 32) × (t.1 < 2 ^ 32)) (λ t. (t.tsval < 2 ^ 32) × (t.tsecr < 2 ^ 32)) stamp_of (timestamp_of o.items) (λ t k. k)
          (mapped_has HasBytes (λ t. (t.0 < 2 ^ 32) × (t.1 < 2 ^ 32)) (λ i. stamps i.content) (last_of is_timestamp o.items) (λ i k. (number_4 i.content k, number_4 (drop 4 i.content) (AreBytes-drop 4 i.content k))) (last_has HasBytes is_timestamp o.items have)));
    }
  where
    given : (o : Option ℕ) → IfSome o (λ n. ⊤)
    given None = tt
    given (Some n) = record {}

-- a parsed value has a header that can be emitted
pub Reads-IsWritable : (src dst : IpAddress) (verified : Bool) (bytes payload : List ℕ) (v : TcpHeader) → AreBytes bytes → Reads bytes src dst verified v payload → IsWritable v
Reads-IsWritable src dst verified bytes payload v h r =
    let most = header_len-read src dst verified bytes payload v r in
    record {
      in_range = Reads-IsInRange src dst verified bytes payload v h r;
      sender = rw r.src_port r.sender;
      receiver = rw r.dst_port r.receiver;
      most = omega (arith, most);
    }
