-- Where the segment size is, and options with another segment size.
use Rattle.std.proofs.Common.{ℕ, ◌≡◌, ◌≢◌, ◌+◌, ◌-◌, ◌<◌, ◌≤◌, ◌==◌, ◌&&◌, Bool, true, false, cond, is_some, IfSome, List, [], ◌∷◌, ◌++◌, length, take, drop, slice_index, Option, Some, None, refl, sym, ap, subst, ◌∙◌, append_assoc, length-append, arith}
use Rattle.std.specs.List.{AllByRecursion}
use Rattle.std.specs.Option.{option_map, option_map_or, option_or}
use Rattle.std.proofs.lemmas.Bool.{eq-eqb, eqb-true, false_from_ne_true}
use Rattle.std.proofs.lemmas.Grind.{flat_map-append}
use Rattle.std.proofs.lemmas.List.{drop_at, take_at}
use Rattle.byteorder.specs.Endian.{big_bytes, big_number}
use Rattle.net_base.specs.Field.{with_range}
use Rattle.net_base.proofs.Cells.{cells-all}
use Rattle.wire_tcp_options.proofs.FirstItems.{is_item}
use Rattle.wire_tcp_options.proofs.Items.{text-other}
use Rattle.wire_tcp_options.proofs.OptionLists.{Items, one_list}
use Rattle.wire_tcp_options.proofs.Summaries.{map_cond, or_cond}
use Rattle.wire_tcp_options.specs.TcpItems.{IsItem, IsOptionList, IsTail, Item, first_blocks, is_of, is_timestamp, item, last_of, sack_permitted_of, sack_ranges_of, segment_size_of, stamps, text, texts, timestamp_of, window_scale_of}
use Rattle.wire_tcp_options.specs.TcpOption.{IsReading}
use Rattle.wire_tcp_options.specs.TcpPlace.{segment_size_at}
use Rattle.wire_tcp_options.specs.declared.tcp.option.TcpOption.{TcpOption}
use Rattle.wire_tcp_options.specs.declared.tcp.option.TcpOption.TheVariants.{MaxSegmentSize}
use Rattle.std.proofs.lemmas.Grind.{common_steps}
use Rattle.std.proofs.lemmas.Bool.Decides.{nat_tests}

-- ---- the index

-- with one more item at the end
pub segment_size_at-more : (xs : List Item) (i : Item) → segment_size_at (xs ++ i ∷ []) ≡ cond (is_of 2 i) (Some (length (texts xs) + 2)) (segment_size_at xs)
segment_size_at-more [] i = refl
segment_size_at-more (x ∷ xs) i =
    let f : ℕ → ℕ = λ n. length (text x) + n in
    let first : Option ℕ = cond (is_of 2 x) (Some 2) None in
    let long : f (length (texts xs) + 2) ≡ length (texts (x ∷ xs)) + 2 = omega (arith, length-append (text x) (texts xs)) in
    ap (λ (o : Option ℕ). option_or (option_map f o) first) (segment_size_at-more xs i)
    ∙ ap (λ (o : Option ℕ). option_or o first) (map_cond f (is_of 2 i) (length (texts xs) + 2) (segment_size_at xs))
    ∙ or_cond (is_of 2 i) (f (length (texts xs) + 2)) (option_map f (segment_size_at xs)) first
    ∙ ap (λ (n : ℕ). cond (is_of 2 i) (Some n) (segment_size_at (x ∷ xs))) long

-- the items around the segment size that counts
pub record Placed (items : List Item) (at : ℕ) : Type 0 where
  pub before : List Item
  pub size : Item
  pub after : List Item
  pub joined : items ≡ before ++ size ∷ after
  pub kind : size.kind ≡ 2
  pub last : last_of (is_of 2) after ≡ None
  pub place : at ≡ length (texts before) + 2

of_some : (a b : ℕ) → Some a ≡ Some b → a ≡ b
of_some a b e = cc

-- the index with the first item's, and the last item of kind 2
abbrev index_with : Item → Bool → Option ℕ → Option ℕ
index_with i b o = option_or (option_map (λ n. length (text i) + n) o) (cond b (Some 2) None)

none_here : (i : Item) (items : List Item) (o : Option ℕ) (b : Bool) → is_of 2 i ≡ b → index_with i b o ≡ None → (o ≡ None → last_of (is_of 2) items ≡ None) → last_of (is_of 2) (i ∷ items) ≡ None
none_here i items o b q e more = grind arith

-- no index, no segment size
pub no_size : (items : List Item) → segment_size_at items ≡ None → last_of (is_of 2) items ≡ None
no_size [] e = refl
no_size (i ∷ items) e =
    none_here i items (segment_size_at items) (is_of 2 i) refl e (no_size items)

found_here : (i : Item) (items : List Item) (o : Option ℕ) (b : Bool) (at : ℕ) → segment_size_at items ≡ o → is_of 2 i ≡ b → index_with i b o ≡ Some at
    → ((n : ℕ) → o ≡ Some n → Placed items n) → Placed (i ∷ items) at
found_here i items (Some n) b at p q e more =
    let rest = more n refl in
    record {
      before = i ∷ rest.before;
      size = rest.size;
      after = rest.after;
      joined = ap (λ (l : List Item). i ∷ l) rest.joined;
      kind = rest.kind;
      last = rest.last;
      place = sym (of_some _ _ e) ∙ omega (arith, rest.place, length-append (text i) (texts rest.before));
    }
found_here i items None true at p q e more = record {
  before = [];
  size = i;
  after = items;
  joined = refl;
  kind = eqb-true i.kind 2 q;
  last = no_size items p;
  place = sym (of_some _ _ e);
}
found_here i items None false at p q e more = absurd (cc)

pub placed : (items : List Item) (at : ℕ) → segment_size_at items ≡ Some at → Placed items at
placed [] at e = absurd (cc)
placed (i ∷ items) at e = found_here i items (segment_size_at items) (is_of 2 i) at refl refl e (placed items)

-- ---- the walk

pub size_passed : (bytes : List ℕ) (xs : List Item) (i : Item) (r : List ℕ) → Items bytes xs r → i.kind ≡ 2 → Some (length bytes - length r + 2) ≡ segment_size_at (xs ++ i ∷ [])
size_passed bytes xs i r w kind =
    let long : length bytes - length r + 2 ≡ length (texts xs) + 2 = omega (arith, ap length w.joined_is, length-append (texts xs) r) in
    ap Some long ∙ ap (λ (b : Bool). cond b (Some (length (texts xs) + 2)) (segment_size_at xs)) (sym (eq-eqb i.kind 2 kind)) ∙ sym (segment_size_at-more xs i)

pub other_passed : (xs : List Item) (i : Item) (at : Option ℕ) → i.kind ≢ 2 → at ≡ segment_size_at xs → at ≡ segment_size_at (xs ++ i ∷ [])
other_passed xs i at other is = grind (arith, common_steps, nat_tests, false_from_ne_true, eqb-true, segment_size_at-more)

pub other_kind : (o : TcpOption) (i : Item) → IsReading o i → ((size : ℕ) → o ≡ MaxSegmentSize size → ⊥) → i.kind ≢ 2
other_kind o i reading other = grind (arith, common_steps, nat_tests)

-- the walk ends with the bytes' option list
pub ended : (bytes : List ℕ) (xs : List Item) (r : List ℕ) (at : Option ℕ) → Items bytes xs r → IsTail r → at ≡ segment_size_at xs
    → (items : List Item) (tail : List ℕ) → IsOptionList bytes items tail → at ≡ segment_size_at items
ended bytes xs r at w end is items tail list = is ∙ ap segment_size_at (one_list bytes xs items r tail (record { each = w.each; joined = w.joined_is; ended = end }) list).0

-- ---- another segment size

last_of-around : (p : Item → Bool) (before : List Item) (i j : Item) (after : List Item) → p i ≡ false → p j ≡ false → last_of p (before ++ i ∷ after) ≡ last_of p (before ++ j ∷ after)
last_of-around p [] i j after a b = rw (a, b) refl
last_of-around p (x ∷ xs) i j after a b = ap (λ (o : Option Item). option_or o (cond (p x) (Some x) None)) (last_of-around p xs i j after a b)

last_of-here : (p : Item → Bool) (before : List Item) (j : Item) (after : List Item) → p j ≡ true → last_of p after ≡ None → last_of p (before ++ j ∷ after) ≡ Some j
last_of-here p [] j after is none = rw (none, is) refl
last_of-here p (x ∷ xs) j after is none = ap (λ (o : Option Item). option_or o (cond (p x) (Some x) None)) (last_of-here p xs j after is none)

-- the item of a segment size
abbrev pub sized : ℕ → Item
sized n = item 2 (big_bytes 2 n)

is_sized : (n : ℕ) → IsItem (sized n)
is_sized n = is_item 2 (big_bytes 2 n) (λ e. omega (arith, e)) (λ e. omega (arith, e)) refl

each-around : (before : List Item) (i j : Item) (after : List Item) → IsItem j → AllByRecursion IsItem (before ++ i ∷ after) → AllByRecursion IsItem (before ++ j ∷ after)
each-around [] i j after is all = (is, all.1)
each-around (x ∷ xs) i j after is all = (all.0, each-around xs i j after is all.1)

each-at : (before : List Item) (i : Item) (after : List Item) → AllByRecursion IsItem (before ++ i ∷ after) → IsItem i
each-at [] i after all = all.0
each-at (x ∷ xs) i after all = each-at xs i after all.1

-- the text of an item of kind 2
text-two : (i : Item) → IsItem i → i.kind ≡ 2 → (a : ℕ) × (b : ℕ) × (i.content ≡ a ∷ b ∷ []) × (text i ≡ 2 ∷ 4 ∷ a ∷ b ∷ [])
text-two i is kind =
    let size = is.segment_size kind in
    let content = cells-all 2 i.content size in (
      slice_index i.content 0,
      slice_index (drop 1 i.content) 0,
      content,
      text-other i (λ e. omega (arith, kind, e)) ∙ ap (λ (k : ℕ). k ∷ (2 + length i.content) ∷ i.content) kind ∙ ap (λ (n : ℕ). 2 ∷ (2 + n) ∷ i.content) size ∙ ap (λ (l : List ℕ). 2 ∷ 4 ∷ l) content,
    )

-- the bytes around a segment size
texts-around : (before : List Item) (i : Item) (after : List Item) (tail : List ℕ) → texts (before ++ i ∷ after) ++ tail ≡ texts before ++ (text i ++ (texts after ++ tail))
texts-around before i after tail = grind (arith, common_steps, nat_tests, flat_map-append, append_assoc)

range-here : (front : List ℕ) (a b c d x y : ℕ) (rest : List ℕ) (at : ℕ) → at ≡ length front + 2
    → with_range (front ++ (a ∷ b ∷ c ∷ d ∷ rest)) at (at + 2) (x ∷ y ∷ []) ≡ front ++ (a ∷ b ∷ x ∷ y ∷ rest)
range-here front a b c d x y rest at is =
    let head : front ++ (a ∷ b ∷ c ∷ d ∷ rest) ≡ (front ++ a ∷ b ∷ []) ++ (c ∷ d ∷ rest) = sym (append_assoc front (a ∷ b ∷ []) (c ∷ d ∷ rest)) in
    let four : front ++ (a ∷ b ∷ c ∷ d ∷ rest) ≡ (front ++ a ∷ b ∷ c ∷ d ∷ []) ++ rest = sym (append_assoc front (a ∷ b ∷ c ∷ d ∷ []) rest) in
    let kept = ap (take at) head ∙ take_at (front ++ a ∷ b ∷ []) (c ∷ d ∷ rest) at (length-append front (a ∷ b ∷ []) ∙ sym is) in
    let following = ap (drop (at + 2)) four ∙ drop_at (front ++ a ∷ b ∷ c ∷ d ∷ []) rest (at + 2) (length-append front (a ∷ b ∷ c ∷ d ∷ []) ∙ omega (arith, is)) in
    ap (λ (l : List ℕ). l ++ (x ∷ y ∷ []) ++ drop (at + 2) (front ++ (a ∷ b ∷ c ∷ d ∷ rest))) kept
    ∙ ap (λ (l : List ℕ). (front ++ a ∷ b ∷ []) ++ (x ∷ y ∷ []) ++ l) following
    ∙ append_assoc (front ++ a ∷ b ∷ []) (x ∷ y ∷ []) rest
    ∙ append_assoc front (a ∷ b ∷ []) (x ∷ y ∷ rest)

-- the bytes are an option list with the same values, and with this segment size
pub record IsResized (items : List Item) (bytes : List ℕ) (tail : List ℕ) (n : ℕ) : Type 0 where
  pub others : List Item
  pub list : IsOptionList bytes others tail
  pub size : segment_size_of others ≡ Some n
  pub scale : window_scale_of others ≡ window_scale_of items
  pub permitted : sack_permitted_of others ≡ sack_permitted_of items
  pub ranges : sack_ranges_of others ≡ sack_ranges_of items
  pub stamps : timestamp_of others ≡ timestamp_of items

-- with another segment size in its place
pub resized : (bytes : List ℕ) (items : List Item) (tail : List ℕ) (at n : ℕ) → n < 65536 → IsOptionList bytes items tail → segment_size_at items ≡ Some at
    → IsResized items (with_range bytes at (at + 2) (big_bytes 2 n)) tail n
resized bytes items tail at n fits list found =
    let p = placed items at found in
    let all : AllByRecursion IsItem (p.before ++ p.size ∷ p.after) = subst (AllByRecursion IsItem) p.joined list.each in
    let (a, b, _, text_is) = text-two p.size (each-at p.before p.size p.after all) p.kind in
    let rest = texts p.after ++ tail in
    let old : bytes ≡ texts p.before ++ (2 ∷ 4 ∷ a ∷ b ∷ rest) =
    list.joined ∙ ap (λ (l : List Item). texts l ++ tail) p.joined ∙ texts-around p.before p.size p.after tail ∙ ap (λ (l : List ℕ). texts p.before ++ (l ++ rest)) text_is in
    let apart : (f : ℕ → Bool) → f 2 ≡ false → f p.size.kind ≡ false = λ f e. ap f p.kind ∙ e in
    let kept : (q : Item → Bool) → q p.size ≡ false → q (sized n) ≡ false → last_of q (p.before ++ sized n ∷ p.after) ≡ last_of q items = λ q e d.
    last_of-around q p.before (sized n) p.size p.after d e ∙ ap (last_of q) (sym p.joined) in
    record {
      others = p.before ++ sized n ∷ p.after;
      list = record {
        each = each-around p.before p.size (sized n) p.after (is_sized n) all;
        joined = ap (λ (l : List ℕ). with_range l at (at + 2) (big_bytes 2 n)) old ∙ range-here (texts p.before) 2 4 a b _ _ rest at p.place ∙ sym (texts-around p.before (sized n) p.after tail);
        ended = list.ended;
      };
      size = ap (option_map (λ i. big_number 2 i.content)) (last_of-here (is_of 2) p.before (sized n) p.after refl p.last) ∙ ap Some (omega (arith, fits));
      scale = ap (option_map (λ i. big_number 1 i.content)) (kept (is_of 3) (apart (λ k. k == 3) refl) refl);
      permitted = ap is_some (kept (is_of 4) (apart (λ k. k == 4) refl) refl);
      ranges = ap (λ (o : Option Item). first_blocks (option_map_or (λ i. i.content) o [])) (kept (is_of 5) (apart (λ k. k == 5) refl) refl);
      stamps = ap (option_map (λ i. stamps i.content)) (kept is_timestamp (apart (λ k. k == 8 && length p.size.content == 8) refl) refl);
    }

-- the two bytes at the index are the segment size
pub sized_at : (bytes : List ℕ) (items : List Item) (tail : List ℕ) (at : ℕ) → IsOptionList bytes items tail → segment_size_at items ≡ Some at
    → (at + 2 ≤ length bytes) × (segment_size_of items ≡ Some (big_number 2 (drop at bytes)))
sized_at bytes items tail at list found =
    let p = placed items at found in
    let all : AllByRecursion IsItem (p.before ++ p.size ∷ p.after) = subst (AllByRecursion IsItem) p.joined list.each in
    let (a, b, content, text_is) = text-two p.size (each-at p.before p.size p.after all) p.kind in
    let rest = texts p.after ++ tail in
    let front = texts p.before ++ 2 ∷ 4 ∷ [] in
    let old : bytes ≡ front ++ (a ∷ b ∷ rest) =
    list.joined ∙ ap (λ (l : List Item). texts l ++ tail) p.joined ∙ texts-around p.before p.size p.after tail ∙ ap (λ (l : List ℕ). texts p.before ++ (l ++ rest)) text_is
    ∙ sym (append_assoc (texts p.before) (2 ∷ 4 ∷ []) (a ∷ b ∷ rest)) in
    let long = length-append (texts p.before) (2 ∷ 4 ∷ []) in
    let here : drop at bytes ≡ a ∷ b ∷ rest = ap (drop at) old ∙ drop_at front (a ∷ b ∷ rest) at (long ∙ sym p.place) in (
      omega (arith, p.place, long, ap length old ∙ length-append front (a ∷ b ∷ rest)),
      ap (option_map (λ i. big_number 2 i.content)) (ap (last_of (is_of 2)) p.joined ∙ last_of-here (is_of 2) p.before p.size p.after (eq-eqb p.size.kind 2 p.kind) p.last)
          ∙ ap (λ (l : List ℕ). Some (big_number 2 l)) content ∙ ap (λ (l : List ℕ). Some (big_number 2 l)) (sym here),
    )

-- the index that the walk ends with lies in the bytes
pub in_room : (bytes : List ℕ) (xs : List Item) (r : List ℕ) (at : Option ℕ) → Items bytes xs r → IsTail r → at ≡ segment_size_at xs → IfSome at (λ n. n + 2 ≤ length bytes)
in_room bytes xs r None w end is = tt
in_room bytes xs r (Some at) w end is = (sized_at bytes xs r at (record { each = w.each; joined = w.joined_is; ended = end }) (sym is)).0
