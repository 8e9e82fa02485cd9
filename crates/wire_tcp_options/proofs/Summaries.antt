-- How one more item changes the summary of the options.
use Rattle.std.proofs.Common.{◌≡◌, ℕ, Bool, true, false, cond, eqb, ◌&&◌, List, [], ◌∷◌, ◌++◌, length, get_or, drop, Option, Some, None, is_some, Result, OnErr, arith, ◌<◌, refl, sym, ap, ◌∙◌}
use Rattle.std.specs.Option.{option_or, option_map, option_map_or}
use Rattle.std.proofs.lemmas.Bool.{eqb-true, eq-eqb, false_from_ne_true}
use Rattle.byteorder.specs.Endian.{big_number}
use Rattle.wire_tcp_options.specs.TcpItems.{Item, item, first_blocks, last_of, is_of, is_timestamp}
use Rattle.wire_tcp_options.specs.TcpSummary.{summary_of}
use Rattle.wire_tcp_options.specs.declared.tcp.summary.TcpOptionSummary.{TcpOptionSummary}
use Rattle.std.proofs.lemmas.Grind.{common_steps}
use Rattle.std.proofs.lemmas.Bool.Decides.{nat_tests}

-- a choice between two options
pub or_cond : {X : Type 0} (b : Bool) (x : X) (o d : Option X) → option_or (cond b (Some x) o) d ≡ cond b (Some x) (option_or o d)
or_cond b x o d = grind arith

pub map_cond : {X Y : Type 0} (f : X → Y) (b : Bool) (x : X) (o : Option X) → option_map f (cond b (Some x) o) ≡ cond b (Some (f x)) (option_map f o)
map_cond f b x o = grind arith

ranges_cond : (b : Bool) (i : Item) (o : Option Item) → first_blocks (option_map_or (λ i. i.content) (cond b (Some i) o) []) ≡ cond b (first_blocks i.content) (first_blocks (option_map_or (λ i. i.content) o []))
ranges_cond b i o = grind arith

some_cond : (b : Bool) (i : Item) (o : Option Item) → is_some (cond b (Some i) o) ≡ cond b true (is_some o)
some_cond b i o = grind arith

-- the left side of a conjunction that is true
pub and_left : (a b : Bool) → (a && b) ≡ true → a ≡ true
and_left a b e = grind arith

-- and its right side
pub and_right : (a b : Bool) → (a && b) ≡ true → b ≡ true
and_right a b e = grind arith

-- an item at the end is the last of its kind
pub last_of_more : (p : Item → Bool) (xs : List Item) (i : Item) → last_of p (xs ++ i ∷ []) ≡ cond (p i) (Some i) (last_of p xs)
last_of_more p [] i = refl
last_of_more p (x ∷ xs) i = ap (λ o. option_or o (cond (p x) (Some x) None)) (last_of_more p xs i) ∙ or_cond (p i) i (last_of p xs) (cond (p x) (Some x) None)

-- a summary with one more item
abbrev pub with_item : Item → TcpOptionSummary → TcpOptionSummary
with_item i s = record {
  max_segment_size = cond (eqb i.kind 2) (Some (big_number 2 i.content)) s.max_segment_size;
  window_scale = cond (eqb i.kind 3) (Some (big_number 1 i.content)) s.window_scale;
  sack_permitted = cond (eqb i.kind 4) true s.sack_permitted;
  sack_ranges = cond (eqb i.kind 5) (first_blocks i.content) s.sack_ranges;
  timestamp = cond (is_timestamp i) (Some (big_number 4 i.content, big_number 4 (drop 4 i.content))) s.timestamp;
}

abbrev stamp_in : Item → ℕ × ℕ
stamp_in i = (big_number 4 i.content, big_number 4 (drop 4 i.content))

pub summary_of_more : (xs : List Item) (i : Item) → summary_of (xs ++ i ∷ []) ≡ with_item i (summary_of xs)
summary_of_more xs i = rw (
  last_of_more (is_of 2) xs i,
  map_cond (λ (i : Item). big_number 2 i.content) (eqb i.kind 2) i (last_of (is_of 2) xs),
  last_of_more (is_of 3) xs i,
  map_cond (λ (i : Item). big_number 1 i.content) (eqb i.kind 3) i (last_of (is_of 3) xs),
  last_of_more (is_of 4) xs i,
  some_cond (eqb i.kind 4) i (last_of (is_of 4) xs),
  last_of_more (is_of 5) xs i,
  ranges_cond (eqb i.kind 5) i (last_of (is_of 5) xs),
  last_of_more is_timestamp xs i,
  map_cond stamp_in (is_timestamp i) i (last_of is_timestamp xs),
) refl

-- a summary of the items before, and an item of kind k
pub noted : (s : TcpOptionSummary) (xs : List Item) (i : Item) (k : ℕ) → s ≡ summary_of xs → i.kind ≡ k → with_item (item k i.content) s ≡ summary_of (xs ++ i ∷ [])
noted s xs i k e kind = ap (λ k. with_item (item k i.content) s) (sym kind) ∙ ap (with_item i) e ∙ sym (summary_of_more xs i)

-- an item of another kind changes nothing
pub noted_other : (s : TcpOptionSummary) (xs : List Item) (i : Item) → s ≡ summary_of xs → 5 < i.kind → (i.kind ≡ 8 → length i.content ≡ 8 → ⊥) → s ≡ summary_of (xs ++ i ∷ [])
noted_other s xs i e high other =
    let n2 : eqb i.kind 2 ≡ false = false_from_ne_true _ (λ y. omega (arith, eqb-true i.kind 2 y)) in
    let n3 : eqb i.kind 3 ≡ false = false_from_ne_true _ (λ y. omega (arith, eqb-true i.kind 3 y)) in
    let n4 : eqb i.kind 4 ≡ false = false_from_ne_true _ (λ y. omega (arith, eqb-true i.kind 4 y)) in
    let n5 : eqb i.kind 5 ≡ false = false_from_ne_true _ (λ y. omega (arith, eqb-true i.kind 5 y)) in
    let n8 : is_timestamp i ≡ false = false_from_ne_true _ (λ y. other (eqb-true i.kind 8 (and_left _ _ y)) (eqb-true (length i.content) 8 (and_right _ _ y))) in
    let same : with_item i s ≡ s = rw (n2, n3, n4, n5, n8) refl in
    sym same ∙ ap (with_item i) e ∙ sym (summary_of_more xs i)

-- a timestamp of 8 data bytes
pub noted_stamp : (s : TcpOptionSummary) (xs : List Item) (i : Item) → s ≡ summary_of xs → i.kind ≡ 8 → length i.content ≡ 8 → record s { timestamp = Some (stamp_in i) } ≡ summary_of (xs ++ i ∷ [])
noted_stamp s xs i e kind size =
    ap (λ b. record s { timestamp = cond b (Some (stamp_in i)) s.timestamp }) (sym (eq-eqb (length i.content) 8 size)) ∙ noted s xs i 8 e kind

-- the number in a single byte
pub scale_is : (content : List ℕ) (n : ℕ) → content ≡ n ∷ [] → n ≡ big_number 1 content
scale_is content n e = let b = ap (big_number 1) e in omega (arith, b)

pub only_byte : (content : List ℕ) → length content ≡ 1 → get_or content 0 0 ≡ big_number 1 content
only_byte content e = grind (arith, common_steps, nat_tests, scale_is)

-- an error and a fact
pub on_err : {X E P : Type 0} (r : Result X E) → P → OnErr r P
on_err r p = grind arith
