-- The first item of bytes, computed.
use Rattle.std.proofs.Common.{ℕ, ◌≡◌, ◌≢◌, ◌+◌, ◌-◌, ◌/◌, ◌≤◌, ◌==◌, ◌&&◌, inl, inr, Bool, true, false, List, [], ◌∷◌, ◌++◌, length, drop, take, Option, Some, None, refl, sym, ap, subst, ◌∙◌, length-append, arith}
use Rattle.std.specs.Prelude.{if◌then◌else◌, nat_le, slice_index}
use Rattle.std.proofs.lemmas.Bool.{cases_Bool, eqb-true, eqb-false}
use Rattle.std.proofs.lemmas.Bool.Decides.{nat_tests}
use Rattle.std.proofs.lemmas.List.{drop_at, length-take-le, take_at}
use Rattle.wire_tcp_options.specs.TcpItems.{Item, IsItem, first_item, is_sized, item, text}
use Rattle.wire_tcp_options.proofs.Items.{IsItem_bare, text-bare, text-other, text_here}
use Rattle.wire_tcp_options.proofs.Summaries.{and_right}
use Rattle.net_base.proofs.Readings.{none_of}
use Rattle.std.proofs.lemmas.Grind.{common_steps}

-- the data of an item have a length that its kind allows
sized : (i : Item) → IsItem i → is_sized i.kind (length i.content) ≡ true
sized i is = grind arith

no_content : (content : List ℕ) → length content ≡ 0 → content ≡ []
no_content [] e = refl
no_content (x ∷ xs) e = absurd (omega arith)

-- a kind and data of a length that the kind allows are an item
pub is_item : (kind : ℕ) (content : List ℕ) → kind ≢ 0 → kind ≢ 1 → is_sized kind (length content) ≡ true → IsItem (item kind content)
is_item kind content some other h = record {
  above = omega (arith, some);
  below = grind (arith, nat_tests);
  size = grind (arith, nat_tests);
  no_operation = λ e. absurd (other e);
  segment_size = λ e. grind (arith, nat_tests);
  window_scale = λ e. grind (arith, nat_tests);
  sack_permitted = λ e. no_content content (grind (arith, nat_tests));
  sack_ranges = λ e. (length content / 8, grind (arith, nat_tests), grind (arith, nat_tests));
}

-- the bytes begin with this item, and the rest follows it
pub record Leads (bytes : List ℕ) (i : Item) (rest : List ℕ) : Type 0 where
  pub is : IsItem i
  pub joined : bytes ≡ text i ++ rest

front : (kind : ℕ) (rest : List ℕ) → kind ≢ 1 → 2 ≤ slice_index rest 0 → slice_index rest 0 - 2 ≤ length (drop 1 rest)
    → kind ∷ rest ≡ text (item kind (take (slice_index rest 0 - 2) (drop 1 rest))) ++ drop (slice_index rest 0 - 2) (drop 1 rest)
front kind rest other some room = grind (arith, common_steps, nat_tests, text_here)

-- the result of a choice of three
choices : (a b c : Bool) (y z w : Option (Item × List ℕ)) (P : Type 0)
    → (None ≡ w → P) → (a ≡ false → b ≡ true → y ≡ w → P) → (a ≡ false → b ≡ false → c ≡ true → z ≡ w → P)
    → (if a then None else if b then y else if c then z else None) ≡ w → P
choices a b c y z w P k g h e = grind arith

of_some : (a b : Item × List ℕ) → Some a ≡ Some b → a ≡ b
of_some a b e = cc

-- the bytes begin with the computed item
pub first_item-Leads : (bytes : List ℕ) (i : Item) (rest : List ℕ) → first_item bytes ≡ Some (i, rest) → Leads bytes i rest
unfolding first_item
first_item-Leads [] i rest e = absurd (cc)
first_item-Leads (kind ∷ r) i rest e =
    let size = slice_index r 0 - 2 in
    let following = drop 1 r in
    choices (kind == 0) (kind == 1) (nat_le 2 (slice_index r 0) && nat_le size (length following) && is_sized kind size) _ _ (Some (i, rest)) (Leads (kind ∷ r) i rest)
    (λ none. absurd (cc))
    (λ some one same.
    let pair = of_some (item 1 [], r) (i, rest) same in
    let is = ap (λ (d : Item × List ℕ). d.0) pair in
    let left = ap (λ (d : Item × List ℕ). d.1) pair in
    let lead : Leads (kind ∷ r) (item 1 []) r = record { is = IsItem_bare; joined = ap (λ (k : ℕ). k ∷ r) (eqb-true kind 1 one) } in
    subst (λ (j : Item). Leads (kind ∷ r) j rest) is (subst (Leads (kind ∷ r) (item 1 [])) left lead))
    (λ some other t same.
    let pair = of_some (item kind (take size following), drop size following) (i, rest) same in
    let is = ap (λ (d : Item × List ℕ). d.0) pair in
    let left = ap (λ (d : Item × List ℕ). d.1) pair in
    let room : size ≤ length following = grind (arith, nat_tests) in
    let two : 2 ≤ slice_index r 0 = grind (arith, nat_tests) in
    let fits : is_sized kind (length (take size following)) ≡ true = ap (is_sized kind) (length-take-le size following room) ∙ and_right _ _ t in
    let lead : Leads (kind ∷ r) (item kind (take size following)) (drop size following) = record {
      is = is_item kind (take size following) (eqb-false kind 0 some) (eqb-false kind 1 other) fits;
      joined = front kind r (eqb-false kind 1 other) two room;
    } in
    subst (λ (j : Item). Leads (kind ∷ r) j rest) is (subst (Leads (kind ∷ r) (item kind (take size following))) left lead)) e

with_length : (i : Item) (rest : List ℕ) → IsItem i → i.kind ≢ 1 → first_item (i.kind ∷ (2 + length i.content) ∷ (i.content ++ rest)) ≡ Some (i, rest)
unfolding first_item
with_length i rest is other =
    let n = length i.content in
    let size : 2 + n - 2 ≡ n = omega arith in
    let above = is.above in
    let some : (i.kind == 0) ≡ false = grind (arith, nat_tests) in
    let no : (i.kind == 1) ≡ false = grind (arith, nat_tests) in
    let long = length-append i.content rest in
    let two : nat_le 2 (2 + n) ≡ true = grind (arith, nat_tests) in
    let room : nat_le n (length (i.content ++ rest)) ≡ true = grind (arith, nat_tests) in
    rw (some, no, two, size, room, sized i is, take_at i.content rest n refl, drop_at i.content rest n refl) refl

bare : (rest : List ℕ) → first_item (1 ∷ rest) ≡ Some (item 1 [], rest)
unfolding first_item
bare rest = refl

-- an item at the front of the bytes is the computed one
pub Leads-first_item : (bytes : List ℕ) (i : Item) (rest : List ℕ) → Leads bytes i rest → first_item bytes ≡ Some (i, rest)
Leads-first_item bytes i rest l = elim (cases_Bool (i.kind == 1)) [
  | inl y ↦
      let one = eqb-true i.kind 1 y in
      let is : item 1 [] ≡ i = ap (λ (k : ℕ). item k []) (sym one) ∙ ap (item i.kind) (sym (l.is.no_operation one)) in
      ap first_item (l.joined ∙ ap (λ (t : List ℕ). t ++ rest) (text-bare i one)) ∙ bare rest ∙ ap (λ (j : Item). Some (j, rest)) is
  | inr y ↦
      let other = eqb-false i.kind 1 y in
      ap first_item (l.joined ∙ ap (λ (t : List ℕ). t ++ rest) (text-other i other)) ∙ with_length i rest l.is other
]

-- if the bytes begin with no item, none is computed
pub first_item-None : (bytes : List ℕ) → ((i : Item) (rest : List ℕ) → Leads bytes i rest → ⊥) → first_item bytes ≡ None
first_item-None bytes h = none_of (first_item bytes) (λ d e. h d.0 d.1 (first_item-Leads bytes d.0 d.1 e))
