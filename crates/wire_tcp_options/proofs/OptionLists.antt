-- Bytes have at most one option list. If a walk stops before the end of the list, they have none.
use Rattle.std.proofs.Common.{ℕ, ◌≡◌, ◌<◌, inl, inr, eqb, List, [], ◌∷◌, ◌++◌, length, refl, sym, ap, ◌∙◌, append_assoc, length-append, arith}
use Rattle.std.specs.List.{AllByRecursion}
use Rattle.std.proofs.lemmas.Bool.{cases_Bool, eqb-false, eqb-true}
use Rattle.std.proofs.lemmas.List.{append-nil}
use Rattle.wire_tcp_options.specs.TcpItems.{Item, IsItem, IsOptionList, IsTail, text, texts}
use Rattle.wire_tcp_options.specs.TcpOption.{BeginsNothing}
use Rattle.wire_tcp_options.specs.TcpSummary.{HasNoList}
use Rattle.wire_tcp_options.proofs.FirstItems.{Leads-first_item}
use Rattle.wire_tcp_options.proofs.Items.{text-bare, text-other}
use Rattle.wire_tcp_options.proofs.Prefixes.{Walked, walk_on, walks_compared}
use Rattle.std.proofs.lemmas.Grind.{common_steps}
use Rattle.std.proofs.lemmas.Bool.Decides.{nat_tests}

-- a text begins with its kind
pub text_head : (i : Item) → (rest : List ℕ) × (text i ≡ i.kind ∷ rest)
text_head i = elim (cases_Bool (eqb i.kind 1)) [
  | inl y ↦ let e = eqb-true i.kind 1 y in ([], text-bare i e ∙ ap (λ (k : ℕ). k ∷ []) (sym e))
  | inr n ↦ (_, text-other i (eqb-false i.kind 1 n))
]

-- the first byte of a text is its kind
pub head-text : (i : Item) (b : ℕ) (bs rest : List ℕ) → b ∷ bs ≡ text i ++ rest → b ≡ i.kind
head-text i b bs rest e =
    let h = text_head i in
    let cells : b ∷ bs ≡ i.kind ∷ (h.0 ++ rest) = e ∙ ap (λ (t : List ℕ). t ++ rest) h.1 in
    cc

-- a text is not empty
pub nil-text : (i : Item) (rest : List ℕ) → [] ≡ text i ++ rest → ⊥
nil-text i rest e = grind (arith, common_steps, nat_tests, text_head)

-- no item's text begins another's
pub text_apart : (i j : Item) (a b : List ℕ) → IsItem i → IsItem j → text i ++ a ≡ text j ++ b → (i ≡ j) × (a ≡ b)
text_apart i j a b is js e =
    let left = Leads-first_item (text i ++ a) i a (record { is = is; joined = refl }) in
    let right = Leads-first_item (text i ++ a) j b (record { is = js; joined = e }) in
    let same : (i, a) ≡ (j, b) = cc in
    (ap (λ (d : Item × List ℕ). d.0) same, ap (λ (d : Item × List ℕ). d.1) same)

-- items that a walk has passed
abbrev pub Items : List ℕ → List Item → List ℕ → Type 0
Items = Walked text IsItem

-- a tail begins with no item
tail_no_item : (t : List ℕ) (i : Item) (rest : List ℕ) → IsTail t → IsItem i → t ≡ text i ++ rest → ⊥
tail_no_item t i rest ended is e = grind (arith, common_steps, nat_tests, nil-text, head-text)

-- no list continues at a place where no item begins
none_more : (zs : List Item) (t u : List ℕ) → AllByRecursion IsItem zs → ((i : Item) (rest : List ℕ) → IsItem i → t ≡ text i ++ rest → ⊥) → t ≡ texts zs ++ u → (zs ≡ []) × (t ≡ u)
none_more [] t u za none e = (refl, e)
none_more (z ∷ zs) t u za none e = absurd (none z (texts zs ++ u) za.0 (e ∙ append_assoc (text z) (texts zs) u))

-- two walks that both stop where no item begins are the same
pub one_end : (bytes : List ℕ) (xs ys : List Item) (t u : List ℕ) → Items bytes xs t → Items bytes ys u
    → ((i : Item) (rest : List ℕ) → IsItem i → t ≡ text i ++ rest → ⊥) → ((i : Item) (rest : List ℕ) → IsItem i → u ≡ text i ++ rest → ⊥) → (xs ≡ ys) × (t ≡ u)
one_end bytes xs ys t u a b ends ends' = elim (walks_compared text IsItem text_apart bytes xs ys t u a b) [
  | inl g ↦
      let n = none_more g.more t u g.each ends g.left in
      (sym (g.longer ∙ ap (λ (zs : List Item). xs ++ zs) n.0 ∙ append-nil xs), n.1)
  | inr g ↦
      let n = none_more g.more u t g.each ends' g.left in
      (g.longer ∙ ap (λ (zs : List Item). ys ++ zs) n.0 ∙ append-nil ys, sym n.1)
]

items_of : (bytes : List ℕ) (items : List Item) (tail : List ℕ) → IsOptionList bytes items tail → Items bytes items tail
items_of bytes items tail l = grind arith

-- bytes have at most one option list
pub one_list : (bytes : List ℕ) (xs ys : List Item) (t u : List ℕ) → IsOptionList bytes xs t → IsOptionList bytes ys u → (xs ≡ ys) × (t ≡ u)
one_list bytes xs ys t u a b =
    one_end bytes xs ys t u (items_of bytes xs t a) (items_of bytes ys u b) (λ i rest. tail_no_item t i rest a.ended) (λ i rest. tail_no_item u i rest b.ended)

-- if a walk stops before the end, there is no option list
pub stuck : (bytes : List ℕ) (xs : List Item) (r : List ℕ) → Items bytes xs r → 0 < length r → BeginsNothing r → HasNoList bytes
stuck bytes xs r w some nothing ys t list =
    let same = one_end bytes xs ys r t w (items_of bytes ys t list) nothing.no_item (λ i rest. tail_no_item t i rest list.ended) in
    no_tail r t same.1 list.ended some nothing
  where
    no_tail : (r t : List ℕ) → r ≡ t → IsTail t → 0 < length r → BeginsNothing r → ⊥
    no_tail r [] e ended some nothing = omega (arith, ap length e)
    no_tail r (b ∷ t) e ended some nothing = nothing.no_mark t (e ∙ ap (λ (x : ℕ). x ∷ t) ended)

-- the walk passes one more item
pub one_more : (bytes : List ℕ) (xs : List Item) (i : Item) (r s : List ℕ) → Items bytes xs r → IsItem i → r ≡ text i ++ s → Items bytes (xs ++ i ∷ []) s
one_more bytes xs i r s w is e =
    walk_on text IsItem bytes xs (i ∷ []) r s w (record { each = (is, tt); joined_is = e ∙ ap (λ (l : List ℕ). l ++ s) (sym (append-nil (text i))) })

-- the bytes after an item are fewer
pub shorter : (i : Item) (bytes rest : List ℕ) → bytes ≡ text i ++ rest → length rest < length bytes
shorter i bytes rest e = grind (arith, common_steps, nat_tests, text_head, length-append)
