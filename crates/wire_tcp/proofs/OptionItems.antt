-- The computed items of options are those of their option list.
use Rattle.std.proofs.Common.{ℕ, zero, suc, ◌≡◌, ◌≢◌, ◌↔◌, ◌<◌, ◌≤◌, ◌==◌, List, [], ◌∷◌, ◌++◌, length, Option, Some, refl, sym, ap, subst, ◌∙◌, append_assoc, arith}
use Rattle.std.specs.List.{AllByRecursion}
use Rattle.std.specs.Option.{option_and_then, option_map}
use Rattle.std.proofs.lemmas.Bool.{eqb-true, false_from_ne_true}
use Rattle.wire_tcp_options.specs.TcpItems.{IsItem, IsOptionList, IsTail, Item, first_item, text, texts}
use Rattle.wire_tcp_options.proofs.FirstItems.{Leads, Leads-first_item, first_item-Leads}
use Rattle.wire_tcp_options.proofs.OptionLists.{shorter, text_head}
use Rattle.wire_tcp.specs.TcpRepr.{items_in, items_within}
use Rattle.net_base.proofs.Readings.{option_map-Some}
use Rattle.std.proofs.lemmas.Grind.{common_steps}
use Rattle.std.proofs.lemmas.Bool.Decides.{nat_tests}

-- an item, followed by the computed items of the rest
abbrev then_more : ℕ → Item × List ℕ → Option (List Item)
then_more n d = option_map (λ items. d.0 ∷ items) (items_within n d.1)

at_none : (n : ℕ) → items_within n [] ≡ Some []
unfolding items_within
at_none n = grind arith

at_mark : (n : ℕ) (rest : List ℕ) → items_within (suc n) (0 ∷ rest) ≡ Some []
unfolding items_within
at_mark n rest = refl

at_item : (n kind : ℕ) (rest : List ℕ) → kind ≢ 0 → items_within (suc n) (kind ∷ rest) ≡ option_and_then (then_more n) (first_item (kind ∷ rest))
unfolding items_within
at_item n kind rest some = rw (false_from_ne_true (kind == 0) (λ e. some (eqb-true kind 0 e))) refl

-- an item of the computed list
abbrev Listed : List ℕ → List Item → Type 0
Listed bytes items = (tail : List ℕ) × IsOptionList bytes items tail

-- a list with one more item in front
more : (bytes : List ℕ) (i : Item) (rest : List ℕ) (items : List Item) → Leads bytes i rest → Listed rest items → Listed bytes (i ∷ items)
more bytes i rest items lead h = grind (arith, common_steps, nat_tests, append_assoc)

-- the computed list with an item in front
after : (n : ℕ) (o : Option (Item × List ℕ)) (items : List Item) → option_and_then (then_more n) o ≡ Some items
    → (d : Item × List ℕ) × (xs : List Item) × (o ≡ Some d) × (items_within n d.1 ≡ Some xs) × (d.0 ∷ xs ≡ items)
after n o items e = grind (arith, common_steps, nat_tests, option_map-Some)

nothing : (bytes : List ℕ) (items : List Item) → IsTail bytes → Some [] ≡ Some items → Listed bytes items
nothing bytes items ends e = grind arith

none_left : (kind : ℕ) (rest : List ℕ) (items : List Item) → items_within 0 (kind ∷ rest) ≡ Some items → ⊥
unfolding items_within
none_left kind rest items e = cc

-- the computed items are an option list
listed : (n : ℕ) (bytes : List ℕ) (items : List Item) → items_within n bytes ≡ Some items → Listed bytes items
listed n [] items e = nothing [] items tt (sym (at_none n) ∙ e)
listed zero (kind ∷ rest) items e = absurd (none_left kind rest items e)
listed (suc n) (zero ∷ rest) items e = nothing (0 ∷ rest) items refl (sym (at_mark n rest) ∙ e)
listed (suc n) (suc kind ∷ rest) items e =
    let bytes = suc kind ∷ rest in
    let some : suc kind ≢ 0 = λ z. absurd (omega (arith, z)) in
    let (d, xs, first, following, joined) = after n (first_item bytes) items (sym (at_item n (suc kind) rest some) ∙ e) in
    subst (Listed bytes) joined (more bytes d.0 d.1 xs (first_item-Leads bytes d.0 d.1 first) (listed n d.1 xs following))

stepped : (i : Item) (items : List Item) (rest r bytes : List ℕ) (n : ℕ) → IsItem i → bytes ≡ text i ++ rest → bytes ≡ i.kind ∷ r
    → length rest < length bytes → length bytes ≤ n → ((m : ℕ) → length rest ≤ m → items_within m rest ≡ Some items) → items_within n bytes ≡ Some (i ∷ items)
stepped i items rest r bytes zero is joined cells less room following = absurd (omega (arith, less, room))
stepped i items rest r bytes (suc n) is joined cells less room following =
    let above = is.above in
    ap (items_within (suc n)) cells
    ∙ at_item n i.kind r (λ z. absurd (omega (arith, z, above)))
    ∙ ap (option_and_then (then_more n)) (ap first_item (sym cells) ∙ Leads-first_item bytes i rest (record { is = is; joined = joined }))
    ∙ ap (option_map (λ items. i ∷ items)) (following n (omega (arith, less, room)))

-- an option list is the computed one
computed : (items : List Item) (tail : List ℕ) (n : ℕ) → AllByRecursion IsItem items → IsTail tail → length (texts items ++ tail) ≤ n → items_within n (texts items ++ tail) ≡ Some items
computed [] [] n all ended room = at_none n
computed [] (b ∷ tail) zero all ended room = absurd (omega arith)
computed [] (b ∷ tail) (suc n) all ended room = ap (λ (k : ℕ). items_within (suc n) (k ∷ tail)) ended ∙ at_mark n tail
computed (i ∷ items) tail n all ended room =
    let rest = texts items ++ tail in
    let bytes = texts (i ∷ items) ++ tail in
    let joined : bytes ≡ text i ++ rest = append_assoc (text i) (texts items) tail in
    let (r, head) = text_head i in
    let cells : bytes ≡ i.kind ∷ (r ++ rest) = joined ∙ ap (λ (t : List ℕ). t ++ rest) head in
    stepped i items rest (r ++ rest) bytes n all.0 joined cells (shorter i bytes rest joined) room (λ m h. computed items tail m all.1 ended h)

-- the computed items are those of the bytes' option list, if they have one
pub items_in-list : (bytes : List ℕ) (items : List Item) → (items_in bytes ≡ Some items) ↔ ((tail : List ℕ) × IsOptionList bytes items tail)
items_in-list bytes items = grind (arith, common_steps, nat_tests, listed, computed)
