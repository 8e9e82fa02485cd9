-- The search for an option of one kind, by the list up to the end mark and by the bytes after it.
use Rattle.std.proofs.Common.{ℕ, inl, inr, ◌≡◌, ◌↔◌, ◌∙◌, ◌++◌, ◌∷◌, [], Bool, List, MatchOption, Option, Some, None, map, refl, sym, ap, subst, is_some, eqb, true, false}
use Rattle.std.specs.List.{AllByRecursion, flat_map}
use Rattle.std.specs.Option.{option_map_or}
use Rattle.std.specs.Prelude.{Err, IfOk, Ok, Result}
use Rattle.std.proofs.lemmas.Bool.{cases_Bool}
use Rattle.ip_wire.specs.declared.Error.{Error}
use Rattle.ip_wire.proofs.One.{one_answer}
use Rattle.ip_wire.proofs.OptionLists.{one_list}
use Rattle.ip_wire.proofs.Walks.{Marks, first_of-append, long, long_on, one_long_walk, stuck_walk}
use Rattle.ip_wire.specs.TcpItems.{IsItem, IsOptionList, Item, first_blocks, is_of, last_of, text, texts}
use Rattle.ip_wire.specs.TcpSummary.{Summarizes}
use Rattle.ip_wire.specs.TcpWalk.{Answers, IsMark, Mark, answer_of, first_of, mark_text}
use Rattle.ip_wire.specs.declared.TcpOptionSummary.{TcpOptionSummary}
use Rattle.promises.specs.Sack.{AgreesWith}

-- ---- a list as the start of a walk

marks_are : (items : List Item) → AllByRecursion IsItem items → AllByRecursion IsMark (map Some items)
marks_are [] each = tt
marks_are (i ∷ items) each = (each.0, marks_are items each.1)

marks_text : (items : List Item) → texts items ≡ flat_map mark_text (map Some items)
marks_text [] = refl
marks_text (i ∷ items) = ap (λ (l : List ℕ). text i ++ l) (marks_text items)

walk_of : (options : List ℕ) (items : List Item) (tail : List ℕ) → IsOptionList options items tail → Marks options (map Some items) tail
walk_of options items tail list = record { each = marks_are items list.each; joined_is = list.joined ∙ ap (λ (l : List ℕ). l ++ tail) (marks_text items) }

-- ---- the first option of a kind

first_of-front : (kind : ℕ) (xs ys : List Mark) (i : Item) → first_of kind xs ≡ Some i → first_of kind (xs ++ ys) ≡ Some i
first_of-front kind [] ys i found = absurd (cc)
first_of-front kind (None ∷ xs) ys i found = first_of-front kind xs ys i found
first_of-front kind (Some j ∷ xs) ys i found = elim (cases_Bool (eqb j.kind kind)) [
  | inl y ↦ rw y (rw y at found)
  | inr n ↦ rw n (first_of-front kind xs ys i (rw n at found))
]

-- the search passes the list, and then the bytes after it
on_following : {A : Type 0} (options : List ℕ) (items : List Item) (tail : List ℕ) (kind : ℕ) (f : Item → A) (default : A) (a : Result A Error)
    → IsOptionList options items tail → Answers options kind f default a
    → let next = stuck_walk tail in a ≡ answer_of f default (first_of kind (map Some items ++ next.marks)) next.rest
on_following options items tail kind f default a list (marks, rest, longest, found) =
    let next = stuck_walk tail in
    let whole = map Some items ++ next.marks in
    let (same, end) = one_long_walk options marks whole rest next.rest longest (long_on options (map Some items) tail (walk_of options items tail list) next) in
    found ∙ ap (λ l. answer_of f default (first_of kind l) rest) same ∙ ap (λ r. answer_of f default (first_of kind whole) r) end

-- the answer is the first option in the list, or the answer of the bytes after it
by_first : {A : Type 0} (options : List ℕ) (items : List Item) (tail : List ℕ) (kind : ℕ) (f : Item → A) (default : A) (a : Result A Error) (first : Option Item)
    → IsOptionList options items tail → first_of kind (map Some items) ≡ first → Answers options kind f default a
    → MatchOption first (Answers tail kind f default a) (λ i. a ≡ Ok (f i))
by_first options items tail kind f default a None list is answers =
    let next = stuck_walk tail in (
      next.marks,
      next.rest,
      long tail next.marks next.rest next.walk next.nothing,
      on_following options items tail kind f default a list answers
          ∙ ap (λ o. answer_of f default o next.rest) (first_of-append kind (map Some items) next.marks is),
    )
by_first options items tail kind f default a (Some i) list is answers =
    let next = stuck_walk tail in
    on_following options items tail kind f default a list answers
    ∙ ap (λ o. answer_of f default o next.rest) (first_of-front kind (map Some items) next.marks i is)

-- ---- the last option of a kind

none-last : (kind : ℕ) (items : List Item) → first_of kind (map Some items) ≡ None → last_of (is_of kind) items ≡ None
none-last kind [] none = refl
none-last kind (i ∷ items) none = elim (cases_Bool (eqb i.kind kind)) [
  | inl y ↦ absurd (let found : Some i ≡ None = rw y at none in cc)
  | inr n ↦ rw (n, none-last kind items (rw n at none)) refl
]

-- ---- agreement

agrees_by : {A : Type 0} (options : List ℕ) (items : List Item) (tail : List ℕ) (kind : ℕ) (f : Item → A) (default value : A) (a : Result A Error) (first : Option Item)
    → IsOptionList options items tail → first_of kind (map Some items) ≡ first → Answers options kind f default a → (first ≡ None → value ≡ default)
    → (a ≡ Ok value) ↔ MatchOption first (Answers tail kind f default (Ok default)) (λ i. f i ≡ value)
agrees_by options items tail kind f default value a None list is answers nothing =
    let following = by_first options items tail kind f default a None list is answers in
    let no = nothing refl in (
      λ e. subst (λ x. Answers tail kind f default x) (e ∙ ap Ok no) following,
      λ found. one_answer tail kind f default a (Ok default) following found ∙ ap Ok (sym no),
    )
agrees_by options items tail kind f default value a (Some i) list is answers nothing =
    let front = by_first options items tail kind f default a (Some i) list is answers in
    (λ e. let same : Ok (f i) ≡ Ok value = sym front ∙ e in cc, λ e. front ∙ ap Ok e)

agrees : {A : Type 0} (options : List ℕ) (items : List Item) (tail : List ℕ) (kind : ℕ) (f : Item → A) (default value : A) (a : Result A Error)
    → IsOptionList options items tail → Answers options kind f default a → (first_of kind (map Some items) ≡ None → value ≡ default)
    → (a ≡ Ok value) ↔ AgreesWith options kind f default value
agrees options items tail kind f default value a list answers nothing =
    let here = agrees_by options items tail kind f default value a (first_of kind (map Some items)) list refl answers nothing in (
      λ e. (items, tail, list, here.0 e),
      λ (others, left, other_list, found).
          let (same, rest) = one_list options others items left tail other_list list in
          here.1 (subst (λ l. MatchOption (first_of kind (map Some items)) (Answers l kind f default (Ok default)) (λ i. f i ≡ value)) rest
          (subst (λ l. MatchOption (first_of kind (map Some l)) (Answers left kind f default (Ok default)) (λ i. f i ≡ value)) same found)),
    )

-- whether SACK is permitted
pub permitted : {E : Type 0} (options : List ℕ) (a : Result Bool Error) (r : Result TcpOptionSummary E) → IfOk r (Summarizes options) → Answers options 4 (λ i. true) false a
    → IfOk r (λ s. (a ≡ Ok s.sack_permitted) ↔ AgreesWith options 4 (λ i. true) false s.sack_permitted)
permitted options a (Ok s) (items, tail, list, is) answers =
    agrees options items tail 4 (λ i. true) false s.sack_permitted a list answers
    (λ none. ap (λ (x : TcpOptionSummary). x.sack_permitted) is ∙ ap is_some (none-last 4 items none))
permitted options a (Err e) ok answers = tt

-- the ranges of SACK
pub ranges : {E : Type 0} (options : List ℕ) (a : Result (List (Option (ℕ × ℕ))) Error) (r : Result TcpOptionSummary E) → IfOk r (Summarizes options)
    → Answers options 5 (λ i. first_blocks i.content) (first_blocks []) a
    → IfOk r (λ s. (a ≡ Ok s.sack_ranges) ↔ AgreesWith options 5 (λ i. first_blocks i.content) (first_blocks []) s.sack_ranges)
ranges options a (Ok s) (items, tail, list, is) answers =
    agrees options items tail 5 (λ i. first_blocks i.content) (first_blocks []) s.sack_ranges a list answers
    (λ none. ap (λ (x : TcpOptionSummary). x.sack_ranges) is ∙ ap (λ (o : Option Item). first_blocks (option_map_or (λ i. i.content) o [])) (none-last 5 items none))
ranges options a (Err e) ok answers = tt
