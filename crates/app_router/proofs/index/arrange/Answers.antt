use Rattle.std.proofs.Common.{rules, ◌≡◌, ◌∙◌, length, map, sym, subst, arith}
use Rattle.std.specs.List.Sorted.{IsNonDecreasingBy, IsPermutation}
use Rattle.std.proofs.lemmas.List.Sorted.{IsNonDecreasingBy-from_sort_by, IsPermutation-map}
use Rattle.app_router.proofs.Elements.{placed}
use Rattle.app_router.proofs.HintOrder.{in_order}
use Rattle.app_router.proofs.Links.{AreAlike, AreUnmarkedAlike, alike_length, alike_ranks, unmarked_alike, unmarked_linked}
use Rattle.app_router.specs.Index.{AreLinked, rank, unlinked}
use Rattle.app_router.proofs.index.arrange.Goals as goal

pub returns-clause-index : goal.returns-clause-index
returns-clause-index c blocks filled =
    let made = c.args.nodes.now in
    let sorted = c.sort_unstable_by.new.self in
    let ordered : IsNonDecreasingBy rank sorted = IsNonDecreasingBy-from_sort_by rank sorted c.sort_unstable_by.ensures.sorted (λ a r f' k. search rules) in
    let moved : IsPermutation (map unlinked made) (map unlinked sorted) = IsPermutation-map unlinked made sorted c.sort_unstable_by.ensures.permutation in
    let linked = c.link.new.nodes in
    let new = c.mark.new.nodes in
    let same : AreUnmarkedAlike linked new = sym c.mark.ensures.same in
    let alike : AreAlike new sorted = sym (unmarked_alike linked new same) ∙ c.link.ensures.same in
    let links : AreLinked linked (length linked) = c.link.ensures.linked (placed blocks made sorted filled moved ordered) in
    record {
      count = omega (arith, c.requires, filled.len);
      made = made;
      filled = filled;
      moved = subst (IsPermutation (map unlinked made)) (sym alike) moved;
      sorted = alike_ranks sorted new (sym alike) ordered;
      linked = unmarked_linked linked new (length new) same (subst (AreLinked linked) (alike_length linked new (unmarked_alike linked new same)) links);
    }

pub returns-clause-hinted : goal.returns-clause-hinted
returns-clause-hinted c blocks filled many =
    let made = c.args.nodes.now in
    let sorted = c.sort_unstable_by.new.self in
    let ordered : IsNonDecreasingBy rank sorted = IsNonDecreasingBy-from_sort_by rank sorted c.sort_unstable_by.ensures.sorted (λ a r f' k. search rules) in
    let moved : IsPermutation (map unlinked made) (map unlinked sorted) = IsPermutation-map unlinked made sorted c.sort_unstable_by.ensures.permutation in
    let linked = c.link.new.nodes in
    let size : length c.mark.new.nodes ≡ length linked = alike_length c.mark.new.nodes linked (unmarked_alike c.mark.new.nodes linked c.mark.ensures.same) in
    c.mark.ensures.hinted (omega (arith, many, size)) (in_order blocks made sorted linked filled moved (placed blocks made sorted filled moved ordered) c.link.ensures.same c.link.ensures.none)
