use Rattle.std.proofs.Common.{◌∙◌, ◌+◌, ◌*◌, arith, length, subst, sym}
use Rattle.std.proofs.lemmas.List.Sorted.{IsNonDecreasingBy-from_sort}
use Rattle.app_router.proofs.Ranges.{answered, beside_sorted, first_sorted, spared_by_all}
use Rattle.app_router.specs.Table.{IsBeside}
use Rattle.app_router.proofs.table.list_ranges.Goals as goal

pub returns-clause-ranges : goal.returns-clause-ranges
returns-clause-ranges c blocks index =
    let sorted = c.sort_unstable.new.self in
    answered blocks c.args.nodes.now c.bound.new.ranges sorted c.answer_each.new.ranges index c.bound.ensures.bounded c.sort_unstable.ensures.permutation
    (IsNonDecreasingBy-from_sort (λ x. x) sorted c.sort_unstable.ensures.sorted) c.answer_each.ensures.len c.answer_each.ensures.starts
    (c.answer_each.ensures.answers blocks index)

pub returns-clause-first : goal.returns-clause-first
returns-clause-first c =
    let sorted = c.sort_unstable.new.self in
    let up = IsNonDecreasingBy-from_sort (λ x. x) sorted c.sort_unstable.ensures.sorted in
    c.answer_each.ensures.starts 0
    ∙ first_sorted c.bound.new.ranges sorted c.sort_unstable.ensures.permutation up (omega (arith, c.bound.ensures.len, c.requires)) c.bound.ensures.first

pub returns-clause-beside : goal.returns-clause-beside
returns-clause-beside c blocks index count p undivided k below =
    let sorted = c.sort_unstable.new.self in
    subst (IsBeside count p) (sym (c.answer_each.ensures.starts k))
    (beside_sorted c.bound.new.ranges sorted count p c.sort_unstable.ensures.permutation
    (c.bound.ensures.beside count p (spared_by_all blocks c.args.nodes.now count p index undivided)) k (omega (arith, below, c.answer_each.ensures.len)))
