use Rattle.std.proofs.Common.{◌-◌, ◌<◌, length, subst, arith}
use Rattle.std.specs.List.Sorted.{IsNonDecreasingBy}
use Rattle.std.proofs.lemmas.List.{get_or_default}
use Rattle.app_router.proofs.Chosen.{chosen, finds, nothing}
use Rattle.app_router.proofs.Elements.{placed}
use Rattle.app_router.specs.Index.{IsChosenAt, node_with, place}
use Rattle.app_router.specs.declared.index.Node.{Node}
use Rattle.app_router.proofs.Splits.{unread}
use Rattle.app_router.proofs.index.found.Goals as goal

pub returns-in-0 : goal.returns-in-0
returns-in-0 c blocks addr is target index split =
    let nodes = c.args.nodes.now in
    let start = c.args.start in
    let sorted : IsNonDecreasingBy place nodes = placed blocks index.made nodes index.filled index.moved index.sorted in
    let f = finds nodes addr c.args.target.now start c.climb.result target is sorted
    index.linked c.requires (split sorted) c.climb.ensures.within c.climb.ensures.encloses c.climb.ensures.last in
    nothing blocks nodes addr start c.climb.result index f c.in-0.is

pub returns-in_default : goal.returns-in_default
returns-in_default c blocks addr is target index split =
    let nodes = c.args.nodes.now in
    let start = c.args.start in
    let sorted : IsNonDecreasingBy place nodes = placed blocks index.made nodes index.filled index.moved index.sorted in
    let f = finds nodes addr c.args.target.now start c.climb.result target is sorted
    index.linked c.requires (split sorted) c.climb.ensures.within c.climb.ensures.encloses c.climb.ensures.last in
    let some : 0 < c.climb.result = omega (arith, c.in_default) in
    let below : c.climb.result - 1 < length nodes = omega (arith, some, f.within, f.low) in
    let same = get_or_default nodes (c.climb.result - 1) (node_with 0 0 0 0) unread below in
    subst (λ (n : Node). IsChosenAt blocks addr n.route) same (chosen blocks nodes addr start c.climb.result index f some)
