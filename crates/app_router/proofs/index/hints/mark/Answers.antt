use Rattle.std.proofs.Common.{◌∙◌, ◌++◌, ap, ap₂, drop, map, rules, subst, sym, take}
use Rattle.std.proofs.lemmas.List.{map-append}
use Rattle.std.proofs.lemmas.List.Sorted.{IsPartitionPoint-from_clause}
use Rattle.app_router.proofs.HintOrder.{back_unhinted, border, front_unhinted, hinted, is_ipv4, parted}
use Rattle.app_router.proofs.Links.{AreUnmarkedAlike}
use Rattle.app_router.specs.Hints.{IsUnhinted}
use Rattle.app_router.specs.Index.{unmarked}
use Rattle.app_router.proofs.index.hints.mark.Goals as goal

pub returns-clause-same : goal.returns-clause-same
returns-clause-same c =
    let split = c.split_at_mut-ipv4 in
    c.set_hint.ensures.same
    ∙ map-append unmarked c.mark_version.new.nodes c.mark_version-2.new.nodes
    ∙ ap₂ (λ xs ys. xs ++ ys) c.mark_version.ensures.same c.mark_version-2.ensures.same
    ∙ sym (map-append unmarked split.result.0.now split.result.1.now)
    ∙ ap (map unmarked) (sym split.ensures.value)

pub returns-clause-hinted : goal.returns-clause-hinted
returns-clause-hinted c many o =
    let old = c.args.nodes.now in
    let n = c.partition_point-count.result in
    let split = c.split_at_mut-ipv4 in
    let point = IsPartitionPoint-from_clause is_ipv4 _ _ c.partition_point-count.ensures.partitioned (parted old o) (λ a r q k. search rules) in
    let b = border old n c.partition_point-count.ensures.bound point in
    let first : AreUnmarkedAlike c.mark_version.new.nodes (take n old) = c.mark_version.ensures.same ∙ ap (map unmarked) split.ensures.front in
    let second : AreUnmarkedAlike c.mark_version-2.new.nodes (drop n old) = c.mark_version-2.ensures.same ∙ ap (map unmarked) split.ensures.back in
    let front = subst IsUnhinted (sym split.ensures.front) (front_unhinted old n o b) in
    let back = subst IsUnhinted (sym split.ensures.back) (back_unhinted old n o b) in
    hinted old c.mark_version.new.nodes c.mark_version-2.new.nodes c.set_hint.new.nodes n b first second c.set_hint.ensures.same (returns-clause-same c)
    (search (rules, c.set_hint.ensures.set)) c.set_hint.ensures.others (c.mark_version.ensures.places front) (c.mark_version-2.ensures.places back)
