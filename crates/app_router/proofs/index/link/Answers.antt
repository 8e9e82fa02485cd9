use Rattle.std.proofs.Common.{◌≡◌, ◌∙◌, ◌<◌, ◌≤◌, length, get_or, arith, sym, subst}
use Rattle.std.proofs.lemmas.List.{get_or_default}
use Rattle.app_router.specs.Index.{node_at, node_with, place}
use Rattle.app_router.proofs.HintOrder.{unhinted_more}
use Rattle.app_router.proofs.Links.{alike_places, alike_set, links_more}
use Rattle.app_router.proofs.Splits.{unread}
use Rattle.app_router.proofs.index.link.Goals as goal

pub loop-i-preserved : goal.loop-i-preserved
loop-i-preserved c =
    let nodes = c.loop-i.nodes in
    let i = c.loop-i.i in
    let old = c.args.nodes.now in
    let node = get_or nodes i unread in
    let below : i < length nodes = omega arith in
    let same : node ≡ node_at nodes i = get_or_default nodes i unread (node_with 0 0 0 0) below in
    let kept = c.loop-i.invariant in
    record {
      none = unhinted_more nodes i c.climb-above.result node below kept.none;
      same = alike_set nodes i c.climb-above.result node same ∙ kept.same;
      linked = λ sorted.
          let ordered = alike_places old nodes (sym kept.same) sorted in
          links_more nodes i c.climb-above.result node below same (kept.linked sorted) c.climb-above.ensures.within c.climb-above.ensures.encloses
          (c.climb-above.ensures.last ordered (kept.linked sorted)
          (λ k less. subst (λ n. place (node_at nodes k) ≤ place n) (sym same) (ordered k i (node_with 0 0 0 0) (omega (arith, less)) below)));
    }
