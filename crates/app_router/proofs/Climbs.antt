-- The way from a node to those around it.
use Rattle.std.proofs.Common.{ℕ, ◌≡◌, ◌∙◌, ◌-◌, ◌/◌, ◌^◌, ◌<◌, ◌≤◌, List, inl, inr, length, sym, subst, arith}
use Rattle.std.specs.List.Sorted.{IsNonDecreasingBy}
use Rattle.std.proofs.lemmas.Bool.{cases_lt, cases_eq}
use Rattle.std.proofs.lemmas.Nat.{pow_pos}
use Rattle.app_router.proofs.Places.{between, shorter_prefix}
use Rattle.app_router.specs.Index.{AreLinked, Encloses, IsLink, IsNearest, node_at, place}
use Rattle.app_router.specs.declared.index.Node.{Node}

-- in order, what encloses the last of three blocks and not the middle one is within the middle one, which then encloses
-- the last too
around : (first middle last : Node) → place first ≤ place middle → place middle ≤ place last → ¬ Encloses first middle → ¬ Encloses middle last
    → ¬ Encloses first last
around first middle last low high apart not_last (shorter, same) =
    let d = 2 ^ (128 - first.prefix_len) in
    let shared : place middle / d ≡ place first / d = between d (place first) (place middle) (place last) (pow_pos (128 - first.prefix_len)) low high same in
    elim (cases_lt first.prefix_len middle.prefix_len) [
      | inl less ↦ apart (less, sym shared)
      | inr more ↦ not_last (
        omega (arith, more, shorter),
        shorter_prefix (128 - first.prefix_len) (128 - middle.prefix_len) (place middle) (place last) (omega (arith, more)) (shared ∙ same),
      )
    ]

-- after a node that does not enclose it, the search goes on with the link of that node
pub climbs : (nodes : List Node) (above from start : ℕ) (inner : Node) → 0 < from → from ≤ start → start ≤ length nodes → IsNonDecreasingBy place nodes
    → AreLinked nodes start → ((k : ℕ) → k < start → place (node_at nodes k) ≤ place inner) → ¬ Encloses (node_at nodes (from - 1)) inner
    → above ≡ (node_at nodes (from - 1)).above → IsNearest nodes from start inner → IsNearest nodes above start inner
climbs nodes above from start inner some low high sorted linked places apart is nearest k from_above below =
    let q = from - 1 in
    let link : IsLink nodes q (node_at nodes q).above = linked q (omega (arith, some, low)) in
    elim (cases_lt k from) [
      | inr following ↦ nearest k following below
      | inl before ↦ elim (cases_eq k q) [
        | inl at ↦ subst (λ k. ¬ Encloses (node_at nodes k) inner) (sym at) apart
        | inr other ↦
            let less : k < q = omega (arith, before, other, some) in
            around (node_at nodes k) (node_at nodes q) inner (sorted k q _ (omega (arith, less)) (omega (arith, some, low, high)))
            (places q (omega (arith, some, low))) (link.nearest k (subst (λ a. a ≤ k) is from_above) less) apart
      ]
    ]
