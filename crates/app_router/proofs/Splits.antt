-- The place of an address among nodes in order.
use Rattle.std.proofs.Common.{ℕ, ◌≡◌, ◌<◌, ◌≤◌, List, [], get_or, length, subst, arith}
use Rattle.std.specs.List.Sorted.{IsNonDecreasingBy}
use Rattle.std.proofs.lemmas.List.{get_or_default}
use Rattle.app_router.specs.Index.{node_at, node_with, place}
use Rattle.app_router.specs.declared.index.Node.{Node}

-- what an index reads past a list of nodes
abbrev pub unread : Node
unread = record { high = 0; low = 0; route = 0; above = 0; version = 0; prefix_len = 0; unused = []; hint = 0 }

pub unread_at : (nodes : List Node) (q : ℕ) → q < length nodes → get_or nodes q unread ≡ node_at nodes q
unread_at nodes q below = get_or_default nodes q unread (node_with 0 0 0 0) below

-- if one node is not after another, those before it are not
pub split_before : (nodes : List Node) (q : ℕ) (node : Node) → IsNonDecreasingBy place nodes → q < length nodes
    → place (get_or nodes q unread) ≤ place node → (k : ℕ) → k ≤ q → place (node_at nodes k) ≤ place node
split_before nodes q node sorted below up k le =
    let here : place (node_at nodes q) ≤ place node = subst (λ n. place n ≤ place node) (unread_at nodes q below) up in
    omega (arith, sorted k q (node_with 0 0 0 0) le below, here)

-- if it is, those after it are
pub split_after : (nodes : List Node) (q : ℕ) (node : Node) → IsNonDecreasingBy place nodes → q < length nodes
    → place node < place (get_or nodes q unread) → (k : ℕ) → q ≤ k → k < length nodes → place node < place (node_at nodes k)
split_after nodes q node sorted below up k le inside =
    let here : place node < place (node_at nodes q) = subst (λ n. place node < place n) (unread_at nodes q below) up in
    omega (arith, sorted q k (node_with 0 0 0 0) le inside, here)
