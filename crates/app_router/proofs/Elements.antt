-- The nodes of an index are those of the blocks.
use Rattle.std.proofs.Common.{ℕ, ◌≡◌, ◌∙◌, ◌<◌, ◌≤◌, List, get_or, length, map, sym, ap, subst, arith}
use Rattle.std.specs.List.Sorted.{IsNonDecreasingBy, IsPermutation}
use Rattle.std.proofs.Math.ListN.{get_or-map as get_or-map_at}
use Rattle.std.proofs.lemmas.List.{get_or-map, get_or_default, length-map}
use Rattle.std.proofs.lemmas.List.Elements.{Contains-get_or}
use Rattle.std.proofs.lemmas.List.Sorted.{Contains-permutation, IsPermutation-sym, length_permutation}
use Rattle.app_router.proofs.Finds.{IsNodeOf, node_of-IsNodeOf}
use Rattle.app_router.proofs.Places.{place_from_rank}
use Rattle.app_router.specs.Index.{IsBlock, IsFilled, IsIndex, block_at, node_at, node_of, node_with, place, rank, unlinked}
use Rattle.app_router.specs.declared.index.Node.{Node}
use Rattle.ip_wire.specs.declared.IpCidr.{IpCidr}

-- each node of the one list is in the other
moved_at : (xs ys : List Node) (k : ℕ) → IsPermutation (map unlinked xs) (map unlinked ys) → k < length xs
    → (i : ℕ) × (i < length ys) × (unlinked (node_at ys i) ≡ unlinked (node_at xs k))
moved_at xs ys k moved below =
    let d = node_with 0 0 0 0 in
    let x = get_or (map unlinked xs) k d in
    let in_first = Contains-get_or (map unlinked xs) k d (subst (λ n. k < n) (sym (length-map xs unlinked)) below) in
    let found = Contains-permutation (map unlinked xs) (map unlinked ys) x moved in_first in
    let within : found.0 < length ys = subst (λ n. found.0 < n) (length-map ys unlinked) found.1 in
    (found.0, within, sym (get_or-map unlinked ys found.0 d x within) ∙ found.2 ∙ get_or-map_at unlinked xs k d)

-- a node that is that of a block but for its link
node_from : (block : IpCidr) (i : ℕ) (node : Node) → IsBlock block → unlinked node ≡ node_of block i → IsNodeOf block i node
node_from block i node valid is =
    let of : IsNodeOf block i (unlinked node) = subst (IsNodeOf block i) (sym is) (node_of-IsNodeOf block i valid) in
    record { len = of.len; len_fits = of.len_fits; route_is = of.route_is; leads = of.leads; aligned = of.aligned }

-- each node is that of a block, but for its link
pub block_for : (blocks : List IpCidr) (made nodes : List Node) (k : ℕ) → IsFilled blocks made → IsPermutation (map unlinked made) (map unlinked nodes)
    → k < length nodes → (i : ℕ) × (i < length blocks) × (unlinked (node_at nodes k) ≡ node_of (block_at blocks i) i)
block_for blocks made nodes k filled moved below =
    let found = moved_at nodes made k (IsPermutation-sym (map unlinked made) (map unlinked nodes) moved) below in
    let within : found.0 < length blocks = subst (λ n. found.0 < n) filled.len found.1 in
    (found.0, within, sym found.2 ∙ ap unlinked (filled.each found.0 within).1)

pub node_block : (blocks : List IpCidr) (made nodes : List Node) (k : ℕ) → IsFilled blocks made → IsPermutation (map unlinked made) (map unlinked nodes)
    → k < length nodes → (i : ℕ) × (i < length blocks) × IsNodeOf (block_at blocks i) i (node_at nodes k)
node_block blocks made nodes k filled moved below =
    let found = block_for blocks made nodes k filled moved below in
    let i = found.0 in
    (i, found.1, node_from (block_at blocks i) i (node_at nodes k) (filled.each i found.1).0 found.2)

-- each block has a node
pub node_for : (blocks : List IpCidr) (made nodes : List Node) (i : ℕ) → IsFilled blocks made → IsPermutation (map unlinked made) (map unlinked nodes)
    → i < length blocks → (k : ℕ) × (k < length nodes) × (unlinked (node_at nodes k) ≡ node_of (block_at blocks i) i)
node_for blocks made nodes i filled moved below =
    let found = moved_at made nodes i moved (subst (λ n. i < n) (sym filled.len) below) in
    (found.0, found.1, found.2 ∙ ap unlinked (filled.each i below).1)

pub block_node : (blocks : List IpCidr) (made nodes : List Node) (i : ℕ) → IsFilled blocks made → IsPermutation (map unlinked made) (map unlinked nodes)
    → i < length blocks → (k : ℕ) × (k < length nodes) × IsNodeOf (block_at blocks i) i (node_at nodes k)
block_node blocks made nodes i filled moved below =
    let found = node_for blocks made nodes i filled moved below in
    (found.0, found.1, node_from (block_at blocks i) i (node_at nodes found.0) (filled.each i below).0 found.2)

-- in order their places are in order too
pub placed : (blocks : List IpCidr) (made nodes : List Node) → IsFilled blocks made → IsPermutation (map unlinked made) (map unlinked nodes)
    → IsNonDecreasingBy rank nodes → IsNonDecreasingBy place nodes
placed blocks made nodes filled moved sorted i j d le below =
    let first : i < length nodes = omega (arith, le, below) in
    let a = (node_block blocks made nodes i filled moved first).2 in
    let b = (node_block blocks made nodes j filled moved below).2 in
    let z = node_with 0 0 0 0 in
    let up = place_from_rank (node_at nodes i) (node_at nodes j) (omega (arith, a.len_fits)) (omega (arith, b.len_fits)) (sorted i j z le below) in
    subst (λ n. place n ≤ place (get_or nodes j d)) (get_or_default nodes i z d first)
    (subst (λ n. place (node_at nodes i) ≤ place n) (get_or_default nodes j z d below) up)

-- there are as many nodes as blocks
pub counted : (blocks : List IpCidr) (nodes : List Node) → IsIndex blocks nodes → length blocks ≡ length nodes
counted blocks nodes index =
    sym index.filled.len ∙ sym (length-map index.made unlinked) ∙ sym (length_permutation (map unlinked index.made) (map unlinked nodes) index.moved) ∙ length-map nodes unlinked
