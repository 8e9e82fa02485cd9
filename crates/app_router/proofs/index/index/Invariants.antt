use Rattle.std.proofs.Common.{ℕ, ◌≡◌, ◌<◌, map}
use Rattle.app_router.specs.Index.{IsBlock, block_at, block_of, node_at, node_of}
use Rattle.app_router.proofs.index.index.Given as goal

abbrev pub invariant-loop-i : goal.invariant-loop-i
invariant-loop-i l =
    (k : ℕ) → k < l.i → IsBlock (block_at (map block_of l.routes) k) × (node_at l.nodes k ≡ node_of (block_at (map block_of l.routes) k) k)
