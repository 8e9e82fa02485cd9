use Rattle.std.proofs.Common.{ℕ, ◌≡◌, ◌+◌, ◌-◌, ◌*◌, ◌/◌, ◌%◌, ◌^◌, ◌<◌, List, length}
use Rattle.app_router.specs.Index.{node_at}
use Rattle.app_router.specs.Table.{IsBeside, SparesNode, range_at, start_of}
use Rattle.app_router.specs.declared.index.Node.{Node}
use Rattle.app_router.proofs.table.bound.Given as goal

-- two ranges begin where the block of the node at index k begins, and after its end
abbrev pub ArePlaced : List ℕ → ℕ → Node → Type 0
ArePlaced ranges k node = node.version ≡ 4 → (start_of (range_at ranges (2 * k + 2)) ≡ node.high / 2 ^ 32)
    × (start_of (range_at ranges (2 * k + 3)) ≡ (node.high + 2 ^ (64 - node.prefix_len)) % 2 ^ 64 / 2 ^ 32)

abbrev pub invariant-loop-i : goal.invariant-loop-i
invariant-loop-i l = record {
  placed : (k : ℕ) → k < l.i → ArePlaced l.ranges k (node_at l.nodes k);
  first : start_of (range_at l.ranges 0) ≡ 0;
  beside : (count p : ℕ) → ((k : ℕ) → k < length l.nodes → SparesNode count p (node_at l.nodes k))
      → (k : ℕ) → k < 2 * l.i + 2 → IsBeside count p (start_of (range_at l.ranges k));
}
