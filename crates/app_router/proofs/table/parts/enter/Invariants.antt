use Rattle.std.proofs.Common.{ℕ, ◌≡◌, ◌*◌, ◌^◌, ◌<◌, ◌≤◌, length}
use Rattle.app_router.specs.Table.{AreHints, IsClear, IsEntry, half_at, range_at, start_of}
use Rattle.app_router.proofs.table.parts.enter.Given as goal

abbrev pub invariant-loop-part : goal.invariant-loop-part
invariant-loop-part l =
    (l.place < length l.ranges) × (l.used ≤ 2 * length l.hints) × (length l.hints ≡ length l.initial.hints) × (length l.parts ≡ length l.initial.parts)
    × AreHints (length l.ranges) l.hints
    × ((p : ℕ) → p < l.part → IsEntry l.ranges l.count p (half_at l.parts p))
    × (start_of (range_at l.ranges 0) ≡ 0 → start_of (range_at l.ranges l.place) * l.count ≤ l.part * 2 ^ 32)
    × (start_of (range_at l.ranges 0) ≡ 0 → (p : ℕ) → p < l.part → IsClear l.ranges l.count p → 2 ^ 31 ≤ half_at l.parts p)
