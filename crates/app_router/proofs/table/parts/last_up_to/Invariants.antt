use Rattle.std.proofs.Common.{ℕ, ◌*◌, ◌-◌, ◌<◌, ◌≤◌}
use Rattle.app_router.specs.Table.{range_at, start_of}
use Rattle.app_router.proofs.table.parts.last_up_to.Given as goal

abbrev pub invariant-loop-next : goal.invariant-loop-next
invariant-loop-next l = start_of (range_at l.ranges l.place) * l.count ≤ l.position → start_of (range_at l.ranges (l.next - 1)) * l.count ≤ l.position
