use Rattle.std.proofs.Common.{◌≡◌, ◌<◌, length}
use Rattle.app_router.specs.Table.{AreHints}
use Rattle.app_router.proofs.table.parts.divide.Given as goal

abbrev pub invariant-loop-i : goal.invariant-loop-i
invariant-loop-i l = (l.place < length l.ranges) × (length l.hints ≡ length l.initial.hints) × AreHints (length l.ranges) l.hints
