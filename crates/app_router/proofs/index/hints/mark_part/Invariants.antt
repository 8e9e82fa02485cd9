use Rattle.std.proofs.Common.{◌-◌, ◌≤◌}
use Rattle.app_router.proofs.index.hints.mark_part.Given as goal

abbrev pub invariant-loop-start : goal.invariant-loop-start
invariant-loop-start l = l.start ≤ l.high

abbrev pub decreases-loop-start : goal.decreases-loop-start
decreases-loop-start l = l.high - l.start

abbrev pub invariant-loop-end : goal.invariant-loop-end
invariant-loop-end l = record {
  order : l.start ≤ l.end;
  within : l.end ≤ l.high;
}

abbrev pub decreases-loop-end : goal.decreases-loop-end
decreases-loop-end l = l.end - l.start
