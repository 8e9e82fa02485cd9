use Rattle.std.proofs.Common.{◌*◌, ◌^◌, ◌≤◌, min}
use Rattle.app_congestion.proofs.laws.nine_back_offs_reach_the_longest.Given as goal

abbrev pub invariant-loop : goal.invariant-loop
invariant-loop l = min 60000 (200 * 2 ^ l.counter) ≤ l.rto.timeout
