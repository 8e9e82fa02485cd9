use Rattle.std.proofs.Common.{◌≡◌, ◌+◌, ◌-◌, ◌*◌, ◌<◌, ◌≤◌, drop}
use Rattle.std.specs.Net.Text.{zero_run, longest_zero_run}
use Rattle.wire_addr.proofs.ipv6_address.longest_zero_run.Given as goal

abbrev pub invariant-loop-i : goal.invariant-loop-i
invariant-loop-i l = record {
  run : l.run ≡ zero_run (drop l.i l.groups);
  longest : l.longest ≡ 8 * (longest_zero_run (drop l.i l.groups)).1 + (7 - (l.i + (longest_zero_run (drop l.i l.groups)).0));
  run_within : l.i + l.run ≤ 8;
  begins : l.i < 8 → l.i + (longest_zero_run (drop l.i l.groups)).0 < 8;
  within : l.i + (longest_zero_run (drop l.i l.groups)).0 + (longest_zero_run (drop l.i l.groups)).1 ≤ 8;
}
