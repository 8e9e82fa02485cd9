use Rattle.std.proofs.Common.{◌≡◌, count_by, is_some, take}
use Rattle.wire_tcp_options.proofs.tcp.option.count_ranges.Given as goal

abbrev pub invariant-loop-range : goal.invariant-loop-range
invariant-loop-range l = record {
  counted : l.count ≡ count_by is_some (take l.range-index l.ranges);
}
