use Rattle.std.proofs.Common.{◌≡◌, ◌*◌, ◌++◌, take, drop, count_by, is_some}
use Rattle.wire_tcp_options.specs.TcpOption.{range_bytes}
use Rattle.wire_tcp_options.proofs.tcp.option.write_ranges.Given as goal

-- the ranges so far are written, and the bytes after them are unchanged
abbrev pub invariant-loop-range : goal.invariant-loop-range
invariant-loop-range l = record {
  place : l.at ≡ 8 * count_by is_some (take l.range-index l.ranges);
  done : l.buffer ≡ range_bytes (take l.range-index l.ranges) ++ drop l.at l.fn.buffer;
}
