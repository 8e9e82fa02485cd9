use Rattle.std.proofs.Common.{◌≡◌, ◌*◌, ◌++◌, take, drop}
use Rattle.c_write.specs.Headers.{edges}
use Rattle.c_write.proofs.tcp_bytes.write_ranges.Given as goal

-- the ranges so far are written, and the bytes after them are unchanged
abbrev pub invariant-loop-range : goal.invariant-loop-range
invariant-loop-range l = record {
  place : l.at ≡ 8 * l.range-index;
  done : l.out ≡ edges (take l.range-index l.ranges) ++ drop l.at l.fn.out;
}
