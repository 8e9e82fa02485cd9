use Rattle.std.proofs.Common.{◌≡◌, ◌≤◌, ◌*◌, take, sum}
use Rattle.wire_checksum.specs.WordSum.{words}
use Rattle.wire_checksum.proofs.totals.lanes.Given as goal

abbrev pub invariant-loop-block : goal.invariant-loop-block
invariant-loop-block l = record {
  small : l.sum ≤ 4294967295 * l.block-index;
  so_far : l.sum ≡ sum (words (take (l.block-index * 8192) l.bytes));
}
