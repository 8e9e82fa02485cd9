use Rattle.std.proofs.Common.{◌≡◌, ◌≤◌, ◌*◌, take, sum}
use Rattle.wire_checksum.specs.WordSum.{residue, words}
use Rattle.wire_checksum.proofs.totals.plain.Given as goal

abbrev pub invariant-loop-pair : goal.invariant-loop-pair
invariant-loop-pair l = record {
  small : l.sum ≤ 65535 * l.pair-index;
  so_far : residue (256 * l.sum) ≡ residue (sum (words (take (l.pair-index * 2) l.bytes)));
}
