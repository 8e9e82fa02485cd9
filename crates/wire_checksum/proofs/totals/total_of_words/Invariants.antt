use Rattle.std.proofs.Common.{◌≡◌, ◌≤◌, ◌*◌, take, sum}
use Rattle.wire_checksum.specs.WordSum.{residue, words}
use Rattle.wire_checksum.proofs.totals.total_of_words.Given as goal

abbrev pub invariant-loop-word : goal.invariant-loop-word
invariant-loop-word l = record {
  small : l.sum ≤ 4294967295 * l.word-index;
  so_far : residue (256 * l.sum) ≡ residue (sum (words (take (l.word-index * 4) l.bytes)));
}
