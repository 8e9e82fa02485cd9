use Rattle.std.proofs.Common.{◌≡◌, ◌+◌, ◌*◌, take, sum}
use Rattle.wire_checksum.specs.WordSum.{residue, words}
use Rattle.wire_checksum.proofs.totals.one_chain.Given as goal

abbrev pub invariant-loop-chunk : goal.invariant-loop-chunk
invariant-loop-chunk l = record { so_far : residue (256 * l.sum) ≡ residue (256 * l.initial.sum + sum (words (take (l.chunk-index * 32) l.bytes))) }
