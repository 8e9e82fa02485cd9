use Rattle.std.proofs.Common.{◌≡◌, ◌+◌, ◌*◌, take, sum}
use Rattle.wire_checksum.specs.WordSum.{residue, words}
use Rattle.wire_checksum.proofs.totals.two_chains.Given as goal

abbrev pub invariant-loop-block : goal.invariant-loop-block
invariant-loop-block l = record { so_far : residue (256 * (l.first + l.second)) ≡ residue (256 * l.start + sum (words (take (l.block-index * 128) l.bytes))) }
