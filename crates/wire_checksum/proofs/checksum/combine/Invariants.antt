use Rattle.std.proofs.Common.{◌≡◌, ◌≤◌, take, sum}
use Rattle.wire_checksum.specs.WordSum.{residue}
use Rattle.wire_checksum.proofs.checksum.combine.Given as goal

abbrev pub invariant-loop-number : goal.invariant-loop-number
invariant-loop-number l = record { small : l.sum ≤ 65535; so_far : l.sum ≡ residue (sum (take l.number-index l.sums)) }
