use Rattle.std.proofs.Common.{arith}
use Rattle.wire_checksum.proofs.Rounds.{folded, rotated_32}
use Rattle.wire_checksum.proofs.totals.fold_to_u16.Goals as goal

-- states only the value, and names no step of the body
pub returns : goal.returns
returns c = folded c.args.number _ (omega arith) (omega (arith, rotated_32))
