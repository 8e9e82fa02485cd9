use Rattle.std.proofs.Common.{◌-◌, arith}
use Rattle.std.proofs.lemmas.Nat.Bits.{ones_shl}
use Rattle.wire_addr.proofs.prefix.mask_128.Goals as goal

pub returns-else-zeros : goal.returns-else-zeros
returns-else-zeros c = ones_shl 128 (128 - c.args.ones) (omega arith)
