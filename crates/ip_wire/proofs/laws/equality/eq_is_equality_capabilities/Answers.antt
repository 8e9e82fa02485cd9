use Rattle.std.proofs.Common.{arith}
use Rattle.std.proofs.lemmas.Grind.{common_steps}
use Rattle.ip_wire.proofs.laws.equality.eq_is_equality_capabilities.Goals as goal

pub returns : goal.returns
returns c = let p = c.eq_is_equality.ensures.checksum in grind (arith, common_steps, p)
