use Rattle.std.proofs.Common.{arith, ap, length}
use Rattle.std.proofs.lemmas.Grind.{common_steps}
use Rattle.std.proofs.lemmas.List.{length-map}
use Rattle.ip_calls.proofs.answer.answers.Goals as goal

pub returns : goal.returns
returns c = grind (arith, common_steps, length-map, ap length c.in_ok-lines.ensures)
