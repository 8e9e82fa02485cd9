use Rattle.std.proofs.Common.{rules}
use Rattle.app_nat.proofs.Residues.{folded}
use Rattle.app_nat.proofs.translation.fold.Goals as goal

pub returns : goal.returns
returns c = folded c.args.number c.combine.result (search rules)
