use Rattle.app_nat.proofs.Reaches.{shrinks-once}
use Rattle.app_nat.proofs.laws.reach.shrunk_table_is_one.Goals as goal

pub returns : goal.returns
returns c = λ old new other first second. shrinks-once c.args.nat.now old new other c.args.now first second
