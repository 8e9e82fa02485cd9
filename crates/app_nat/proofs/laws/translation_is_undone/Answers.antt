use Rattle.std.proofs.Common.{rules}
use Rattle.app_nat.proofs.Undone.{undone}
use Rattle.app_nat.proofs.laws.translation_is_undone.Goals as goal

pub returns : goal.returns
returns c there back was = undone c.args.frame.now there back c.args.side c.args.addr c.args.port was c.bytes_fit.ensures (search rules) (search rules) c.requires
