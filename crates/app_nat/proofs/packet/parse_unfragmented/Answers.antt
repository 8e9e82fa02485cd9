use Rattle.std.proofs.Common.{rules}
use Rattle.app_nat.proofs.Faults.{fragment}
use Rattle.app_nat.proofs.packet.parse_unfragmented.Goals as goal

pub returns-then-is_fragment-clause-rejected : goal.returns-then-is_fragment-clause-rejected
returns-then-is_fragment-clause-rejected c = fragment c.args.bytes.now c.in-Ok.header c.in-Ok.ensures.reads (search rules)
