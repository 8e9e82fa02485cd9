use Rattle.app_nat.proofs.Meaning.{later_table}
use Rattle.app_nat.proofs.laws.table.table_stays_with_time.Goals as goal

pub returns : goal.returns
returns c = later_table c.args.nat.now c.args.mappings.now
