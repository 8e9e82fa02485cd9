use Rattle.app_nat.proofs.Meaning.{port_once, room, table_once}
use Rattle.app_nat.proofs.laws.table.opened_port_is_one.Goals as goal

pub returns-clause-port : goal.returns-clause-port
returns-clause-port c = λ old new other port second. port_once c.args.nat.now old new other c.args.now c.args.event c.args.inside.now c.args.remote.now port second

pub returns-clause-table : goal.returns-clause-table
returns-clause-table c = λ old new other port second. table_once c.args.nat.now old new other c.args.now c.args.event c.args.inside.now c.args.remote.now port second

pub returns-clause-full : goal.returns-clause-full
returns-clause-full c = λ old new port. room c.args.nat.now old new c.args.now c.args.event c.args.inside.now c.args.remote.now port
