use Rattle.promises.proofs.RouterOnce.{one_place}
use Rattle.promises.proofs.once.tables.find_next_by_any_count.Goals as goal

pub returns : goal.returns
returns c = one_place c.args.nodes.now c.args.addr.now c.find_next.result c.find.result c.find_next.ensures c.find.ensures
