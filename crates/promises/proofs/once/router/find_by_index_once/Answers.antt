use Rattle.promises.proofs.RouterOnce.{one_place}
use Rattle.promises.proofs.once.router.find_by_index_once.Goals as goal

pub returns : goal.returns
returns c = one_place c.args.nodes.now c.args.addr.now c.find.result c.find-2.result c.find.ensures c.find-2.ensures
