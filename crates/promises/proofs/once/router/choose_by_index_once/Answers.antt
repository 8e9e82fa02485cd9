use Rattle.promises.proofs.RouterOnce.{index_route}
use Rattle.promises.proofs.once.router.choose_by_index_once.Goals as goal

pub returns : goal.returns
returns c = index_route c.args.routes.now c.args.nodes.now c.args.addr.now c.choose.result c.choose-2.result c.requires c.choose.ensures c.choose-2.ensures
