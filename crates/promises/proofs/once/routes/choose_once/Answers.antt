use Rattle.promises.proofs.RouterOnce.{one_route}
use Rattle.promises.proofs.once.routes.choose_once.Goals as goal

pub returns : goal.returns
returns c = one_route c.args.routes.now c.args.addr.now c.choose.result c.choose-2.result c.choose.ensures c.choose-2.ensures
