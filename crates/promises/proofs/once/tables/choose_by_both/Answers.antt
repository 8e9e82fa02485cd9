use Rattle.promises.proofs.RouterOnce.{one_route}
use Rattle.promises.proofs.once.tables.choose_by_both.Goals as goal

pub returns : goal.returns
returns c = one_route c.args.routes.now c.args.addr.now c.choose.result c.choose-2.result (c.choose.ensures c.requires.index c.requires.table)
    (c.choose-2.ensures c.requires.index)
