use Rattle.std.proofs.Common.{map}
use Rattle.app_router.specs.Index.{block_of}
use Rattle.promises.proofs.RouterOnce.{one_route}
use Rattle.promises.proofs.once.tables.table_leads.Goals as goal

pub returns : goal.returns
returns c = one_route c.args.routes.now c.args.addr.now c.choose.result c.choose-2.result
    (c.choose.ensures c.index.ensures.index (c.fill.ensures.table (map block_of c.args.routes.now) c.index.ensures.index)) c.choose-2.ensures
