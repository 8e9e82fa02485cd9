use Rattle.std.proofs.Common.{map}
use Rattle.app_router.specs.Index.{block_of}
use Rattle.promises.proofs.RouterOnce.{one_route}
use Rattle.promises.proofs.once.tables.route_at_the_place.Goals as goal

pub returns : goal.returns
returns c = one_route c.args.routes.now c.args.addr.now c.route_at.result c.choose.result
    (c.route_at.ensures c.args.addr.now (c.find-found.ensures (map block_of c.args.routes.now) c.requires)) (c.choose.ensures c.requires)
