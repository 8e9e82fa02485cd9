use Rattle.std.proofs.Common.{rules}
use Rattle.c_routing.proofs.RouteChoice.{found-route}
use Rattle.c_routing.proofs.routes.choose.Goals as goal

pub returns : goal.returns
returns c routes index =
    found-route routes index.blocks c.args.addr.now c.in_ok-addr.addr c.find.result index.listed (search rules) (c.find.ensures index.blocks index.index)
