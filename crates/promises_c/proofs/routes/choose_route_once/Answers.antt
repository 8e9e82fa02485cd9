use Rattle.std.proofs.Common.{ap, of_z, to_z, w64}
use Rattle.promises_c.proofs.RoutesOnce.{chooses_once}
use Rattle.promises_c.proofs.routes.choose_route_once.Goals as goal

pub returns : goal.returns
returns c = ap (λ r. to_z w64 (of_z w64 r))
    (chooses_once c.args.routes.now c.args.addr.now _ _ (c.lk_choose_route.ensures c.args.routes.now c.requires.first) (c.lk_choose_route-2.ensures c.args.routes.now c.requires.second))
