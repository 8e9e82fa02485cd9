use Rattle.std.proofs.Common.{ap, of_z, to_z, w32}
use Rattle.c_routing.specs.Lengths.{in_bounds}
use Rattle.promises_c.proofs.RoutesOnce.{checks_once}
use Rattle.promises_c.proofs.routes.check_source_once.Goals as goal

pub returns : goal.returns
returns c = ap (λ r. to_z w32 (of_z w32 r))
    (checks_once (in_bounds c.args.routes.now) c.args.src.now c.args.interface _ _ (c.lk_check_source.ensures c.requires.first) (c.lk_check_source-2.ensures c.requires.second))
