use Rattle.std.proofs.Common.{ap, of_z, to_z, w64}
use Rattle.c_routing.specs.Lengths.{in_bounds}
use Rattle.promises_c.proofs.RouteTablesOnce.{too_few_cells}
use Rattle.promises_c.proofs.RoutesOnce.{chooses_once}
use Rattle.promises_c.proofs.routes.choose_with_few_cells.Goals as goal

pub returns : goal.returns
returns c =
    let routes = c.args.routes.now in
    let table = too_few_cells routes (in_bounds c.args.nodes.now) c.args.cells.now c.requires.few c.requires.index in
    ap (λ r. to_z w64 (of_z w64 r))
    (chooses_once routes c.args.addr.now _ _ (c.lk_choose_route_by_table.ensures routes table) (c.lk_choose_route.ensures routes c.requires.index))
