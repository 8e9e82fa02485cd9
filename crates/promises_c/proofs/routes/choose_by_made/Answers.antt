use Rattle.std.proofs.Common.{ap, of_z, rules, to_z, w64}
use Rattle.promises_c.proofs.RouteTablesOnce.{made, short_index}
use Rattle.promises_c.proofs.RoutesOnce.{chooses_once}
use Rattle.promises_c.proofs.routes.choose_by_made.Goals as goal

pub returns : goal.returns
returns c =
    let routes = c.args.routes.now in
    let table = made routes c.args.nodes.now c.args.cells.now c.lk_make_route_table.new.cells _ c.requires.index c.requires.few c.requires.room c.requires.usable (search rules) c.lk_make_route_table.ensures in
    let index = short_index routes c.args.nodes.now c.requires.few c.requires.index in
    ap (λ r. to_z w64 (of_z w64 r)) (chooses_once routes c.args.addr.now _ _ (c.lk_choose_route_by_table.ensures routes table) (c.lk_choose_route.ensures routes index))
