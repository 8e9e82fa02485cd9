use Rattle.std.proofs.Common.{rules, to_z, w64}
use Rattle.c_routing.proofs.RouteTables.{table-written}
use Rattle.c_routing.proofs.routes.make_table.Goals as goal

pub returns : goal.returns
returns c =
    table-written c.args.nodes.now c.args.cells.now c.fill.new.cells c.len-len.result (to_z w64 c.len-len.result) (search rules) c.len-len.ensures (search rules) c.fill.ensures.table c.fill.ensures.hints (search rules)
