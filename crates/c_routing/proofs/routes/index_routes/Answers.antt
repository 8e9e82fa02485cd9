use Rattle.std.proofs.Common.{length, rules, to_z, w64}
use Rattle.c_routing.proofs.RouteLists.{written}
use Rattle.c_routing.proofs.routes.index_routes.Goals as goal

pub returns : goal.returns
returns c =
    let routes = c.args.routes.now in
    written routes c.args.nodes.now c.index.new.nodes (to_z w64 (length routes)) (search rules) (search rules) c.index.ensures (search rules)
