use Rattle.std.proofs.Common.{rules, subst, sym, w64}
use Rattle.std.proofs.lemmas.Int.{to_z-of_z}
use Rattle.c_routing.specs.Routes.{Chooses}
use Rattle.c_exports.proofs.routes.lk_choose_route_by_table.Goals as goal

pub returns : goal.returns
returns c routes table =
    subst (Chooses routes c.args.addr.now) (sym (to_z-of_z w64 c.choose_by_table.result (search rules))) (c.choose_by_table.ensures routes table)
