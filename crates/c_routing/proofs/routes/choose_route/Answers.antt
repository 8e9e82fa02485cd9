use Rattle.std.proofs.Common.{rules, subst, sym, w64}
use Rattle.std.proofs.lemmas.Int.{to_z-of_z}
use Rattle.c_routing.proofs.RouteChoice.{numbered}
use Rattle.c_routing.proofs.routes.choose_route.Goals as goal
use Rattle.c_routing.specs.Routes.{Chooses, IsIndexOf}

pub returns : goal.returns
returns c routes index =
    let found = c.choose.ensures routes (subst (IsIndexOf routes) (sym c.in_bounds.ensures.value) index) in
    subst (Chooses routes c.args.addr.now) (sym (to_z-of_z w64 c.number.result (search rules))) (numbered routes c.args.addr.now c.choose.result c.number.result found c.number.ensures)
