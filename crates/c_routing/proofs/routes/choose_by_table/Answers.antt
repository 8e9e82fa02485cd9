use Rattle.std.proofs.Common.{◌-ℤ◌, ap, arith, pos, rules, subst, sym, to_z, w64}
use Rattle.std.proofs.lemmas.Int.{to_z-of_z, to_z_pos}
use Rattle.app_router.proofs.Elements.{counted}
use Rattle.app_router.specs.Index.{IsIndex}
use Rattle.app_router.specs.Table.{IsAnswer, IsTable}
use Rattle.ip_wire.specs.declared.IpAddress.TheVariants.{Ipv4}
use Rattle.c_routing.proofs.RouteChoice.{answered}
use Rattle.c_routing.proofs.Tables.{in_bounds-itself}
use Rattle.c_routing.proofs.routes.choose_by_table.Goals as goal
use Rattle.c_routing.specs.Routes.{Chooses, IsIndexOf}

pub returns-in-Some : goal.returns-in-Some
returns-in-Some c routes table =
    let nodes = c.args.nodes.now in
    let answer = c.in-Some.answer in
    let index : IsIndex table.blocks nodes = subst (IsIndex table.blocks) (in_bounds-itself nodes (omega (arith, c.if-nodes-le-MAX_ROUTES.true))) table.index in
    let cells : IsTable table.blocks c.in_bounds.result.now = subst (IsTable table.blocks) (sym c.in_bounds.ensures.value) table.table in
    let it : IsAnswer table.blocks (Ipv4 c.ipv4.result) answer =
    c.in-Some.ensures.answer table.blocks (counted table.blocks nodes index) cells c.ipv4.result c.to_bits-number.ensures.octets (sym c.to_bits-number.ensures.value) in
    let less_one = to_z w64 answer -ℤ pos 1 in
    subst (Chooses routes c.args.addr.now) (sym (to_z-of_z w64 less_one (search rules)))
    (answered routes table.blocks c.args.addr.now (Ipv4 c.ipv4.result) answer less_one table.listed (search rules) it (ap (λ z. z -ℤ pos 1) (to_z_pos w64 answer (search rules))))

pub returns : goal.returns
returns c routes table =
    let index : IsIndexOf routes _ = record { blocks = table.blocks; listed = table.listed; index = table.index } in
    subst (Chooses routes c.args.addr.now) (sym (to_z-of_z w64 c.choose_route.result (search rules))) (c.choose_route.ensures routes index)
