use Rattle.std.proofs.Common.{take}
use Rattle.app_router.proofs.RouteSteps.{Chosen}
use Rattle.app_router.proofs.route.choose.Given as goal

abbrev pub invariant-loop-route : goal.invariant-loop-route
invariant-loop-route l = Chosen (take l.route-index l.routes) l.addr l.chosen
