use Rattle.std.proofs.Common.{◌+◌, sym, subst, take}
use Rattle.app_router.proofs.RouteSteps.{Chosen, passed, taken}
use Rattle.app_router.specs.Route.{Leads}
use Rattle.app_router.proofs.route.choose.Goals.{then-contains_addr, else-contains_addr}
use Rattle.app_router.proofs.route.choose.Goals as goal

pub loop-route-preserved : goal.loop-route-preserved
loop-route-preserved c =
    let routes = c.args.routes.now in
    let addr = c.args.addr.now in
    let i = c.loop-route.route-index in
    elim c.if-contains_addr.branch [
      | then-contains_addr w ↦
          subst (λ chosen. Chosen (take (i + 1) routes) addr chosen) (sym w.chosen-is)
          (taken routes addr i c.route-item.result c.loop-route.chosen w.longer.result c.loop-route-test.true c.route-item.is (c.contains_addr.ensures.0 w.if-contains_addr.true) c.loop-route.invariant w.longer.ensures)
      | else-contains_addr w ↦
          let apart : ¬ Leads addr c.route-item.result = λ leads. absurd (let is = c.contains_addr.ensures.1 leads in let isnt = w.if-contains_addr.false in cc) in
          subst (λ chosen. Chosen (take (i + 1) routes) addr chosen) (sym w.chosen-is)
          (passed routes addr i c.route-item.result c.loop-route.chosen c.loop-route-test.true c.route-item.is apart c.loop-route.invariant)
    ]
