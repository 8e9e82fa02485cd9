use Rattle.std.proofs.Common.{◌≡◌, List, Some, map}
use Rattle.ip_wire.specs.declared.IpCidr.{IpCidr}
use Rattle.c_routing.proofs.RouteLists.{IsFilledTo}
use Rattle.c_routing.specs.Routes.{destinations}
use Rattle.c_routing.proofs.routes.index.Given as goal

abbrev pub invariant-loop-i : goal.invariant-loop-i
invariant-loop-i l = (blocks : List IpCidr) → map destinations l.routes ≡ map Some blocks → IsFilledTo blocks l.nodes l.i
