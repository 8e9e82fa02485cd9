use Rattle.std.proofs.Common.{rules}
use Rattle.c_routing.proofs.RouteLists.{filled-step, no-block}
use Rattle.c_routing.proofs.routes.index.Goals.{in-Some, in_default}
use Rattle.c_routing.proofs.routes.index.Goals as goal

pub loop-i-preserved : goal.loop-i-preserved
loop-i-preserved c blocks listed = elim c.match-cidr.branch [
  | in-Some w ↦ filled-step c.args.routes.now blocks c.loop-i.nodes c.match-cidr.nodes c.loop-i.i _ c.cidr.result w.in-Some.block w.new.result
      listed (search rules) (search rules) c.cidr.ensures w.in-Some.is w.new.ensures.value w.new.ensures.valid w.nodes-is (c.loop-i.invariant blocks listed)
  | in_default w ↦ absurd (no-block c.args.routes.now blocks c.loop-i.i _ c.cidr.result listed (search rules) c.cidr.ensures w.in_default.is)
]
