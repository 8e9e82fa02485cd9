use Rattle.std.proofs.Common.{subst, sym}
use Rattle.app_host.specs.Kinds.{Tries}
use Rattle.app_router.specs.declared.problem.Problem.TheVariants as router
use Rattle.ip_wire.specs.Reply.{unmarked}
use Rattle.c_icmp.proofs.ErrorReplies.{by-router}
use Rattle.c_icmp.specs.Errors.{TellsOf}
use Rattle.c_icmp.specs.declared.errors.Problem.TheVariants as problem
use Rattle.c_icmp.proofs.errors.try_error.Goals as goal
use Rattle.c_icmp.proofs.errors.try_error.Goals.{in-HopLimitExpired, in-PacketTooBig, in-RouteMissing, in-NeighbourMissing, in-Prohibited}

pub returns-in-PortClosed : goal.returns-in-PortClosed
returns-in-PortClosed c = subst (λ p. Tries unmarked (TellsOf c.args.ours.now c.args.frame.now p c.args.mtu) c.args.out.now c.try_error.new.out c.try_error.result) (sym c.in-PortClosed.is) c.try_error.ensures

pub returns-in-FragmentMissing : goal.returns-in-FragmentMissing
returns-in-FragmentMissing c =
    subst (λ p. Tries unmarked (TellsOf c.args.ours.now c.args.frame.now p c.args.mtu) c.args.out.now c.try_error-in-FragmentMissing.new.out c.try_error-in-FragmentMissing.result) (sym c.in-FragmentMissing.is)
    c.try_error-in-FragmentMissing.ensures

pub returns : goal.returns
returns c =
    let ours = c.args.ours.now in
    let frame = c.args.frame.now in
    let old = c.args.out.now in
    let new = c.try_error-2.new.out in
    let tried = c.try_error-2.result in
    let told = c.try_error-2.ensures in
    elim c.match-problem.branch [
      | in-HopLimitExpired w ↦ by-router ours frame c.args.problem problem.HopLimitExpired c.match-problem.told router.Expired c.args.mtu old new tried w.told-is w.in-HopLimitExpired.is (λ h c e. e) (λ h c e. e) told
      | in-PacketTooBig w ↦ by-router ours frame c.args.problem problem.PacketTooBig c.match-problem.told (router.TooLong c.args.mtu) c.args.mtu old new tried w.told-is w.in-PacketTooBig.is (λ h c e. e) (λ h c e. e) told
      | in-RouteMissing w ↦ by-router ours frame c.args.problem problem.RouteMissing c.match-problem.told router.NoRoute c.args.mtu old new tried w.told-is w.in-RouteMissing.is (λ h c e. e) (λ h c e. e) told
      | in-NeighbourMissing w ↦ by-router ours frame c.args.problem problem.NeighbourMissing c.match-problem.told router.NoNeighbour c.args.mtu old new tried w.told-is w.in-NeighbourMissing.is (λ h c e. e) (λ h c e. e) told
      | in-Prohibited w ↦ by-router ours frame c.args.problem problem.Prohibited c.match-problem.told router.Prohibited c.args.mtu old new tried w.told-is w.in-Prohibited.is (λ h c e. e) (λ h c e. e) told
    ]
