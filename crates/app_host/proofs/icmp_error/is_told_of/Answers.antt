use Rattle.std.proofs.Common.{◌↔◌, IsTrue, subst, sym}
use Rattle.app_host.specs.IcmpError.{IsToldOf}
use Rattle.app_host.proofs.icmp_error.is_told_of.Goals as goal

pub returns-in-Ipv4 : goal.returns-in-Ipv4
returns-in-Ipv4 c =
    subst (λ v. IsTrue c.is_told_of_ipv4.result ↔ IsToldOf c.args.about v c.args.packet.now) (sym c.in-Ipv4.is) (c.is_told_of_ipv4.ensures c.args.about)
