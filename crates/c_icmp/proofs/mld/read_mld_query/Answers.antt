use Rattle.std.proofs.Common.{inr, refl}
use Rattle.c_icmp.proofs.mld.read_mld_query.Goals as goal

pub returns-in-None : goal.returns-in-None
returns-in-None c =
    let none = rw c.ipv6.ensures at c.in-None.ensures in
    inr (refl, λ delay asked. none delay asked.1)
