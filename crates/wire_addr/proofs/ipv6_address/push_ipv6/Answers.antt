use Rattle.std.proofs.Common.{arith, rules}
use Rattle.std.proofs.lemmas.Grind.{common_steps}
use Rattle.wire_addr.proofs.Ipv6Texts.{ipv6_text_mapped, ipv6_text_other}
use Rattle.wire_addr.proofs.ipv6_address.push_ipv6.Goals as goal

pub returns-in-Some : goal.returns-in-Some
returns-in-Some g c = rw (ipv6_text_mapped _ _ c.in-Some.ensures) (first_of (search rules, grind (arith, common_steps)))

pub returns-then-len-ge-MIN_RUN : goal.returns-then-len-ge-MIN_RUN
returns-then-len-ge-MIN_RUN g c =
    rw (ipv6_text_other _ c.in_default.ensures, ← c.segments-groups.ensures) (first_of (search rules, grind (arith, common_steps)))

pub returns-else-len-ge-MIN_RUN : goal.returns-else-len-ge-MIN_RUN
returns-else-len-ge-MIN_RUN g c =
    rw (ipv6_text_other _ c.in_default.ensures, ← c.segments-groups.ensures) (first_of (search rules, grind (arith, common_steps)))
