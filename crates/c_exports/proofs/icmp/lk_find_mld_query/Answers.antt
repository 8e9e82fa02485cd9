use Rattle.std.proofs.Common.{inl, inr, refl, rules}
use Rattle.c_exports.proofs.icmp.lk_find_mld_query.Goals as goal

pub returns-then-delay-lt0 : goal.returns-then-delay-lt0
returns-then-delay-lt0 c =
    let told = rw c.within.ensures.value at c.read_mld_query-delay.ensures in
    elim told [
      | inl found ↦ absurd (search rules)
      | inr none ↦ inr (refl, refl, none.1)
    ]
