use Rattle.std.proofs.Common.{inr, refl}
use Rattle.c_exports.proofs.addresses.lk_parse_endpoint.Goals as goal

pub returns-in-Err : goal.returns-in-Err
returns-in-Err c = inr (refl, refl, rw c.within.ensures.value at c.in-Err.ensures)
