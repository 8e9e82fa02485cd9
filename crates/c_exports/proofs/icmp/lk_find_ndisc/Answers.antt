use Rattle.std.proofs.Common.{SFits, rules, subst, sym, w32}
use Rattle.std.proofs.lemmas.Int.{to_z-of_z}
use Rattle.c_icmp.specs.Neighbours.{ReadsNdisc, ndisc_struct}
use Rattle.c_structs.specs.Written.{IsRead, within}
use Rattle.c_exports.proofs.icmp.lk_find_ndisc.Goals as goal

pub returns : goal.returns
returns c =
    let fits : SFits w32 c.read.result = search rules in
    let read = rw c.within.ensures.value at c.read.ensures in
    subst (λ a. IsRead ReadsNdisc ndisc_struct (within c.args.frame.now) c.args.ndisc.now c.read.new.self a) (sym (to_z-of_z w32 c.read.result fits)) read
