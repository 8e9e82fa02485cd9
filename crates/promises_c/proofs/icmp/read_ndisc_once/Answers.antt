use Rattle.std.proofs.Common.{ap, of_z, to_z, w32}
use Rattle.c_icmp.specs.Neighbours.{ReadsNdisc, ndisc_struct}
use Rattle.promises_c.proofs.Once.{one_ndisc, read_once}
use Rattle.promises_c.proofs.icmp.read_ndisc_once.Goals as goal

pub returns-clause-returned : goal.returns-clause-returned
returns-clause-returned c = ap (λ r. to_z w32 (of_z w32 r)) (read_once ReadsNdisc ndisc_struct _ _ _ _ _ _ _ one_ndisc c.requires c.lk_find_ndisc.ensures c.lk_find_ndisc-2.ensures).0

pub returns-clause-written : goal.returns-clause-written
returns-clause-written c = (read_once ReadsNdisc ndisc_struct _ _ _ _ _ _ _ one_ndisc c.requires c.lk_find_ndisc.ensures c.lk_find_ndisc-2.ensures).1
