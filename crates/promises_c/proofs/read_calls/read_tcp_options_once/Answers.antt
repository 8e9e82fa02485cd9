use Rattle.std.proofs.Common.{ap, of_z, to_z, w32}
use Rattle.c_read.specs.TcpOptions.{ReadsItems, tcp_options_of}
use Rattle.promises_c.proofs.Once.{one_options, read_once}
use Rattle.promises_c.proofs.read_calls.read_tcp_options_once.Goals as goal

pub returns-clause-returned : goal.returns-clause-returned
returns-clause-returned c = ap (λ r. to_z w32 (of_z w32 r)) (read_once ReadsItems tcp_options_of _ _ _ _ _ _ _ one_options c.requires c.lk_find_tcp_options.ensures c.lk_find_tcp_options-2.ensures).0

pub returns-clause-written : goal.returns-clause-written
returns-clause-written c = (read_once ReadsItems tcp_options_of _ _ _ _ _ _ _ one_options c.requires c.lk_find_tcp_options.ensures c.lk_find_tcp_options-2.ensures).1
