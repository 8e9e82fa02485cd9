use Rattle.std.proofs.Common.{arith}
use Rattle.wire_arp.proofs.ArpEmitted.{reads_bytes_of}
use Rattle.wire_arp.proofs.laws.emit_reads_back_arp.Goals as goal
use Rattle.std.proofs.lemmas.Grind.{common_steps}
use Rattle.std.proofs.lemmas.Bool.Decides.{nat_tests}

pub returns : goal.returns
returns c = grind (arith, common_steps, nat_tests, reads_bytes_of)
