use Rattle.std.proofs.Common.{arith}
use Rattle.wire_ipv4.proofs.Ipv4Changed.{reads-verified}
use Rattle.wire_ipv4.proofs.laws.valid_checksum_reads_ipv4.Goals as goal
use Rattle.std.proofs.lemmas.Grind.{common_steps}
use Rattle.std.proofs.lemmas.Bool.Decides.{nat_tests}

pub returns : goal.returns
returns c = grind (arith, common_steps, nat_tests, reads-verified)
