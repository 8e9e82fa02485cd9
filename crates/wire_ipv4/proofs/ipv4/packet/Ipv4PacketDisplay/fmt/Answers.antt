use Rattle.std.proofs.Common.{arith}
use Rattle.std.proofs.lemmas.Grind.{common_steps}
use Rattle.wire_ipv4.proofs.Ipv4Computed.{packet_text-None, packet_text-Some}
use Rattle.wire_ipv4.proofs.ipv4.packet.Ipv4PacketDisplay.fmt.Goals as goal
use Rattle.std.proofs.lemmas.Bool.Decides.{nat_tests}

pub returns-in-Ok-clause-writes : goal.returns-in-Ok-clause-writes
returns-in-Ok-clause-writes g c = grind (arith, common_steps, nat_tests, packet_text-Some)

pub returns-in_ok-write-in-Err-clause-writes : goal.returns-in_ok-write-in-Err-clause-writes
returns-in_ok-write-in-Err-clause-writes g c = grind (arith, common_steps, nat_tests, packet_text-None)
