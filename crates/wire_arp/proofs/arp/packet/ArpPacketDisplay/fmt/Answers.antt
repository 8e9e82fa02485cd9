use Rattle.std.proofs.Common.{arith}
use Rattle.std.proofs.lemmas.Grind.{common_steps}
use Rattle.wire_arp.proofs.ArpTexts.{packet_text-None, packet_text-Some, packet_text-invalid}
use Rattle.wire_arp.proofs.arp.packet.ArpPacketDisplay.fmt.Goals as goal
use Rattle.std.proofs.lemmas.Bool.Decides.{nat_tests}

pub returns-in-Ok-clause-writes : goal.returns-in-Ok-clause-writes
returns-in-Ok-clause-writes g c = grind (arith, common_steps, nat_tests, packet_text-Some)

pub returns-in-Err-clause-writes : goal.returns-in-Err-clause-writes
returns-in-Err-clause-writes g c = grind (arith, common_steps, nat_tests, packet_text-None)

pub returns-in-Err-2-clause-writes : goal.returns-in-Err-2-clause-writes
returns-in-Err-2-clause-writes g c = grind (arith, common_steps, nat_tests, packet_text-invalid)
