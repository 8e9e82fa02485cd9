use Rattle.std.proofs.Common.{arith, rules}
use Rattle.std.proofs.lemmas.Grind.{common_steps}
use Rattle.wire_ipv6.proofs.Ipv6Computed.{packet_text-None, packet_text-Some}
use Rattle.wire_ipv6.proofs.ipv6.packet.Ipv6PacketDisplay.fmt.Goals as goal

pub returns-in-Ok-clause-writes : goal.returns-in-Ok-clause-writes
returns-in-Ok-clause-writes g c =
    let bytes = c.args.self.now.buffer.now in
    rw (packet_text-Some bytes c.in-Ok.value c.in-Ok.ensures.value) (first_of (search rules, grind (arith, common_steps)))

pub returns-in-Err-clause-writes : goal.returns-in-Err-clause-writes
returns-in-Err-clause-writes g c =
    let bytes = c.args.self.now.buffer.now in
    rw (packet_text-None bytes c.in-Err.ensures.value) (first_of (search rules, grind (arith, common_steps)))
