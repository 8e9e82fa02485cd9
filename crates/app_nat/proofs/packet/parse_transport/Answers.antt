use Rattle.std.proofs.Common.{rules}
use Rattle.app_nat.proofs.Faults.{other-protocol}
use Rattle.app_nat.proofs.packet.parse_transport.Goals as goal

pub returns-in_default-clause-rejected : goal.returns-in_default-clause-rejected
returns-in_default-clause-rejected c = other-protocol c.args.header.now c.args.payload.now c.from.result (search rules) c.in_default.not-Udp c.in_default.not-Tcp c.in_default.not-Icmp
