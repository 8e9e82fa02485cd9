use Rattle.wire_ipv6.proofs.Ipv6Computed.{ipv6_of-Reads}
use Rattle.wire_ipv6.proofs.laws.reading_is_computed_ipv6.Goals as goal

pub returns : goal.returns
returns c = ipv6_of-Reads c.args.bytes.now c.args.value
