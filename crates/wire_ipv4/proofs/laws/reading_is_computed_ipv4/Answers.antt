use Rattle.wire_ipv4.proofs.Ipv4Computed.{ipv4_of-Reads}
use Rattle.wire_ipv4.proofs.laws.reading_is_computed_ipv4.Goals as goal

pub returns : goal.returns
returns c = ipv4_of-Reads c.args.verified c.args.bytes.now c.args.value
