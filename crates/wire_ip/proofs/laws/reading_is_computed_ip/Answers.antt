use Rattle.wire_ip.proofs.IpComputed.{ip_of_Reads}
use Rattle.wire_ip.proofs.laws.reading_is_computed_ip.Goals as goal

pub returns : goal.returns
returns c = ip_of_Reads c.args.verified c.args.bytes.now c.args.value
