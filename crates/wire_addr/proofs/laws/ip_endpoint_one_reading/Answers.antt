use Rattle.wire_addr.proofs.EndTexts.{endpoint_once}
use Rattle.wire_addr.proofs.laws.ip_endpoint_one_reading.Goals as goal

pub returns : goal.returns
returns c = endpoint_once c.args.text.now c.args.a c.args.b
