use Rattle.wire_addr.proofs.Readers.{dotted_once}
use Rattle.wire_addr.proofs.laws.ipv4_one_reading.Goals as goal

pub returns : goal.returns
returns c = dotted_once c.args.text.now c.args.a c.args.b
