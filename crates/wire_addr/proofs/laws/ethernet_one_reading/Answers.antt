use Rattle.wire_addr.proofs.Readers.{hex_text_once}
use Rattle.wire_addr.proofs.laws.ethernet_one_reading.Goals as goal

pub returns : goal.returns
returns c = λ h k i. record { 0 = hex_text_once c.args.text.now c.args.a.0 c.args.b.0 h k i }
