use Rattle.wire_ethernet.proofs.EthernetComputed.{ethernet_of-Reads}
use Rattle.wire_ethernet.proofs.laws.reading_is_computed_ethernet.Goals as goal

pub returns : goal.returns
returns c = ethernet_of-Reads c.args.bytes.now c.args.value
