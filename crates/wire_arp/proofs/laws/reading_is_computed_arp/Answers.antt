use Rattle.wire_arp.proofs.ArpComputed.{arp_of-Reads}
use Rattle.wire_arp.proofs.laws.reading_is_computed_arp.Goals as goal

pub returns : goal.returns
returns c = arp_of-Reads c.args.bytes.now c.args.value
