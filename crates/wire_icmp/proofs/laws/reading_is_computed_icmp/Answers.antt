use Rattle.wire_icmp.proofs.IcmpComputed.{icmp_of_Reads}
use Rattle.wire_icmp.proofs.laws.reading_is_computed_icmp.Goals as goal

pub returns : goal.returns
returns c = icmp_of_Reads c.args.src_addr c.args.dst_addr c.args.verified c.args.bytes.now c.args.value
