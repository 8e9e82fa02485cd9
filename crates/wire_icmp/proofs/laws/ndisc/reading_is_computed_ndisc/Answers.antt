use Rattle.wire_icmp.proofs.NdiscComputed.{ndisc_of_Reads}
use Rattle.wire_icmp.proofs.laws.ndisc.reading_is_computed_ndisc.Goals as goal

pub returns : goal.returns
returns c = ndisc_of_Reads c.args.src_addr c.args.dst_addr c.args.hop_limit c.args.verified c.args.bytes.now c.args.value
