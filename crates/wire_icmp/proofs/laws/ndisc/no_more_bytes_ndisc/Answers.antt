use Rattle.wire_icmp.proofs.ReadsBack.{bytes_of_shorter}
use Rattle.wire_icmp.proofs.laws.ndisc.no_more_bytes_ndisc.Goals as goal

pub returns : goal.returns
returns c = bytes_of_shorter c.args.value c.args.bytes.now c.args.src_addr c.args.dst_addr c.args.hop_limit c.args.verified c.args.computed c.requires
