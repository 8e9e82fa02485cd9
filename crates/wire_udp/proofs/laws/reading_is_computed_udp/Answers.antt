use Rattle.wire_udp.proofs.UdpComputed.{udp_of-Reads}
use Rattle.wire_udp.proofs.laws.reading_is_computed_udp.Goals as goal

pub returns : goal.returns
returns c = udp_of-Reads c.args.src_addr c.args.dst_addr c.args.verified c.args.bytes.now c.args.value
