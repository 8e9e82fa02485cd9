use Rattle.wire_tcp.specs.TcpRepr.{header_of}
use Rattle.wire_tcp.proofs.TcpComputed.{tcp_of-Reads}
use Rattle.wire_tcp.proofs.laws.reading_is_computed_tcp.Goals as goal

pub returns : goal.returns
returns c = tcp_of-Reads c.args.src_addr c.args.dst_addr c.args.verified c.args.bytes.now (header_of c.args.value)
