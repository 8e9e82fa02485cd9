use Rattle.wire_tcp.proofs.TcpComputed.{reads_once}
use Rattle.wire_tcp.proofs.laws.one_reading_tcp.Goals as goal

pub returns : goal.returns
returns c = λ v w payload other read again.
    reads_once c.args.src_addr c.args.dst_addr c.args.verified c.args.bytes.now payload other v w read again
