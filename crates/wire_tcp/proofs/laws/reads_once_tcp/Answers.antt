use Rattle.wire_tcp.specs.TcpRepr.{header_of}
use Rattle.wire_tcp.proofs.TcpComputed.{reads_once}
use Rattle.wire_tcp.proofs.laws.reads_once_tcp.Goals as goal

pub returns-clause-value : goal.returns-clause-value
returns-clause-value c =
    (reads_once c.args.src_addr c.args.dst_addr c.args.verified c.args.bytes.now c.args.value.payload.now c.args.other.payload.now (header_of c.args.value) (header_of c.args.other) c.requires.value c.requires.other).0

pub returns-clause-payload : goal.returns-clause-payload
returns-clause-payload c =
    (reads_once c.args.src_addr c.args.dst_addr c.args.verified c.args.bytes.now c.args.value.payload.now c.args.other.payload.now (header_of c.args.value) (header_of c.args.other) c.requires.value c.requires.other).1
