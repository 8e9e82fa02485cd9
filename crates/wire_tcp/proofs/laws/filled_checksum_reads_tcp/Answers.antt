use Rattle.std.proofs.Common.{false, true, rules}
use Rattle.wire_tcp.proofs.TcpChanged.{reads-filled}
use Rattle.wire_tcp.specs.TcpRepr.{header_of}
use Rattle.wire_tcp.proofs.laws.filled_checksum_reads_tcp.Goals as goal

pub returns : goal.returns
returns c = reads-filled c.args.bytes.now c.args.src_addr c.args.dst_addr false true (header_of c.args.value) c.args.value.payload.now (search rules) (search rules) c.requires
