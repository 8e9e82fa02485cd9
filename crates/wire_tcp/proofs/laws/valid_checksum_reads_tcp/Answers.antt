use Rattle.std.proofs.Common.{refl, true, false}
use Rattle.wire_tcp.proofs.TcpChanged.{reads-verified}
use Rattle.wire_tcp.specs.TcpRepr.{header_of}
use Rattle.wire_tcp.proofs.laws.valid_checksum_reads_tcp.Goals as goal

pub returns : goal.returns
returns c = (
  λ r. (reads-verified c.args.bytes.now c.args.src_addr c.args.dst_addr c.args.src_addr c.args.dst_addr true false (header_of c.args.value) c.args.value.payload.now r (λ no. cc), r.checksum refl),
  λ p. reads-verified c.args.bytes.now c.args.src_addr c.args.dst_addr c.args.src_addr c.args.dst_addr false true (header_of c.args.value) c.args.value.payload.now p.0 (λ _. p.1),
)
