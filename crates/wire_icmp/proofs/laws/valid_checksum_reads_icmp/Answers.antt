use Rattle.std.proofs.Common.{refl, true, false}
use Rattle.wire_icmp.proofs.IcmpReadsBack.{reads-verified}
use Rattle.wire_icmp.proofs.laws.valid_checksum_reads_icmp.Goals as goal

pub returns : goal.returns
returns c = (
  λ r. (reads-verified c.args.bytes.now c.args.src_addr c.args.dst_addr true false c.args.value c.args.payload.now r (λ no. cc), r.checksum refl),
  λ p. reads-verified c.args.bytes.now c.args.src_addr c.args.dst_addr false true c.args.value c.args.payload.now p.0 (λ _. p.1),
)
