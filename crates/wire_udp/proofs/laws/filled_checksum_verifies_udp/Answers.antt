use Rattle.std.proofs.Common.{inr, true, false, rules}
use Rattle.wire_udp.proofs.UdpUpdated.{filled, reads-filled}
use Rattle.wire_udp.proofs.laws.filled_checksum_verifies_udp.Goals as goal

pub returns-clause-valid : goal.returns-clause-valid
returns-clause-valid c = inr (filled c.args.src_addr c.args.dst_addr c.args.bytes.now (λ i. (c.type_inv.bytes i).fits) (search rules) (search rules) c.requires.lengths)

pub returns-clause-written : goal.returns-clause-written
returns-clause-written c = (filled c.args.src_addr c.args.dst_addr c.args.bytes.now (λ i. (c.type_inv.bytes i).fits) (search rules) (search rules) c.requires.lengths).0

pub returns-clause-verifies : goal.returns-clause-verifies
returns-clause-verifies c = (filled c.args.src_addr c.args.dst_addr c.args.bytes.now (λ i. (c.type_inv.bytes i).fits) (search rules) (search rules) c.requires.lengths).1

pub returns-clause-reads : goal.returns-clause-reads
returns-clause-reads c v payload = reads-filled c.args.src_addr c.args.dst_addr c.args.bytes.now false true v payload (λ i. (c.type_inv.bytes i).fits) (search rules) (search rules)
