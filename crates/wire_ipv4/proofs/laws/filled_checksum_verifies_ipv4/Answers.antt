use Rattle.std.proofs.Common.{true, false}
use Rattle.wire_ipv4.proofs.Ipv4Updated.{reads-filled, valid-filled}
use Rattle.wire_ipv4.proofs.laws.filled_checksum_verifies_ipv4.Goals as goal

pub returns-clause-valid : goal.returns-clause-valid
returns-clause-valid c = valid-filled c.args.bytes.now (λ i. (c.type_inv.bytes i).fits) c.requires.field c.requires.header

pub returns-clause-reads : goal.returns-clause-reads
returns-clause-reads c v = reads-filled c.args.bytes.now false true v (λ i. (c.type_inv.bytes i).fits)
