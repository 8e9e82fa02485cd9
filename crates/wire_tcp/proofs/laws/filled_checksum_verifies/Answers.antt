use Rattle.std.proofs.Common.{rules}
use Rattle.wire_tcp.proofs.Sums.{verifies}
use Rattle.wire_tcp.proofs.laws.filled_checksum_verifies.Goals as goal

pub returns : goal.returns
returns c = verifies c.args.src_addr c.args.dst_addr c.args.bytes.now (search rules) (search rules) c.requires.header
