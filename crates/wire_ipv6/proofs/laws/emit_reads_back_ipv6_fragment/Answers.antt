use Rattle.std.proofs.Common.{rules}
use Rattle.wire_ipv6.proofs.Ipv6FragmentEmitted.{reads_bytes_of}
use Rattle.wire_ipv6.proofs.laws.emit_reads_back_ipv6_fragment.Goals as goal

pub returns : goal.returns
returns c = reads_bytes_of c.args.value c.args.rest.now (search rules)
