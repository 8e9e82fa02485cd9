use Rattle.std.proofs.Common.{rules}
use Rattle.net_base.proofs.Readings.{answer_computed}
use Rattle.wire_ipv6.proofs.Ipv6FragmentComputed.{ipv6_fragment_of_Reads}
use Rattle.wire_ipv6.specs.Ipv6Fragment.{Reads, ipv6_fragment_of}
use Rattle.wire_ipv6.proofs.ipv6fragment.repr.Ipv6FragmentRepr.parse.Goals as goal

pub returns-in_err-check_len-clause-value : goal.returns-in_err-check_len-clause-value
returns-in_err-check_len-clause-value c =
    let bytes = c.args.header.now.buffer.now in
    answer_computed (Reads bytes) c.from_residual.result (ipv6_fragment_of bytes) (search rules) (ipv6_fragment_of_Reads bytes)

pub returns-clause-value : goal.returns-clause-value
returns-clause-value c = (ipv6_fragment_of_Reads c.args.header.now.buffer.now _).1 (search rules)
