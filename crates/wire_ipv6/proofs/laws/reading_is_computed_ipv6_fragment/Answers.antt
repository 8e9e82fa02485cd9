use Rattle.wire_ipv6.proofs.Ipv6FragmentComputed.{ipv6_fragment_of_Reads}
use Rattle.wire_ipv6.proofs.laws.reading_is_computed_ipv6_fragment.Goals as goal

pub returns : goal.returns
returns c = ipv6_fragment_of_Reads c.args.bytes.now c.args.value
