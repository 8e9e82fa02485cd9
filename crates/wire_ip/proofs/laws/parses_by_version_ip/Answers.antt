use Rattle.std.proofs.Common.{sym, ◌∙◌}
use Rattle.std.specs.Result.{result_ok}
use Rattle.net_base.specs.Checksum.{verifies}
use Rattle.wire_ip.proofs.IpComputed.{ip_of_Ipv4, ip_of_Ipv6, ip_of_None}
use Rattle.wire_ip.proofs.laws.parses_by_version_ip.Goals as goal

pub returns-clause-ipv4 : goal.returns-clause-ipv4
returns-clause-ipv4 c = λ is.
    sym c.parse.ensures.value
    ∙ ip_of_Ipv4 (verifies c.args.caps.now.ipv4) c.args.packet.now.buffer.now (result_ok c.parse-2.result) is (rw c.requires.ipv4 at c.parse-2.ensures.value)

pub returns-clause-ipv6 : goal.returns-clause-ipv6
returns-clause-ipv6 c = λ is.
    sym c.parse.ensures.value
    ∙ ip_of_Ipv6 (verifies c.args.caps.now.ipv4) c.args.packet.now.buffer.now (result_ok c.parse-3.result) is (rw c.requires.ipv6 at c.parse-3.ensures.value)

pub returns-clause-other : goal.returns-clause-other
returns-clause-other c = λ is. sym c.parse.ensures.value ∙ ip_of_None (verifies c.args.caps.now.ipv4) c.args.packet.now.buffer.now is
