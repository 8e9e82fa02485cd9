use Rattle.std.proofs.Common.{rules}
use Rattle.wire_addr.specs.Bytes.{IsByteArray}
use Rattle.wire_addr.proofs.ReadBack.{IsDotted_dotted, ReadsIpv6_ipv6_text}
use Rattle.wire_addr.proofs.laws.print_reads_back_ip_address.Goals as goal

pub returns-in-Ipv4 : goal.returns-in-Ipv4
returns-in-Ipv4 c =
    let octets : IsByteArray 4 c.in-Ipv4.address = (search rules, λ k. search rules) in
    rw c.in-Ipv4.is (IsDotted_dotted c.in-Ipv4.address octets)

pub returns-in-Ipv6 : goal.returns-in-Ipv6
returns-in-Ipv6 c =
    let octets : IsByteArray 16 c.in-Ipv6.address = (search rules, λ k. search rules) in
    rw c.in-Ipv6.is (ReadsIpv6_ipv6_text c.in-Ipv6.address octets)
