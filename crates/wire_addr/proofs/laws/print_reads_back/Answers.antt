use Rattle.std.proofs.Common.{inl, rules}
use Rattle.wire_addr.specs.Bytes.{IsByteArray}
use Rattle.wire_addr.proofs.ReadBack.{IsHexBytes-dashed, IsDotted_dotted, ReadsIpv6_ipv6_text}
use Rattle.wire_addr.proofs.laws.print_reads_back.Goals as goal

pub returns-clause-ethernet : goal.returns-clause-ethernet
returns-clause-ethernet c =
    let octets : IsByteArray 6 c.args.ethernet.0 = (search rules, λ k. search rules) in
    inl (IsHexBytes-dashed c.args.ethernet.0 octets)

pub returns-clause-ipv4 : goal.returns-clause-ipv4
returns-clause-ipv4 c =
    let octets : IsByteArray 4 c.args.ipv4 = (search rules, λ k. search rules) in
    IsDotted_dotted c.args.ipv4 octets

pub returns-clause-ipv6 : goal.returns-clause-ipv6
returns-clause-ipv6 c =
    let octets : IsByteArray 16 c.args.ipv6 = (search rules, λ k. search rules) in
    ReadsIpv6_ipv6_text c.args.ipv6 octets
