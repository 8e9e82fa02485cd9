use Rattle.std.proofs.Common.{refl, rules}
use Rattle.wire_addr.proofs.StdNet.{octets_of-segments_of}
use Rattle.wire_addr.proofs.ip_address.IpAddrFromIpAddress.from.Goals as goal

pub returns-in-Ipv6 : goal.returns-in-Ipv6
returns-in-Ipv6 c =
    let same = octets_of-segments_of 8 c.in-Ipv6.address (search rules) (search rules) in
    rw (c.in-Ipv6.is, c.from_octets-in-Ipv6.ensures, c.octets-in-Ipv6.ensures, same) refl
