-- The IP protocol numbers and their names.
-- Pinned by: `cases/shapes`, `wire/protocol`, `cases/ipv6_shapes`
use Rattle.std.specs.Prelude.{ℕ, ◌++◌, ◌==◌, if◌then◌else◌, List, codes, pos}
use Rattle.std.specs.Hash as hash
use Rattle.std.specs.declared.cmp.Ordering.{Ordering}
use Rattle.wire_addr.specs.Order.{named_cmp}
use Rattle.wire_addr.specs.Printed.{hex_byte}
use Rattle.wire_addr.specs.declared.ip_protocol.IpProtocol.{IpProtocol}
use Rattle.wire_addr.specs.declared.ip_protocol.IpProtocol.TheVariants as protocol

-- the IP protocol that a number names (IANA)
abbrev pub protocol_of : ℕ → IpProtocol
protocol_of n =
    if n == 0 then protocol.HopByHop else (
    if n == 1 then protocol.Icmp else (
    if n == 2 then protocol.Igmp else (
    if n == 6 then protocol.Tcp else (
    if n == 17 then protocol.Udp else (
    if n == 43 then protocol.Ipv6Route else (
    if n == 44 then protocol.Ipv6Frag else (
    if n == 50 then protocol.IpSecEsp else (
    if n == 51 then protocol.IpSecAh else (
    if n == 58 then protocol.Icmpv6 else (
    if n == 59 then protocol.Ipv6NoNxt else (
    if n == 60 then protocol.Ipv6Opts else protocol.Unknown n)))))))))))

-- the number of an IP protocol (IANA)
abbrev pub number_of : IpProtocol → ℕ
number_of protocol.HopByHop = 0
number_of protocol.Icmp = 1
number_of protocol.Igmp = 2
number_of protocol.Tcp = 6
number_of protocol.Udp = 17
number_of protocol.Ipv6Route = 43
number_of protocol.Ipv6Frag = 44
number_of protocol.IpSecEsp = 50
number_of protocol.IpSecAh = 51
number_of protocol.Icmpv6 = 58
number_of protocol.Ipv6NoNxt = 59
number_of protocol.Ipv6Opts = 60
number_of (protocol.Unknown n) = n

-- the normal form of a protocol: a number that has a name becomes that name
abbrev pub known : IpProtocol → IpProtocol
known p = protocol_of (number_of p)

-- the printed text of a protocol: its name, or `0x` and two hex digits
abbrev pub protocol_text : IpProtocol → List ℕ
protocol_text protocol.HopByHop = codes "Hop-by-Hop"
protocol_text protocol.Icmp = codes "ICMP"
protocol_text protocol.Igmp = codes "IGMP"
protocol_text protocol.Tcp = codes "TCP"
protocol_text protocol.Udp = codes "UDP"
protocol_text protocol.Ipv6Route = codes "IPv6-Route"
protocol_text protocol.Ipv6Frag = codes "IPv6-Frag"
protocol_text protocol.IpSecEsp = codes "IPsec-ESP"
protocol_text protocol.IpSecAh = codes "IPsec-AH"
protocol_text protocol.Icmpv6 = codes "ICMPv6"
protocol_text protocol.Ipv6NoNxt = codes "IPv6-NoNxt"
protocol_text protocol.Ipv6Opts = codes "IPv6-Opts"
protocol_text (protocol.Unknown n) = codes "0x" ++ hex_byte n

-- 1 for a protocol without a name, else 0 (`wire/orders`)
abbrev pub is_unknown : IpProtocol → ℕ
is_unknown (protocol.Unknown n) = 1
is_unknown p = 0

-- the order of protocols: those with a name first; otherwise by number (`wire/orders`)
abbrev pub protocol_cmp : IpProtocol → IpProtocol → Ordering
protocol_cmp = named_cmp is_unknown number_of

-- the index of the variant of a protocol (`wire/orders`)
abbrev pub variant_of : IpProtocol → ℕ
variant_of protocol.HopByHop = 0
variant_of protocol.Icmp = 1
variant_of protocol.Igmp = 2
variant_of protocol.Tcp = 3
variant_of protocol.Udp = 4
variant_of protocol.Ipv6Route = 5
variant_of protocol.Ipv6Frag = 6
variant_of protocol.IpSecEsp = 7
variant_of protocol.IpSecAh = 8
variant_of protocol.Icmpv6 = 9
variant_of protocol.Ipv6NoNxt = 10
variant_of protocol.Ipv6Opts = 11
variant_of (protocol.Unknown n) = 12

-- the hashed values of a protocol: the index of its variant, and the number of one without a name (`wire/orders`)
abbrev pub protocol_hash : IpProtocol → hash.HashWrites
protocol_hash (protocol.Unknown n) = hash.isize (pos 12) ++ hash.u8 n
protocol_hash p = hash.isize (pos (variant_of p))
