-- The fields of the packet in a frame that an edit sets, as the formats name them.
use Rattle.std.specs.Prelude.{ℕ, List, drop}
use Rattle.ip_wire.specs.Field.{field}
use Rattle.ip_wire.specs.Ipv4 as ipv4
use Rattle.ip_wire.specs.Ipv6 as ipv6
use Rattle.ip_wire.specs.Types.{IpAddress, IpVersion}
use Rattle.ip_wire.specs.Udp as udp
use Rattle.ip_wire.specs.declared.IpAddress.TheVariants as address
use Rattle.ip_wire.specs.declared.IpVersion.TheVariants as version
use Rattle.app_edit.specs.Edited.{segment_bytes}
use Rattle.app_edit.specs.Offsets.{ip_header}
use Rattle.app_edit.specs.declared.places.Segment.{Segment}
use Rattle.app_edit.specs.declared.side.Side.{Side}
use Rattle.app_edit.specs.declared.side.Side.TheVariants.{Source, Destination}

-- the TTL or hop limit
abbrev pub hop_limit_of : IpVersion → List ℕ → ℕ
hop_limit_of version.Ipv4 frame = ipv4.hop_limit_of (drop ip_header frame)
hop_limit_of version.Ipv6 frame = ipv6.hop_limit_of (drop ip_header frame)

-- the DSCP; in IPv6 the upper 6 bits of the traffic class (RFC 8200, section 7)
abbrev pub dscp_of : IpVersion → List ℕ → ℕ
dscp_of version.Ipv4 frame = ipv4.dscp_of (drop ip_header frame)
dscp_of version.Ipv6 frame = field (drop ip_header frame) 4 6

-- the ECN; in IPv6 the lower 2 bits of the traffic class (RFC 8200, section 7)
abbrev pub ecn_of : IpVersion → List ℕ → ℕ
ecn_of version.Ipv4 frame = ipv4.ecn_of (drop ip_header frame)
ecn_of version.Ipv6 frame = field (drop ip_header frame) 10 2

-- the source or destination address
abbrev pub addr_of : Side → IpVersion → List ℕ → IpAddress
addr_of Source version.Ipv4 frame = address.Ipv4 (ipv4.src_addr_of (drop ip_header frame))
addr_of Source version.Ipv6 frame = address.Ipv6 (ipv6.src_addr_of (drop ip_header frame))
addr_of Destination version.Ipv4 frame = address.Ipv4 (ipv4.dst_addr_of (drop ip_header frame))
addr_of Destination version.Ipv6 frame = address.Ipv6 (ipv6.dst_addr_of (drop ip_header frame))

-- the source or destination port of a UDP packet; TCP has its ports in the same places (RFC 9293, section 3.1)
abbrev pub port_of : Side → Segment → List ℕ → ℕ
port_of Source s frame = udp.src_port_of (segment_bytes s frame)
port_of Destination s frame = udp.dst_port_of (segment_bytes s frame)
