-- Valid checksums of the packet in a frame, as the formats name them.
use Rattle.std.specs.Prelude.{ℕ, ◌≡◌, List, drop}
use Rattle.ip_wire.specs.Ipv4 as ipv4
use Rattle.ip_wire.specs.PseudoHeader.{with_pseudo_header}
use Rattle.ip_wire.specs.Tcp as tcp
use Rattle.ip_wire.specs.Types.{IpAddress, IpProtocol, IpVersion}
use Rattle.ip_wire.specs.Udp as udp
use Rattle.ip_wire.specs.WordSum.{sum_of_bytes}
use Rattle.ip_wire.specs.declared.IpProtocol.TheVariants as protocol
use Rattle.app_edit.specs.Edited.{segment_bytes}
use Rattle.app_edit.specs.Fields.{addr_of}
use Rattle.app_edit.specs.Offsets.{ip_header}
use Rattle.app_edit.specs.declared.places.Segment.{Segment}
use Rattle.app_edit.specs.declared.side.Side.TheVariants.{Source, Destination}

-- the checksum of the IPv4 header is valid
abbrev pub HasHeaderChecksum : List ℕ → Type 0
HasHeaderChecksum frame = ipv4.HasChecksum (drop ip_header frame)

-- the checksum of a transport packet between two addresses is valid; ICMPv6 has a pseudo-header (RFC 4443, section 2.3),
-- and ICMP over IPv4 has none (RFC 792)
abbrev pub HasChecksumBy : IpProtocol → IpAddress → IpAddress → List ℕ → Type 0
HasChecksumBy protocol.Tcp src dst bytes = tcp.Verifies src dst bytes
HasChecksumBy protocol.Udp src dst bytes = udp.HasChecksum src dst bytes
HasChecksumBy protocol.Icmp src dst bytes = sum_of_bytes bytes ≡ 65535
HasChecksumBy p src dst bytes = sum_of_bytes (with_pseudo_header src dst p bytes) ≡ 65535

-- the transport checksum is valid, by the addresses of the packet and the bytes that it covers
abbrev pub HasTransportChecksum : IpVersion → Segment → List ℕ → Type 0
HasTransportChecksum v s frame = HasChecksumBy s.protocol (addr_of Source v frame) (addr_of Destination v frame) (segment_bytes s frame)
