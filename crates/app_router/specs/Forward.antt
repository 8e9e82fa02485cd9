-- One hop of a packet (RFC 1812, section 5.3.1; RFC 8200, section 3).
-- Pinned by: `worked/route`, `ForwardOnce`
use Rattle.std.specs.Prelude.{ℕ, ◌≡◌, ◌<◌, ◌*◌, ◌-◌, ◌++◌, if◌then◌else◌, is_none, nat_lt, Bool, true, List, Option, Some, None, drop, slice_range}
use Rattle.std.specs.Option.{option_map_or, option_or}
use Rattle.ip_wire.specs.Ethernet as ethernet
use Rattle.ip_wire.specs.Ethernet.{ethernet_of}
use Rattle.ip_wire.specs.Field.{field, with_field}
use Rattle.ip_wire.specs.Frame.{type_of}
use Rattle.ip_wire.specs.HeaderFault.{ipv4_fault}
use Rattle.ip_wire.specs.Ip.{ReadsHeader, hop_limit_of}
use Rattle.ip_wire.specs.Ipv4.{with_updated_checksum}
use Rattle.ip_wire.specs.Ipv6.{ipv6_of}
use Rattle.ip_wire.specs.Types.{EthernetAddress, EthernetProtocol, EthernetRepr, IpRepr, Ipv4, Ipv6}
use Rattle.ip_wire.specs.declared.EthernetProtocol.TheVariants as ethertype
use Rattle.ip_wire.specs.declared.HeaderFault.{HeaderFault}
use Rattle.ip_wire.specs.declared.HeaderFault.TheVariants.{NotIp, BadHeader, Expired}

-- The payload of a frame with this EtherType is a whole packet with this header. If verified, its IPv4 header
-- checksum is valid.
pub record CarriesAs (type : EthernetProtocol) (bytes : List ℕ) (verified : Bool) (header : IpRepr) : Type 0 where
  pub names : type ≡ type_of header
  pub reads : ReadsHeader bytes verified header

-- The frame has this Ethernet header and carries a whole packet with this IP header. If verified, its IPv4 header
-- checksum is valid.
pub record Carries (frame : List ℕ) (link : EthernetRepr) (verified : Bool) (header : IpRepr) : Type 0 where
  pub reads_link : ethernet.Reads frame link
  pub packet : CarriesAs link.ethertype (drop 14 frame) verified header

-- why the IP header of a packet in a frame of this type is rejected, if it is
abbrev pub header_fault : EthernetProtocol → List ℕ → Option HeaderFault
header_fault ethertype.Ipv4 bytes = ipv4_fault bytes
header_fault ethertype.Ipv6 bytes = if is_none (ipv6_of bytes) then Some BadHeader else None
header_fault _ bytes = Some NotIp

-- the hop limit of a packet in a frame of this type
abbrev pub hop_limit_in : EthernetProtocol → List ℕ → ℕ
hop_limit_in ethertype.Ipv4 bytes = field bytes 64 8
hop_limit_in _ bytes = field bytes 56 8

-- why a packet in a frame of this type is not forwarded, if it is not
abbrev pub packet_fault : EthernetProtocol → List ℕ → Option HeaderFault
packet_fault type bytes = option_or (header_fault type bytes) (if nat_lt 1 (hop_limit_in type bytes) then None else Some Expired)

-- why a frame is not forwarded, if it is not; a frame without an Ethernet header is no IP frame
abbrev pub fault_of : List ℕ → Option HeaderFault
fault_of frame = option_map_or (λ link. packet_fault link.ethertype (drop 14 frame)) (ethernet_of frame) (Some NotIp)

-- the header with a hop limit that is lower by 1
abbrev pub one_hop_less : IpRepr → IpRepr
one_hop_less (Ipv4 v) = Ipv4 (record v { hop_limit = v.hop_limit - 1 })
one_hop_less (Ipv6 v) = Ipv6 (record v { hop_limit = v.hop_limit - 1 })

-- the bytes of a packet with this hop limit and an updated IPv4 header checksum
abbrev pub with_hop_limit : IpRepr → List ℕ → ℕ → List ℕ
with_hop_limit (Ipv4 v) bytes n = with_updated_checksum (with_field bytes 64 8 n) (256 * field bytes 64 8) (256 * n)
with_hop_limit (Ipv6 v) bytes n = with_field bytes 56 8 n

-- the Ethernet header of a frame between two hosts that carries a packet with this IP header
abbrev pub link_of : EthernetAddress → EthernetAddress → IpRepr → EthernetRepr
link_of src dst header = record { src_addr = src; dst_addr = dst; ethertype = type_of header }

-- The new frame goes between the two hosts. It carries the packet of the old one with one hop less and a valid
-- checksum, and this is its header. All other bytes are unchanged.
pub record IsForwarded (old new : List ℕ) (src dst : EthernetAddress) (header : IpRepr) : Type 0 where
  pub before : IpRepr
  pub from : EthernetRepr
  pub carried : Carries old from true before
  pub alive : 1 < hop_limit_of before
  pub hop : header ≡ one_hop_less before
  pub carries : Carries new (link_of src dst header) true header
  pub bytes : new ≡ dst.0 ++ src.0 ++ slice_range old 12 14 ++ with_hop_limit before (drop 14 old) (hop_limit_of header)
