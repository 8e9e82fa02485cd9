-- Neighbour solicitations and advertisements in the structs of C: parsed from a frame, and written as one.
-- Pinned by: `worked/icmp`, `judge`
use Rattle.std.specs.Prelude.{ℕ, ◌≡◌, ◌&&◌, ◌==◌, not, if◌then◌else◌, Bool, true, List, replicate, Option, None, Some}
use Rattle.std.specs.Option.{option_and_then, option_map_or}
use Rattle.ip_wire.specs.Frame.{IsReadWhole, other, packet}
use Rattle.ip_wire.specs.Types.{EthernetAddress, EthernetRepr, IpRepr, Ipv4, Ipv6}
use Rattle.ip_wire.specs.declared.IpProtocol.TheVariants as protocol
use Rattle.wire_addr.specs.declared.ip_address.IpAddress.TheVariants as address
use Rattle.wire_icmp.specs.Ndisc.{Reads, bytes_of, is_allowed}
use Rattle.wire_icmp.specs.declared.ndisc.repr.NdiscRepr.{NdiscRepr}
use Rattle.wire_icmp.specs.declared.ndisc.repr.NdiscRepr.TheVariants.{NeighborSolicit, NeighborAdvert}
use Rattle.c_structs.specs.Addresses.{addr_of}
use Rattle.c_write.specs.Frames.{framed, ip_packet}
use Rattle.c_structs.specs.Nothing.{no_ip}
use Rattle.c_write.specs.Headers.{is_yes, only_if, where_set}
use Rattle.c_structs.specs.Written.{flag}
use Rattle.c_structs.specs.declared.failures.Failure.{Failure}
use Rattle.c_structs.specs.declared.failures.Failure.TheVariants as failure
use Rattle.c_structs.specs.declared.types.Addr.{Addr}
use Rattle.c_structs.specs.declared.types.FrameFields.{FrameFields}
use Rattle.c_structs.specs.declared.types.Ip.{Ip}
use Rattle.c_icmp.specs.declared.types.Ndisc.{Ndisc}

-- ---- parsed

-- the payload of a packet with this header is a valid neighbour discovery message with this value
abbrev pub CarriesNdisc : IpRepr → List ℕ → NdiscRepr → Type 0
CarriesNdisc (Ipv4 ip) message v = ⊥
CarriesNdisc (Ipv6 ip) message v = (ip.next_header ≡ protocol.Icmpv6) × Reads message ip.src_addr ip.dst_addr ip.hop_limit true v

-- the frame carries a valid neighbour discovery message with this value
pub record ReadsNdisc (frame : List ℕ) (v : NdiscRepr) : Type 0 where
  pub header : EthernetRepr
  pub ip : IpRepr
  pub message : List ℕ
  pub reads : IsReadWhole frame header (packet ip (other message))
  pub carries : CarriesNdisc ip message v

-- the bytes of a hardware address, or zeros
abbrev pub hardware_bytes : Option EthernetAddress → List ℕ
hardware_bytes hardware = option_map_or (λ (h : EthernetAddress). h.0) hardware (replicate 6 0)

-- the struct of a neighbour discovery value
abbrev pub ndisc_struct : NdiscRepr → Ndisc
ndisc_struct (NeighborSolicit target hardware) = record {
  target = addr_of (address.Ipv6 target);
  hardware = hardware_bytes hardware;
  has_hardware = option_map_or (λ h. 1) hardware 0;
  is_advert = 0;
  is_router = 0;
  is_solicited = 0;
  overrides = 0;
}
ndisc_struct (NeighborAdvert flags target hardware) = record {
  target = addr_of (address.Ipv6 target);
  hardware = hardware_bytes hardware;
  has_hardware = option_map_or (λ h. 1) hardware 0;
  is_advert = 1;
  is_router = flag flags.router;
  is_solicited = flag flags.solicited;
  overrides = flag flags.override_;
}

-- ---- written

-- the hardware address in the option of a message, if the struct has one
abbrev pub hardware_of : Ndisc → Option EthernetAddress
hardware_of n = where_set n.has_hardware (record { 0 = n.hardware })

-- the value of a struct; a solicitation has no flags
abbrev pub ndisc_value : Ndisc → NdiscRepr
ndisc_value n =
    if is_yes n.is_advert
    then NeighborAdvert (record { router = is_yes n.is_router; solicited = is_yes n.is_solicited; override_ = is_yes n.overrides }) n.target.octets (hardware_of n)
    else NeighborSolicit n.target.octets (hardware_of n)

-- the IP header of a message: hop limit 255 shows that no router has forwarded it
abbrev pub ndisc_ip : Ip
ndisc_ip = record no_ip { hop_limit = 255 }

-- whether an address is an IPv6 address
abbrev pub is_ipv6 : Addr → Bool
is_ipv6 a = a.version == 6

-- whether source, destination and target are IPv6 addresses
abbrev pub has_ipv6 : FrameFields → Ndisc → Bool
has_ipv6 f n = is_ipv6 f.src.addr && is_ipv6 f.dst.addr && is_ipv6 n.target

-- whether receivers accept the message between these addresses (RFC 4861, sections 7.1.1 and 7.1.2)
abbrev pub is_accepted : FrameFields → Ndisc → Bool
is_accepted f n = is_allowed (ndisc_value n) f.src.addr.octets f.dst.addr.octets

-- the bytes of a packet with a neighbour discovery message, if it can be written
abbrev pub ndisc_packet : FrameFields → Ndisc → Option (List ℕ)
ndisc_packet f n =
    option_and_then (ip_packet (record f { ip = ndisc_ip }) 58)
    (only_if (has_ipv6 f n && is_accepted f n) (bytes_of (ndisc_value n) f.src.addr.octets f.dst.addr.octets true))

-- the bytes of a frame with a neighbour discovery message, if it can be written
abbrev pub ndisc_frame : FrameFields → Ndisc → Option (List ℕ)
ndisc_frame f n = framed f (ndisc_packet f n)

-- the failure of a frame with a neighbour discovery message
abbrev pub ndisc_failure : FrameFields → Ndisc → Option Failure
ndisc_failure f n =
    if not (has_ipv6 f n) then Some failure.NoVersion
    else if not (is_accepted f n) then Some failure.BadField
    else None
