-- The packets that a host on one link may reply to.
-- Pinned by: `tests/frames/host_lines.py`
use Rattle.std.specs.Prelude.{◌≡◌}
use Rattle.ip_wire.specs.Hardware as hardware
use Rattle.ip_wire.specs.Ip.{dst_addr_of, src_addr_of}
use Rattle.ip_wire.specs.Types.{EthernetRepr, IpRepr, Ipv4, Ipv6}
use Rattle.app_host.specs.Source.{IsInvalidSource, IsOurs}
use Rattle.app_host.specs.declared.interface.Interface.{Interface}

-- a packet from one other host to this interface only (RFC 1122, sections 3.2.1.3 and 3.3.6)
pub record IsForUs (ours : Interface) (link : EthernetRepr) (v : IpRepr) : Type 0 where
  pub to_hardware : link.dst_addr ≡ ours.hardware_addr
  pub from_hardware : hardware.IsUnicast link.src_addr.0
  pub to_addr : IsOurs ours (dst_addr_of v)
  pub from_addr : ¬ IsInvalidSource ours (src_addr_of v)

-- the header of a packet in the other direction, with hop limit 64
abbrev pub header_back : IpRepr → IpRepr
header_back (Ipv4 v) = Ipv4 (record v { src_addr = v.dst_addr; dst_addr = v.src_addr; hop_limit = 64 })
header_back (Ipv6 v) = Ipv6 (record v { src_addr = v.dst_addr; dst_addr = v.src_addr; hop_limit = 64 })
