-- Source addresses that no packet of another host has.
-- Pinned by: `tests/frames/host_lines.py`
use Rattle.std.specs.Prelude.{ℕ, ◌≡◌, ◌⊎◌, List, [], ◌∷◌}
use Rattle.ip_wire.specs.Block.{Block, IsIn}
use Rattle.ip_wire.specs.Class.{ipv4_loopback, ipv4_multicast, ipv4_unspecified, ipv6_block, ipv6_loopback, ipv6_multicast, ipv6_unspecified}
use Rattle.ip_wire.specs.Hardware.{IsUnicast}
use Rattle.ip_wire.specs.Types.{EthernetAddress, IpAddress}
use Rattle.ip_wire.specs.declared.IpAddress.TheVariants.{Ipv4, Ipv6}
use Rattle.app_host.specs.declared.interface.Interface.{Interface}

-- this network, 0.0.0.0/8, which contains the unspecified address (RFC 1122, section 3.2.1.3)
abbrev pub ipv4_this_network : Block
ipv4_this_network = record { address = 0 ∷ 0 ∷ 0 ∷ 0 ∷ []; prefix_len = 8 }

-- the reserved addresses of IPv4, 240.0.0.0/4, which contain the limited broadcast address (RFC 1112, section 4)
abbrev pub ipv4_reserved : Block
ipv4_reserved = record { address = 240 ∷ 0 ∷ 0 ∷ 0 ∷ []; prefix_len = 4 }

-- the IPv4-mapped addresses of IPv6, ::ffff:0:0/96 (RFC 4291, section 2.5.5.2)
abbrev pub ipv6_mapped : Block
ipv6_mapped = ipv6_block (0 ∷ 0 ∷ 0 ∷ 0 ∷ 0 ∷ 0xffff ∷ 0 ∷ 0 ∷ []) 96

-- an address by which a host means itself: this network or loopback (RFC 1122, section 3.2.1.3), `::` or `::1` (RFC 4291,
-- sections 2.5.2 and 2.5.3)
abbrev pub IsThisHost : IpAddress → Type 0
IsThisHost (Ipv4 bytes) = IsIn ipv4_this_network bytes ⊎ IsIn ipv4_loopback bytes
IsThisHost (Ipv6 bytes) = (bytes ≡ ipv6_unspecified) ⊎ (bytes ≡ ipv6_loopback)

-- an address that no host has: multicast, reserved (RFC 1122, section 3.2.1.3) or IPv4-mapped (RFC 6890, section 2.2.3)
abbrev pub IsNoHost : IpAddress → Type 0
IsNoHost (Ipv4 bytes) = IsIn ipv4_multicast bytes ⊎ IsIn ipv4_reserved bytes
IsNoHost (Ipv6 bytes) = IsIn ipv6_multicast bytes ⊎ IsIn ipv6_mapped bytes

-- a single host may have this address
pub record IsHostAddr (addr : IpAddress) : Type 0 where
  pub no_self : ¬ IsThisHost addr
  pub host : ¬ IsNoHost addr

-- the address is in the field of our interface for its version
abbrev pub IsInField : Interface → IpAddress → Type 0
IsInField ours (Ipv4 bytes) = bytes ≡ ours.ipv4_addr
IsInField ours (Ipv6 bytes) = bytes ≡ ours.ipv6_addr

-- Our interface has this address. One that no single host may have, as 0.0.0.0 or `::`, stands for no address of its
-- version: nothing is sent to it or from it.
pub record IsOurs (ours : Interface) (addr : IpAddress) : Type 0 where
  pub in_field : IsInField ours addr
  pub of_host : IsHostAddr addr

-- no packet from another host has this source address
abbrev pub IsInvalidSource : Interface → IpAddress → Type 0
IsInvalidSource ours addr = IsThisHost addr ⊎ (IsNoHost addr ⊎ IsOurs ours addr)

-- the sender of an ARP request: one host with a valid source address, or with 0.0.0.0 in a probe (RFC 5227, section
-- 2.1.1)
pub record IsAsker (ours : Interface) (hardware : EthernetAddress) (addr : List ℕ) : Type 0 where
  pub from_hardware : IsUnicast hardware.0
  pub from_addr : (addr ≡ ipv4_unspecified) ⊎ ¬ IsInvalidSource ours (Ipv4 addr)
