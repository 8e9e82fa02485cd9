-- ICMP errors about the packet of a frame (RFC 1122, section 3.2.2; RFC 1812, section 4.3.2; RFC 4443, section 2.4).
-- Pinned by: `worked/icmp`, `MessagesOnce`, `tests/frames/host_lines.py`
use Rattle.std.specs.Prelude.{ℕ, ◌≡◌, ◌⊎◌, List, [], drop, false, length, min, take, true}
use Rattle.ip_wire.specs.Class.{solicited_node}
use Rattle.ip_wire.specs.Ethernet as ethernet
use Rattle.ip_wire.specs.Frame.{Carried, other, packet, type_of}
use Rattle.ip_wire.specs.Hardware as hardware
use Rattle.ip_wire.specs.Ip.{Reads, dst_addr_of, header_before, payload_of, src_addr_of, version_of}
use Rattle.ip_wire.specs.Field.{field}
use Rattle.ip_wire.specs.Ipv4 as ipv4
use Rattle.ip_wire.specs.Ipv6 as ipv6
use Rattle.ip_wire.specs.Protocol.{number_of}
use Rattle.ip_wire.specs.Types.{EthernetRepr, IpRepr, IpVersion, Ipv4, Ipv6, Ipv6Repr}
use Rattle.ip_wire.specs.declared.IpAddress.TheVariants as address
use Rattle.ip_wire.specs.declared.IpVersion.TheVariants as version
use Rattle.wire_icmp.specs.Icmp.{bytes_of, is_query, protocol_of}
use Rattle.wire_icmp.specs.declared.IcmpRepr.{IcmpRepr}
use Rattle.app_host.specs.Interface.{header_back}
use Rattle.app_host.specs.Ipv6Chain.{LeadsNowhere, LeadsTo}
use Rattle.app_host.specs.Neighbour.{all_nodes, group_hardware}
use Rattle.app_host.specs.Source.{IsHostAddr, IsInvalidSource}
use Rattle.app_host.specs.declared.icmp_error.About.{About}
use Rattle.app_host.specs.declared.icmp_error.About.TheVariants.{Fragments, Groups, Hosts}
use Rattle.app_host.specs.declared.interface.Interface.{Interface}

-- The message of this protocol is ICMP, but no query: it has no type, or that of an error or a redirect.
abbrev pub IsIcmpError : IpVersion → ℕ → List ℕ → Type 0
IsIcmpError version protocol message =
    (protocol ≡ number_of (protocol_of version)) × ((message ≡ []) ⊎ (is_query version (field message 0 8) ≡ false))

-- The headers from the one with this number on lead to an upper-layer protocol, and carry no ICMP error. A later fragment of
-- ICMPv6 may be part of one.
abbrev pub CarriesNoError : ℕ → List ℕ → Type 0
CarriesNoError number bytes =
    (protocol : ℕ) × (message : List ℕ) × LeadsTo protocol message number bytes × ¬ IsIcmpError version.Ipv6 protocol message

-- An ICMP error may be sent about these headers and what they carry. An error about a fragment is also sent if its headers
-- lead to no upper-layer protocol, since the others are in another fragment (RFC 8200, section 4.5).
abbrev pub IsToldOfHeaders : About → ℕ → List ℕ → Type 0
IsToldOfHeaders Hosts number bytes = CarriesNoError number bytes
IsToldOfHeaders Groups number bytes = CarriesNoError number bytes
IsToldOfHeaders Fragments number bytes = CarriesNoError number bytes ⊎ LeadsNowhere number bytes

-- An ICMP error may be sent about what the packet with this header carries. Over IPv4 it is whole, or the first fragment, and
-- carries no ICMP error.
abbrev pub IsToldOf : About → IpRepr → List ℕ → Type 0
IsToldOf about (Ipv4 v) bytes = (ipv4.fragment_offset bytes ≡ 0) × ¬ IsIcmpError version.Ipv4 (number_of v.next_header) (payload_of bytes version.Ipv4)
IsToldOf about (Ipv6 v) bytes = IsToldOfHeaders about (number_of v.next_header) (payload_of bytes version.Ipv6)

-- the header of the packet with an error: from our address back to the sender
abbrev pub header_from : Interface → IpRepr → IpRepr
header_from ours (Ipv4 v) = header_back (Ipv4 (record v { dst_addr = ours.ipv4_addr }))
header_from ours (Ipv6 v) = header_back (Ipv6 (record v { dst_addr = ours.ipv6_addr }))

-- The packet goes from one other host to one host, and the frame is for our hardware address only. We have a host's
-- address of its version.
pub record IsBetweenHosts (ours : Interface) (link : EthernetRepr) (v : IpRepr) : Type 0 where
  pub type : link.ethertype ≡ type_of v
  pub to_hardware : link.dst_addr ≡ ours.hardware_addr
  pub from_hardware : hardware.IsUnicast link.src_addr.0
  pub from_addr : ¬ IsInvalidSource ours (src_addr_of v)
  pub to_addr : IsHostAddr (dst_addr_of v)
  pub own : IsHostAddr (src_addr_of (header_from ours v))

-- The bytes of the packet that an error quotes. The packet with the error has at most 576 bytes over IPv4 (RFC 1812,
-- section 4.3.2.3), and 1,280 over IPv6 (RFC 4443, section 2.4 c). Padding after the packet is not quoted.
abbrev pub quoted : IpVersion → List ℕ → List ℕ
quoted version.Ipv4 bytes = take (min 548 (ipv4.total_len bytes)) bytes
quoted version.Ipv6 bytes = take (min 1232 (ipv6.total_len bytes)) bytes

-- a group of our interface, which has a host's IPv6 address: all nodes, and the solicited-node group of our address (RFC
-- 4291, section 2.8)
pub record IsOurGroup (ours : Interface) (group : List ℕ) : Type 0 where
  pub own : IsHostAddr (address.Ipv6 ours.ipv6_addr)
  pub one_of : (group ≡ all_nodes) ⊎ (group ≡ solicited_node ours.ipv6_addr)

-- The packet goes to a group of ours, and the frame to the hardware address of the group or to ours (RFC 6085). An error
-- may be sent about a packet with these headers that goes to our address.
pub record IsToGroup (ours : Interface) (link : EthernetRepr) (v : Ipv6Repr) : Type 0 where
  pub to_group : IsOurGroup ours v.dst_addr
  pub to_hardware : (link.dst_addr.0 ≡ group_hardware v.dst_addr) ⊎ (link.dst_addr ≡ ours.hardware_addr)
  pub from_host : IsBetweenHosts ours (record link { dst_addr = ours.hardware_addr }) (Ipv6 (record v { dst_addr = ours.ipv6_addr }))

-- The packet goes from one other host to one host, or also to a group of ours. Over IPv6 some errors are sent about packets
-- to groups (RFC 4443, section 2.4 e.3 and e.4).
abbrev pub IsToReceiver : About → Interface → EthernetRepr → IpRepr → Type 0
IsToReceiver Groups ours link (Ipv6 v) = IsBetweenHosts ours link (Ipv6 v) ⊎ IsToGroup ours link v
IsToReceiver Groups ours link (Ipv4 v) = IsBetweenHosts ours link (Ipv4 v)
IsToReceiver Hosts ours link v = IsBetweenHosts ours link v
IsToReceiver Fragments ours link v = IsBetweenHosts ours link v

-- The second frame carries an ICMP error with this message about the packet with this header in the first frame. Such an
-- error may be sent about it.
pub record IsErrorAboutTo (about : About) (ours : Interface) (frame : List ℕ) (v : IpRepr) (message : IcmpRepr) (header : EthernetRepr) (carried : Carried) : Type 0 where
  pub asked_link : EthernetRepr
  pub reads_link : ethernet.Reads frame asked_link
  pub reads : Reads (drop 14 frame) true v
  pub hosts : IsToReceiver about ours asked_link v
  pub told_of : IsToldOf about v (drop 14 frame)
  pub link : header ≡ record { src_addr = ours.hardware_addr; dst_addr = asked_link.src_addr; ethertype = type_of v }
  pub tells : carried ≡ (let back = header_from ours v in
      let bytes = bytes_of message (quoted (version_of v) (drop 14 frame)) (src_addr_of back) (dst_addr_of back) true in
      packet (header_before back (protocol_of (version_of v)) (length bytes)) (other bytes))

-- the second frame carries such an ICMP error with this message about the packet in the first frame
abbrev pub IsErrorTo : About → Interface → List ℕ → IcmpRepr → EthernetRepr → Carried → Type 0
IsErrorTo about ours frame message header carried = (v : IpRepr) × IsErrorAboutTo about ours frame v message header carried

-- the second frame carries an ICMP error with this message about the packet with this header in the first frame, to one host
abbrev pub IsErrorAbout : Interface → List ℕ → IpRepr → IcmpRepr → EthernetRepr → Carried → Type 0
IsErrorAbout ours frame v message header carried = IsErrorAboutTo Hosts ours frame v message header carried

-- the second frame carries an ICMP error with this message about the packet in the first frame, to one host
abbrev pub IsError : Interface → List ℕ → IcmpRepr → EthernetRepr → Carried → Type 0
IsError ours frame message header carried = (v : IpRepr) × IsErrorAbout ours frame v message header carried
