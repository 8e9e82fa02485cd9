-- The reply to a neighbour solicitation (RFC 4861, section 7.2.4).
-- Pinned by: `worked/hosts`, `MessagesOnce`, `tests/frames/host_lines.py`
use Rattle.std.specs.Prelude.{ℕ, ◌≡◌, ◌⊎◌, Bool, true, false, List, [], ◌∷◌, Option, Some, None, drop, length}
use Rattle.ip_wire.specs.Class.{ipv6_unspecified, solicited_node}
use Rattle.ip_wire.specs.Frame.{Carried, other, packet}
use Rattle.ip_wire.specs.FrameValue.{carried_of}
use Rattle.ip_wire.specs.Hardware.{IsUnicast}
use Rattle.ip_wire.specs.Bytes.{address_bytes}
use Rattle.ip_wire.specs.Types.{EthernetAddress, EthernetRepr, Ipv6, Ipv6Repr}
use Rattle.ip_wire.specs.declared.EthernetProtocol.TheVariants as ethertype
use Rattle.ip_wire.specs.declared.Frame.{Frame}
use Rattle.ip_wire.specs.declared.IpAddress.TheVariants as address
use Rattle.ip_wire.specs.declared.IpProtocol.TheVariants as protocol
use Rattle.wire_icmp.specs.Ndisc.{Reads, bytes_of}
use Rattle.wire_icmp.specs.declared.NdiscRepr.{NdiscRepr}
use Rattle.wire_icmp.specs.declared.NdiscRepr.TheVariants.{NeighborAdvert, NeighborSolicit}
use Rattle.app_host.specs.Source.{IsHostAddr, IsInvalidSource}
use Rattle.app_host.specs.declared.interface.Interface.{Interface}

-- the hardware address of a multicast group: 33:33 and the last four bytes of the group (RFC 2464, section 7)
abbrev pub group_hardware : List ℕ → List ℕ
group_hardware group = 0x33 ∷ 0x33 ∷ drop 12 group

-- the group of all nodes on the link, ff02::1 (RFC 4291, section 2.7.1)
abbrev pub all_nodes : List ℕ
all_nodes = address_bytes (0xff02 ∷ 0 ∷ 0 ∷ 0 ∷ 0 ∷ 0 ∷ 0 ∷ 1 ∷ [])

-- The packet goes to our address, and the frame to our hardware address. Or the packet goes to the solicited-node group
-- of our address, and the frame to the group's hardware address or to ours: a bridge may send a group's frames to each
-- host by itself (RFC 6085).
abbrev pub IsForTarget : Interface → EthernetAddress → List ℕ → Type 0
IsForTarget ours hardware dst =
    ((dst ≡ ours.ipv6_addr) × (hardware ≡ ours.hardware_addr))
    ⊎ ((dst ≡ solicited_node ours.ipv6_addr) × ((hardware.0 ≡ group_hardware dst) ⊎ (hardware ≡ ours.hardware_addr)))

-- a packet with these headers may ask for our address, which is that of a host
pub record IsSolicited (ours : Interface) (link : EthernetRepr) (ip : Ipv6Repr) : Type 0 where
  pub protocol : ip.next_header ≡ protocol.Icmpv6
  pub from_hardware : IsUnicast link.src_addr.0
  pub own : IsHostAddr (address.Ipv6 ours.ipv6_addr)
  pub to_target : IsForTarget ours link.dst_addr ip.dst_addr

-- the hardware address of a sender: the one in its message, else that of its frame
abbrev pub hardware_of : Option EthernetAddress → EthernetAddress → EthernetAddress
hardware_of None hardware = hardware
hardware_of (Some named) hardware = named

-- The advertisement goes to this hardware address and this IPv6 address, and is solicited or not. A host that checks
-- whether its new address is in use has none yet: then all nodes get the advertisement.
abbrev pub IsAnsweredTo : Interface → EthernetRepr → Ipv6Repr → Option EthernetAddress → EthernetAddress → List ℕ → Bool → Type 0
IsAnsweredTo ours link ip named hardware dst solicited =
    ((ip.src_addr ≡ ipv6_unspecified) × (dst ≡ all_nodes) × (hardware.0 ≡ group_hardware all_nodes) × (solicited ≡ false))
    ⊎ (¬ IsInvalidSource ours (address.Ipv6 ip.src_addr) × (dst ≡ ip.src_addr) × (hardware ≡ hardware_of named link.src_addr) × IsUnicast hardware.0 × (solicited ≡ true))

-- The advertisement of our hardware address, which replaces another one that is known. A router sets the flag R: a
-- host that gets R of 0 no longer sends through it (RFC 4861, sections 7.2.4 and 7.2.5).
abbrev pub advert_of : Interface → Bool → NdiscRepr
advert_of ours solicited =
    NeighborAdvert (record { router = ours.is_router; solicited = solicited; override_ = true }) ours.ipv6_addr (Some ours.hardware_addr)

-- the IPv6 header of our advertisement, before its length is filled in
abbrev pub advert_header : Interface → List ℕ → Ipv6Repr
advert_header ours dst = record { src_addr = ours.ipv6_addr; dst_addr = dst; next_header = protocol.Icmpv6; payload_len = 0; hop_limit = 255 }

-- A frame with these values asks for our IPv6 address, and the other frame is the reply to it, which names our
-- hardware address.
pub record IsNeighbourReply (ours : Interface) (asked_header : EthernetRepr) (asked : Carried) (header : EthernetRepr) (carried : Carried) : Type 0 where
  pub ip : Ipv6Repr
  pub request : List ℕ
  pub named : Option EthernetAddress
  pub hardware : EthernetAddress
  pub dst : List ℕ
  pub solicited : Bool
  pub asks : asked ≡ packet (Ipv6 ip) (other request)
  pub for_us : IsSolicited ours asked_header ip
  pub reads : Reads request ip.src_addr ip.dst_addr ip.hop_limit true (NeighborSolicit ours.ipv6_addr named)
  pub to : IsAnsweredTo ours asked_header ip named hardware dst solicited
  pub link : header ≡ record { src_addr = ours.hardware_addr; dst_addr = hardware; ethertype = ethertype.Ipv6 }
  pub tells : carried ≡ (let bytes = bytes_of (advert_of ours solicited) ours.ipv6_addr dst true in
      packet (Ipv6 (record (advert_header ours dst) { payload_len = length bytes })) (other bytes))

-- the values of our advertisement in reply to a frame
abbrev pub AdvertisesFrame : Interface → Frame → EthernetRepr → Carried → Type 0
AdvertisesFrame ours request header carried =
    (asked : Carried) × (carried_of request.carried ≡ Some asked) × IsNeighbourReply ours request.header asked header carried
