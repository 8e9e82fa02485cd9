-- The reply to an ARP request (RFC 826).
-- Pinned by: `RepliesOnce`, `tests/frames/host_lines.py`, `calls/worked_replies`
use Rattle.std.specs.Prelude.{◌≡◌, List, ℕ, Some}
use Rattle.ip_wire.specs.Frame.{Carried, IsReadWhole, message}
use Rattle.ip_wire.specs.FrameValue.{carried_of}
use Rattle.ip_wire.specs.declared.ArpOperation.TheVariants.{Request, Reply}
use Rattle.ip_wire.specs.Types.{ArpRepr, EthernetAddress, EthernetRepr}
use Rattle.ip_wire.specs.declared.ArpRepr.TheVariants.{EthernetIpv4}
use Rattle.ip_wire.specs.declared.EthernetProtocol.TheVariants as ethertype
use Rattle.ip_wire.specs.declared.Frame.{Frame}
use Rattle.ip_wire.specs.declared.IpAddress.TheVariants.{Ipv4}
use Rattle.app_host.specs.Source.{IsAsker, IsOurs}
use Rattle.app_host.specs.declared.interface.Interface.{Interface}

-- A host asks for our address, with any target hardware address, and the reply names our hardware address. A host
-- that uses our address itself gets no reply (RFC 5227, section 2.4).
pub record IsArpReply (ours : Interface) (request : ArpRepr) (asker : EthernetAddress) (reply : ArpRepr) : Type 0 where
  pub asker_addr : List ℕ
  pub asked : EthernetAddress
  pub asks : request ≡ EthernetIpv4 Request asker asker_addr asked ours.ipv4_addr
  pub own : IsOurs ours (Ipv4 ours.ipv4_addr)
  pub from_asker : IsAsker ours asker asker_addr
  pub tells : reply ≡ EthernetIpv4 Reply ours.hardware_addr ours.ipv4_addr asker asker_addr

-- a frame with these values is an ARP request for our address, and the other frame is the reply to it
pub record IsArpAnswer (ours : Interface) (asked : Carried) (header : EthernetRepr) (carried : Carried) : Type 0 where
  pub request : ArpRepr
  pub asker : EthernetAddress
  pub reply : ArpRepr
  pub asks : asked ≡ message request
  pub replies : IsArpReply ours request asker reply
  pub link : header ≡ record { src_addr = ours.hardware_addr; dst_addr = asker; ethertype = ethertype.Arp }
  pub carries : carried ≡ message reply

-- the values of our ARP reply to a frame
abbrev pub ArpRepliesFrame : Interface → Frame → EthernetRepr → Carried → Type 0
ArpRepliesFrame ours request header carried = (asked : Carried) × (carried_of request.carried ≡ Some asked) × IsArpAnswer ours asked header carried

-- the values of our ARP reply to the frame that the bytes parse as
abbrev pub ArpRepliesBytes : Interface → List ℕ → EthernetRepr → Carried → Type 0
ArpRepliesBytes ours bytes header carried =
    (asked_header : EthernetRepr) × (asked : Carried) × IsReadWhole bytes asked_header asked × IsArpAnswer ours asked header carried
