-- The replies of a host with one interface to frames.
-- Pinned by: `HostOnce`, `tests/frames/host_lines.py`, `calls/worked_replies`
use Rattle.std.specs.Prelude.{ℕ, ◌≡◌, ◌⊎◌, Contains, List, Some, false}
use Rattle.app_host.specs.declared.host.Host.{Host}
use Rattle.app_host.specs.Arp.{IsArpAnswer}
use Rattle.app_host.specs.IcmpEcho.{IsIcmpEcho}
use Rattle.app_host.specs.IcmpError.{IsError}
use Rattle.app_host.specs.Interface.{IsForUs}
use Rattle.app_host.specs.Neighbour.{IsNeighbourReply}
use Rattle.app_host.specs.ParameterProblem.{IsParameterProblem}
use Rattle.app_host.specs.Skipped.{without_extensions}
use Rattle.app_host.specs.TcpReply.{IsTcpReply}
use Rattle.app_host.specs.UdpEcho.{IsEcho}
use Rattle.ip_wire.specs.Field.{field}
use Rattle.ip_wire.specs.Frame.{Carried, IsReadWhole, datagram, other, packet, segment}
use Rattle.ip_wire.specs.FrameValue.{carried_of}
use Rattle.ip_wire.specs.Ip.{next_header_of, version_of}
use Rattle.ip_wire.specs.TcpRepr.{TcpHeader}
use Rattle.ip_wire.specs.Types.{EthernetRepr, IpRepr, UdpRepr}
use Rattle.ip_wire.specs.declared.Frame.{Frame}
use Rattle.ip_wire.specs.declared.TcpControl.TheVariants as control
use Rattle.wire_icmp.specs.Icmp.{is_query, protocol_of}
use Rattle.wire_icmp.specs.declared.IcmpRepr.TheVariants.{DstUnreachable}
use Rattle.wire_icmp.specs.declared.Unreachable.TheVariants as unreachable

-- the host serves this UDP port: it is the echo port or another open port
abbrev pub IsServed : Host → ℕ → Type 0
IsServed host port = (port ≡ host.echo_port) ⊎ Contains host.open_udp_ports.now port

-- A frame with these values and bytes is a UDP packet for this host, to a port that it does not serve. The other
-- frame is the "port unreachable" error about it (RFC 1122, section 4.1.3.1; RFC 4443, section 3.1).
pub record IsPortUnreachable (host : Host) (bytes : List ℕ) (asked_header : EthernetRepr) (asked : Carried) (header : EthernetRepr) (carried : Carried) : Type 0 where
  pub ip : IpRepr
  pub udp : UdpRepr
  pub payload : List ℕ
  pub asks : asked ≡ packet ip (datagram udp payload)
  pub for_us : IsForUs host.interface asked_header ip
  pub closed : ¬ IsServed host udp.dst_port
  pub tells : IsError host.interface bytes (DstUnreachable unreachable.Port) header carried

-- A frame with these values is an ARP request, a UDP packet for the echo port or a TCP segment, for this host. The
-- other frame is the reply to it.
abbrev pub IsFrameReply : Host → EthernetRepr → Carried → EthernetRepr → Carried → Type 0
IsFrameReply host asked_header asked header carried =
    IsArpAnswer host.interface asked header carried
    ⊎ (IsEcho host.interface host.echo_port asked_header asked header carried
    ⊎ IsTcpReply host.interface host.open_ports.now host.offer asked_header asked header carried)

-- A frame with these values is an echo request, a neighbour solicitation, a UDP packet to a closed port or a packet with a
-- fault in its extension headers, for this host. The other frame is the reply to it.
abbrev pub IsMessageReply : Host → List ℕ → EthernetRepr → Carried → EthernetRepr → Carried → Type 0
IsMessageReply host bytes asked_header asked header carried =
    IsIcmpEcho host.interface asked_header asked header carried
    ⊎ (IsNeighbourReply host.interface asked_header asked header carried
    ⊎ (IsPortUnreachable host bytes asked_header asked header carried
    ⊎ IsParameterProblem host.interface bytes asked header carried))

-- the values of the host's reply to an ARP request, a UDP packet for the echo port or a TCP segment in a frame
abbrev pub RepliesFrame : Host → Frame → EthernetRepr → Carried → Type 0
RepliesFrame host request header carried =
    (asked : Carried) × (carried_of request.carried ≡ Some asked) × IsFrameReply host request.header asked header carried

-- the values of the host's reply with a message to a frame
abbrev pub RepliesMessage : Host → List ℕ → Frame → EthernetRepr → Carried → Type 0
RepliesMessage host bytes request header carried =
    (asked : Carried) × (carried_of request.carried ≡ Some asked) × IsMessageReply host bytes request.header asked header carried

-- the values of the host's "port unreachable" error about a UDP packet in a frame
abbrev pub UnreachableFrame : Host → List ℕ → Frame → EthernetRepr → Carried → Type 0
UnreachableFrame host bytes request header carried =
    (asked : Carried) × (carried_of request.carried ≡ Some asked) × IsPortUnreachable host bytes request.header asked header carried

-- the second frame is the host's reply to a frame with these values and bytes
abbrev pub IsReply : Host → List ℕ → EthernetRepr → Carried → EthernetRepr → Carried → Type 0
IsReply host bytes asked_header asked header carried =
    IsFrameReply host asked_header asked header carried ⊎ IsMessageReply host bytes asked_header asked header carried

-- The values of the host's reply to the frame that the bytes parse as. If the host skips the extension headers of its packet,
-- that is the reply to the same packet without them. An error quotes the packet with them.
abbrev pub RepliesBytes : Host → List ℕ → EthernetRepr → Carried → Type 0
RepliesBytes host bytes header carried =
    (asked_header : EthernetRepr) × (asked : Carried) × IsReadWhole (without_extensions bytes) asked_header asked × IsReply host bytes asked_header asked header carried

-- if the bytes parse as a UDP packet, the host serves the port that it goes to
abbrev pub ServesPortOf : Host → List ℕ → Type 0
ServesPortOf host bytes =
    (header : EthernetRepr) (ip : IpRepr) (udp : UdpRepr) (payload : List ℕ)
    → IsReadWhole bytes header (packet ip (datagram udp payload)) → IsServed host udp.dst_port

-- the bytes do not parse as a frame with valid checksums
abbrev pub IsUnread : List ℕ → Type 0
IsUnread bytes = (header : EthernetRepr) (carried : Carried) → ¬ IsReadWhole bytes header carried

-- the second bytes parse as the host's reply to the first
pub record Answers (host : Host) (bytes answer : List ℕ) : Type 0 where
  pub header : EthernetRepr
  pub carried : Carried
  pub replies : RepliesBytes host bytes header carried
  pub reads : IsReadWhole answer header carried

-- the bytes parse as a TCP segment
abbrev pub IsSegment : List ℕ → Type 0
IsSegment bytes =
    (header : EthernetRepr) × (ip : IpRepr) × (tcp : TcpHeader) × (payload : List ℕ) × IsReadWhole bytes header (packet ip (segment tcp payload))

-- the bytes parse as a TCP segment with the flag RST
pub record IsReset (bytes : List ℕ) : Type 0 where
  pub header : EthernetRepr
  pub ip : IpRepr
  pub tcp : TcpHeader
  pub payload : List ℕ
  pub reads : IsReadWhole bytes header (packet ip (segment tcp payload))
  pub reset : tcp.control ≡ control.Rst

-- the bytes parse as an ICMP error: a message whose type is that of no query
pub record IsErrorMessage (bytes : List ℕ) : Type 0 where
  pub header : EthernetRepr
  pub ip : IpRepr
  pub message : List ℕ
  pub reads : IsReadWhole bytes header (packet ip (other message))
  pub protocol : next_header_of ip ≡ protocol_of (version_of ip)
  pub error : is_query (version_of ip) (field message 0 8) ≡ false

-- the bytes parse as a TCP segment with the flag RST, or as an ICMP error
abbrev pub IsFinal : List ℕ → Type 0
IsFinal bytes = IsReset bytes ⊎ IsErrorMessage bytes
