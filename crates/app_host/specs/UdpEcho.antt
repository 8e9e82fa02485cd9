-- The echo service of UDP (RFC 862).
-- Pinned by: `calls/worked_replies`, `RepliesOnce`, `tests/frames/host_lines.py`
use Rattle.std.specs.Prelude.{ℕ, ◌≡◌, ◌<◌, ◌≤◌, ◌+◌, List, Some, length}
use Rattle.ip_wire.specs.Frame.{Carried, IsReadWhole, datagram, packet, type_of}
use Rattle.ip_wire.specs.FrameValue.{carried_of}
use Rattle.ip_wire.specs.Ip.{header_before, max_payload_len}
use Rattle.ip_wire.specs.Types.{EthernetRepr, IpRepr, UdpRepr}
use Rattle.ip_wire.specs.declared.Frame.{Frame}
use Rattle.ip_wire.specs.declared.IpProtocol.TheVariants as protocol
use Rattle.app_host.specs.Interface.{IsForUs, header_back}
use Rattle.app_host.specs.declared.interface.Interface.{Interface}

-- A frame with these values is a UDP packet for our echo port, and the other frame is its echo. A packet from a port
-- below 1024 may be the answer of a service (RFC 862 to 868), and one from a port that is not above ours the echo of
-- another host, so they get no echo.
pub record IsEcho (ours : Interface) (port : ℕ) (asked_header : EthernetRepr) (asked : Carried) (header : EthernetRepr) (carried : Carried) : Type 0 where
  pub ip : IpRepr
  pub udp : UdpRepr
  pub payload : List ℕ
  pub asks : asked ≡ packet ip (datagram udp payload)
  pub for_us : IsForUs ours asked_header ip
  pub to_port : udp.dst_port ≡ port
  pub from_user : 1024 ≤ udp.src_port
  pub from_above : port < udp.src_port
  pub fits : 8 + length payload ≤ max_payload_len ip
  pub link : header ≡ record { src_addr = ours.hardware_addr; dst_addr = asked_header.src_addr; ethertype = type_of ip }
  pub echoes : carried ≡ packet (header_before (header_back ip) protocol.Udp (8 + length payload)) (datagram (record { src_port = udp.dst_port; dst_port = udp.src_port }) payload)

-- the values of the echo of a frame
abbrev pub EchoesFrame : Interface → ℕ → Frame → EthernetRepr → Carried → Type 0
EchoesFrame ours port request header carried =
    (asked : Carried) × (carried_of request.carried ≡ Some asked) × IsEcho ours port request.header asked header carried

-- the values of the echo of the frame that the bytes parse as
abbrev pub EchoesBytes : Interface → ℕ → List ℕ → EthernetRepr → Carried → Type 0
EchoesBytes ours port bytes header carried =
    (asked_header : EthernetRepr) × (asked : Carried) × IsReadWhole bytes asked_header asked × IsEcho ours port asked_header asked header carried
