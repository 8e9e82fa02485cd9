-- Frames that are put together agree and fit.
use Rattle.std.proofs.Common.{◌≤◌, refl}
use Rattle.ip_wire.specs.FrameValue.{Agrees, Fits, FitsTransport, NamesTransport, frame_around, protocol_before, transport_len}
use Rattle.ip_wire.specs.declared.frame.transport.Transport.{Transport}
use Rattle.ip_wire.specs.Types.{EthernetAddress, IpRepr, Ipv4, Ipv6}
use Rattle.wire_ip.specs.Ip.{header_before, max_payload_len}

-- the header names the transport, so the layers agree
pub agrees-around : (src dst : EthernetAddress) (v : IpRepr) (t : Transport) → NamesTransport (header_before v (protocol_before v t) (transport_len t)) t
    → Agrees (frame_around src dst v t)
agrees-around src dst (Ipv4 v) t h = (refl, h)
agrees-around src dst (Ipv6 v) t h = (refl, h)

-- the transport is no longer than the header can say, so the frame fits
pub fits-around : (src dst : EthernetAddress) (v : IpRepr) (t : Transport) → transport_len t ≤ max_payload_len v → FitsTransport t → Fits (frame_around src dst v t)
fits-around src dst (Ipv4 v) t len h = (len, h)
fits-around src dst (Ipv6 v) t len h = (len, h)
