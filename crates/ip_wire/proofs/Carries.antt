-- The contents of a frame whose values are those of a UDP or TCP packet.
use Rattle.std.proofs.Common.{ℕ, ◌≡◌, List, Some}
use Rattle.ip_wire.specs.Frame as frame
use Rattle.ip_wire.specs.FrameValue.{carried_of}
use Rattle.wire_tcp.specs.TcpRepr.{TcpHeader, header_of}
use Rattle.ip_wire.specs.declared.frame.carried.Carried.{Carried}
use Rattle.ip_wire.specs.declared.frame.carried.Carried.TheVariants as carried
use Rattle.ip_wire.specs.Types.{IpRepr}
use Rattle.wire_tcp.specs.declared.TcpRepr.{TcpRepr}
use Rattle.ip_wire.specs.declared.frame.transport.Transport.TheVariants as transport

-- a frame with the values of a TCP segment carries a TCP segment
pub carries_tcp : (c : Carried) (ip : IpRepr) (tcp : TcpHeader) (octets : List ℕ) → carried_of c ≡ Some (frame.packet ip (frame.segment tcp octets))
    → (value : TcpRepr) × (c ≡ carried.Packet ip (transport.Tcp value)) × (header_of value ≡ tcp) × (value.payload.now ≡ octets)
carries_tcp (carried.Packet v (transport.Tcp u)) ip tcp octets e = (u, cc, cc, cc)
carries_tcp _ ip tcp octets e = absurd (cc)
