-- The values of a parsed frame, of its packet, and of a packet without a frame.
-- Pinned by: `apps/hop_guard`, `wire/frame`
use Rattle.std.specs.Prelude.{◌≡◌, List, ℕ, Option, Some, None, Result, Ok, Err}
use Rattle.std.specs.Option.{option_and_then}
use Rattle.ip_wire.specs.Frame.{Carried, ReadsCarried, Transport, frame_of, message, packet, type_of}
use Rattle.ip_wire.specs.FrameValue.{carried_of, transport_of}
use Rattle.ip_wire.specs.Types.{EthernetRepr, IpRepr}
use Rattle.ip_wire.specs.declared.frame.Frame.{Frame}
use Rattle.ip_wire.specs.declared.frame.packet.Packet.{Packet}
use Rattle.ip_wire.specs.declared.frame.transport.Transport as value
use Rattle.net_base.specs.declared.ChecksumCapabilities.{ChecksumCapabilities}

-- the two headers and the transport in the values of a frame; ARP has none
abbrev pub packet_in : EthernetRepr × Carried → Option (EthernetRepr × IpRepr × Transport)
packet_in (link, packet v t) = Some (link, v, t)
packet_in (link, message v) = None

-- the two headers and the transport that a frame parses as, if it parses
abbrev pub packet_of : ChecksumCapabilities → List ℕ → Option (EthernetRepr × IpRepr × Transport)
packet_of caps frame = option_and_then packet_in (frame_of caps frame)

-- the result is a frame with these values, or an error if there are none
abbrev pub IsFrame : {E : Type 0} → Option (EthernetRepr × Carried) → Result Frame E → Type 0
IsFrame found (Ok f) = (c : Carried) × (carried_of f.carried ≡ Some c) × (found ≡ Some (f.header, c))
IsFrame found (Err e) = found ≡ None

-- the result is this packet, or an error if there is none
abbrev pub IsPacket : {E : Type 0} → Option (EthernetRepr × IpRepr × Transport) → Result (EthernetRepr × IpRepr × value.Transport) E → Type 0
IsPacket found (Ok (link, v, inner)) = (t : Transport) × (transport_of inner ≡ Some t) × (found ≡ Some (link, v, t))
IsPacket found (Err e) = found ≡ None

-- ---- without a frame

-- the bytes parse as this packet, by the rules of the version of its header
abbrev pub ParsesPacket : ChecksumCapabilities → List ℕ → Packet → Type 0
ParsesPacket caps bytes p =
    (t : Transport) × (transport_of p.inner ≡ Some t) × ReadsCarried caps (type_of p.header) bytes (packet p.header t)

-- the result is a packet of this header and this transport
abbrev pub GivesPacket : {E : Type 0} → Result Packet E → IpRepr → Transport → Type 0
GivesPacket (Ok p) v t = (p.header ≡ v) × (transport_of p.inner ≡ Some t)
GivesPacket (Err e) v t = ⊥
