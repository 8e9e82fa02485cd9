-- Frames that go out and come in by a table of mappings (RFC 3022, section 4.1; RFC 4787; RFC 5508).
-- Pinned by: `worked/mappings`, `worked/nat`
use Rattle.std.specs.Prelude.{ℕ, ◌≡◌, ◌≢◌, ◌<◌, ◌⊎◌, List, ⊤}
use Rattle.app_nat.specs.State.{protocol_of}
use Rattle.app_nat.specs.Table.{Finds, IsFull, MapsTo, Opens, mapping_at}
use Rattle.app_nat.specs.declared.state.Event.{Event}
use Rattle.app_nat.specs.declared.state.Event.TheVariants as event
use Rattle.app_nat.specs.declared.mapping.Ipv4Endpoint.{Ipv4Endpoint}
use Rattle.app_nat.specs.declared.mapping.Mapping.{Mapping}
use Rattle.app_nat.specs.declared.nat.Nat.{Nat}
use Rattle.app_nat.specs.declared.state.Protocol.{Protocol}
use Rattle.app_nat.specs.declared.state.Protocol.TheVariants.{Icmp}
use Rattle.app_nat.specs.Errors.{ErrorComesIn, ErrorGoesOut, IsErrorKeptInside, IsErrorKeptOutside}
use Rattle.app_nat.specs.Nat.{IsPacket, IsRejected, IsTranslated}
use Rattle.app_nat.specs.declared.translation.Rejection.{Rejection}
use Rattle.app_nat.specs.declared.translation.Rejection.TheVariants.{OtherProtocol, ZeroPort, NoMapping, NoFreePort}
use Rattle.app_edit.specs.declared.side.Side.TheVariants.{Source, Destination}
use Rattle.app_nat.specs.declared.packet.Kind.{Kind}
use Rattle.app_nat.specs.declared.packet.Kind.TheVariants as kind
use Rattle.app_nat.specs.declared.packet.Packet.{Packet}

-- ---- packets

-- the endpoint that sent a packet
abbrev pub source_of : Packet → Ipv4Endpoint
source_of p = record { addr = p.header.src_addr; port = p.src_port }

-- the endpoint that a packet is sent to
abbrev pub destination_of : Packet → Ipv4Endpoint
destination_of p = record { addr = p.header.dst_addr; port = p.dst_port }

-- the event of a packet of this kind
abbrev pub event_by : Kind → Event
event_by kind.Udp = event.Udp
event_by (kind.Tcp control) = event.Tcp control
event_by kind.EchoRequest = event.Icmp
event_by kind.EchoReply = event.Icmp

-- the event of a packet: all that the table looks at
abbrev pub event_of : Packet → Event
event_of p = event_by p.kind

-- the protocol of a packet
abbrev pub flow_protocol : Packet → Protocol
flow_protocol p = protocol_of (event_of p)

-- ---- frames that go out

-- An answer can come to a packet of this kind with this source port: to an echo request with any identifier, to no
-- echo reply, and to a UDP or TCP packet unless its source port is 0.
abbrev pub AnswerReaches : Kind → ℕ → Type 0
AnswerReaches kind.EchoRequest port = ⊤
AnswerReaches kind.EchoReply port = ⊥
AnswerReaches _ port = port ≢ 0

-- an answer can come to this packet
abbrev pub IsAnswerable : Packet → Type 0
IsAnswerable p = AnswerReaches p.kind p.src_port

-- the reason why no answer can come to a packet
abbrev pub IsUnanswerable : Packet → Rejection → Type 0
IsUnanswerable p ZeroPort = (flow_protocol p ≢ Icmp) × (p.src_port ≡ 0)
IsUnanswerable p NoMapping = p.kind ≡ kind.EchoReply
IsUnanswerable p _ = ⊥

-- The frame goes out: it carries this packet, the table gives its source this outside port, and the outside address and the
-- port replace the source.
pub record PacketGoesOut (nat : Nat) (old new : List Mapping) (now : ℕ) (before after : List ℕ) : Type 0 where
  pub packet : Packet
  pub carries : IsPacket before packet
  pub answerable : IsAnswerable packet
  pub port : ℕ
  pub opens : Opens nat old new now (event_of packet) (source_of packet) (destination_of packet) port
  pub translated : IsTranslated before after Source nat.outside port

-- the source of the packet has no outside port, and none is free for it
pub record HasNoPort (nat : Nat) (mappings : List Mapping) (now : ℕ) (frame : List ℕ) : Type 0 where
  pub packet : Packet
  pub carries : IsPacket frame packet
  pub answerable : IsAnswerable packet
  pub full : IsFull nat mappings now (flow_protocol packet) (source_of packet)

-- the frame carries a packet to which no answer can come, for this reason
pub record GetsNoAnswer (frame : List ℕ) (reason : Rejection) : Type 0 where
  pub packet : Packet
  pub carries : IsPacket frame packet
  pub unanswerable : IsUnanswerable packet reason

-- the reason why a packet does not go out
abbrev pub IsPacketKeptInside : Nat → List Mapping → ℕ → List ℕ → Rejection → Type 0
IsPacketKeptInside nat mappings now frame reason =
    IsRejected frame reason ⊎ (GetsNoAnswer frame reason ⊎ ((reason ≡ NoFreePort) × HasNoPort nat mappings now frame))

-- ---- frames that come in

-- The frame comes in: it carries this packet for the outside address, which is no echo request, the table has this inside
-- endpoint for its port, and the inside endpoint replaces the destination.
pub record PacketComesIn (nat : Nat) (old new : List Mapping) (now : ℕ) (before after : List ℕ) : Type 0 where
  pub packet : Packet
  pub carries : IsPacket before packet
  pub outside : packet.header.dst_addr ≡ nat.outside
  pub no_request : packet.kind ≢ kind.EchoRequest
  pub inside : Ipv4Endpoint
  pub finds : Finds nat old new now (event_of packet) packet.dst_port (source_of packet) inside
  pub translated : IsTranslated before after Destination inside.addr inside.port

-- the packet is not for the outside address, or it is an echo request, or no live mapping has its port
pub record IsUnmappedFrame (nat : Nat) (mappings : List Mapping) (now : ℕ) (frame : List ℕ) : Type 0 where
  pub packet : Packet
  pub carries : IsPacket frame packet
  pub unmapped : packet.header.dst_addr ≡ nat.outside → packet.kind ≢ kind.EchoRequest → (inside : Ipv4Endpoint) → ¬ MapsTo nat mappings now (flow_protocol packet) packet.dst_port inside

-- the UDP or TCP packet is for an outside port that is mapped to port 0, which translate_out never does
pub record LeadsToZero (nat : Nat) (old new : List Mapping) (now : ℕ) (frame : List ℕ) : Type 0 where
  pub packet : Packet
  pub carries : IsPacket frame packet
  pub outside : packet.header.dst_addr ≡ nat.outside
  pub no_echo : flow_protocol packet ≢ Icmp
  pub inside : Ipv4Endpoint
  pub finds : Finds nat old new now (event_of packet) packet.dst_port (source_of packet) inside
  pub zero : inside.port ≡ 0

-- the reason why a packet does not come in, and what happens to the table
abbrev pub IsPacketKeptOutside : Nat → List Mapping → List Mapping → ℕ → List ℕ → Rejection → Type 0
IsPacketKeptOutside nat old new now frame reason =
    (IsRejected frame reason ⊎ ((reason ≡ NoMapping) × IsUnmappedFrame nat old now frame)) × (new ≡ old)
    ⊎ (reason ≡ ZeroPort) × LeadsToZero nat old new now frame

-- ---- all frames

-- The frame goes out: its packet does, or it carries an ICMP error that goes out. An error leaves the table
-- unchanged.
abbrev pub GoesOut : Nat → List Mapping → List Mapping → ℕ → List ℕ → List ℕ → Type 0
GoesOut nat old new now before after =
    PacketGoesOut nat old new now before after ⊎ (IsRejected before OtherProtocol × ErrorGoesOut nat old now before after × (new ≡ old))

-- the reason why a frame does not go out: that of its packet, or that of the ICMP error that it carries
abbrev pub IsKeptInside : Nat → List Mapping → ℕ → List ℕ → Rejection → Type 0
IsKeptInside nat mappings now frame reason =
    (reason ≢ OtherProtocol) × IsPacketKeptInside nat mappings now frame reason
    ⊎ IsRejected frame OtherProtocol × IsErrorKeptInside nat mappings now frame reason

-- The frame comes in: its packet does, or it carries an ICMP error that comes in. An error leaves the table
-- unchanged.
abbrev pub ComesIn : Nat → List Mapping → List Mapping → ℕ → List ℕ → List ℕ → Type 0
ComesIn nat old new now before after =
    PacketComesIn nat old new now before after ⊎ (IsRejected before OtherProtocol × ErrorComesIn nat old now before after × (new ≡ old))

-- the reason why a frame does not come in: that of its packet, or that of the ICMP error that it carries; and what
-- happens to the table
abbrev pub IsKeptOutside : Nat → List Mapping → List Mapping → ℕ → List ℕ → Rejection → Type 0
IsKeptOutside nat old new now frame reason =
    (reason ≢ OtherProtocol) × IsPacketKeptOutside nat old new now frame reason
    ⊎ IsRejected frame OtherProtocol × IsErrorKeptOutside nat old now frame reason × (new ≡ old)

-- no live mapping of UDP or TCP leads to port 0; one of ICMP may lead to the identifier 0
abbrev pub LeadsToPorts : Nat → List Mapping → ℕ → Type 0
LeadsToPorts nat mappings now =
    (protocol : Protocol) (port : ℕ) (inside : Ipv4Endpoint) → protocol ≢ Icmp → MapsTo nat mappings now protocol port inside → inside.port ≢ 0

-- ---- answers

-- the mapping of this port has not expired
abbrev pub IsLive : Nat → List Mapping → ℕ → Protocol → ℕ → Type 0
IsLive nat mappings now protocol port = now < (mapping_at nat mappings protocol port).expires

-- Any packets pass through the NAT, from this table on, until it is the last one. Each comes before the mapping of this port
-- expires. ICMP errors leave a table as it is.
pub data Passes (nat : Nat) (protocol : Protocol) (port : ℕ) (last : List Mapping) : List Mapping → Type 0 where
  passes_none : Passes nat protocol port last last
  passes_out : (old new : List Mapping) (now : ℕ) (before after : List ℕ) → IsLive nat old now protocol port → PacketGoesOut nat old new now before after
      → Passes nat protocol port last new → Passes nat protocol port last old
  passes_in : (old new : List Mapping) (now : ℕ) (before after : List ℕ) → IsLive nat old now protocol port → PacketComesIn nat old new now before after
      → Passes nat protocol port last new → Passes nat protocol port last old
  bounces : (old new : List Mapping) (now : ℕ) (frame : List ℕ) → IsLive nat old now protocol port → LeadsToZero nat old new now frame
      → Passes nat protocol port last new → Passes nat protocol port last old

-- A frame answers another one, which went out: it is for the source that this one then had, by the same protocol, and no echo
-- request. Any frames may have passed since, and the mapping has not expired.
pub record IsAnswer (nat : Nat) (mappings later : List Mapping) (now : ℕ) (sent answer : List ℕ) : Type 0 where
  pub packet : Packet
  pub carries : IsPacket sent packet
  pub reply : Packet
  pub replies : IsPacket answer reply
  pub to : destination_of reply ≡ source_of packet
  pub protocol : flow_protocol reply ≡ flow_protocol packet
  pub no_request : reply.kind ≢ kind.EchoRequest
  pub passes : Passes nat (flow_protocol packet) packet.src_port later mappings
  pub live : IsLive nat later now (flow_protocol packet) packet.src_port
