-- ICMP errors over IPv4, and the packet that they quote (RFC 5508, section 4; RFC 3022, section 4.3).
-- Pinned by: `worked/nat`, `worked/mappings`
use Rattle.std.specs.Prelude.{ℕ, ◌≡◌, ◌↔◌, ◌+◌, ◌-◌, ◌≤◌, ◌++◌, ◌⊎◌, ◌==◌, ◌||◌, ◌&&◌, not, nat_le, nat_lt, if◌then◌else◌, is_some, Bool, true, List, Option, Some, None, length, drop, take}
use Rattle.app_nat.specs.Table.{IsUnmapped, MapsTo}
use Rattle.app_nat.specs.declared.mapping.Ipv4Endpoint.{Ipv4Endpoint}
use Rattle.app_nat.specs.declared.mapping.Mapping.{Mapping}
use Rattle.app_nat.specs.declared.nat.Nat.{Nat}
use Rattle.app_nat.specs.declared.state.Protocol.{Protocol}
use Rattle.app_nat.specs.declared.state.Protocol.TheVariants as flow
use Rattle.ip_wire.specs.Field.{field, with_field}
use Rattle.ip_wire.specs.Frame.{ReadsPacket, all_checked, ipv4_payload}
use Rattle.ip_wire.specs.Ipv4 as ipv4
use Rattle.ip_wire.specs.Ipv4.{fragment_offset, header_len}
use Rattle.ip_wire.specs.Protocol.{protocol_of}
use Rattle.ip_wire.specs.WordSum.{sum_of_bytes}
use Rattle.ip_wire.specs.Types.{EthernetRepr, IpProtocol, Ipv4, Ipv4Repr}
use Rattle.ip_wire.specs.declared.IpProtocol.TheVariants as protocol
use Rattle.ip_wire.specs.declared.IpVersion.TheVariants as version
use Rattle.wire_icmp.specs.Icmp as icmp
use Rattle.app_edit.specs.Layout.{with_payload}
use Rattle.app_edit.specs.Sides.{opposite}
use Rattle.app_nat.specs.Nat.{IsIpv4Frame, addr_at, frame_fault, is_message, port_bit, with_addr, with_address, with_tcp_end, with_udp_end}
use Rattle.app_nat.specs.declared.errors.Quoted.{Quoted}
use Rattle.app_nat.specs.declared.translation.Rejection.{Rejection}
use Rattle.app_nat.specs.declared.translation.Rejection.TheVariants.{OtherProtocol, BadTransport, NoMapping}
use Rattle.app_edit.specs.declared.side.Side.{Side}
use Rattle.app_edit.specs.declared.side.Side.TheVariants.{Source, Destination}

-- ---- the quoted packet

-- a message of this ICMP type reports an error: destination unreachable, time exceeded or parameter problem (RFC 792)
abbrev pub is_error : ℕ → Bool
is_error type = type == 3 || (type == 11 || type == 12)

-- the type of the echo message whose identifier the host on this side chose: the source of a request, the destination of a reply
abbrev pub echo_type : Side → ℕ
echo_type Source = 8
echo_type Destination = 0

-- the bytes after the header of a quoted packet
abbrev pub after_header : List ℕ → List ℕ
after_header bytes = drop (header_len bytes) bytes

-- the protocol of a quoted packet, by the protocol of its header and the first byte after it
abbrev pub flow_by : Side → IpProtocol → ℕ → Option Protocol
flow_by side protocol.Udp type = Some flow.Udp
flow_by side protocol.Tcp type = Some flow.Tcp
flow_by side protocol.Icmp type = if type == echo_type side then Some flow.Icmp else None
flow_by side _ type = None

-- the first bit of the port on this side, or of the identifier of an echo message
abbrev pub end_bit : Protocol → Side → ℕ
end_bit flow.Udp side = port_bit side
end_bit flow.Tcp side = port_bit side
end_bit flow.Icmp side = 32

-- The bytes begin with a packet of this protocol from or to this endpoint, as an error quotes it: at least its IPv4
-- header and 8 bytes. The checksum of the header may be wrong, since some routers lower the hop limit and quote the
-- old checksum. Only a first fragment has ports.
pub record Quotes (side : Side) (bytes : List ℕ) (q : Quoted) : Type 0 where
  pub version : field bytes 0 4 ≡ 4
  pub header : 20 ≤ header_len bytes
  pub room : header_len bytes + 8 ≤ length bytes
  pub first : fragment_offset bytes ≡ 0
  pub flow : flow_by side (protocol_of (field bytes 72 8)) (field (after_header bytes) 0 8) ≡ Some q.protocol
  pub addr : q.end.addr ≡ addr_at side bytes
  pub port : q.end.port ≡ field (after_header bytes) (end_bit q.protocol side) 16

-- ---- frames

-- the bytes that an ICMP error in this IPv4 packet quotes: they follow the 8 bytes of the ICMP header
abbrev pub quoted_of : List ℕ → List ℕ
quoted_of packet = drop 8 (ipv4_payload packet)

-- the bytes are an ICMP error with a valid checksum that quotes this packet
pub record Reports (side : Side) (bytes : List ℕ) (q : Quoted) : Type 0 where
  pub error : is_error (field bytes 0 8) ≡ true
  pub checksum : sum_of_bytes bytes ≡ 65535
  pub quotes : Quotes side (drop 8 bytes) q

-- The frame carries an ICMP error with this IPv4 header, no fragment, that quotes this packet. The checksums of the IPv4 header
-- and of the error are valid.
pub record CarriesError (side : Side) (frame : List ℕ) (header : Ipv4Repr) (q : Quoted) : Type 0 where
  pub link : EthernetRepr
  pub is : IsIpv4Frame frame link
  pub reads : ReadsPacket all_checked (drop 14 frame) (Ipv4 header)
  pub names : header.next_header ≡ protocol.Icmp
  pub reports : Reports side (ipv4_payload (drop 14 frame)) q

-- the bytes begin with an IPv4 header and 8 bytes after it, the least that an ICMP error quotes (RFC 792)
abbrev pub quotes_enough : List ℕ → Bool
quotes_enough bytes = field bytes 0 4 == 4 && nat_le 20 (header_len bytes) && nat_le (header_len bytes + 8) (length bytes)

-- the quoted packet is no later fragment, and has a port on this side, so that a mapping can be its own
abbrev pub quotes_port : Side → List ℕ → Bool
quotes_port side bytes =
    fragment_offset bytes == 0 && is_some (flow_by side (protocol_of (field bytes 72 8)) (field (after_header bytes) 0 8))

-- why what an ICMP error quotes is not translated: it is less than an IPv4 header and 8 bytes, or another packet
abbrev pub quoted_fault : Side → List ℕ → Option Rejection
quoted_fault side bytes =
    if not (quotes_enough bytes) then Some BadTransport else if quotes_port side bytes then None else Some NoMapping

-- why an ICMP message is no error that quotes such a packet, if it is none: it is another message, is too short or has a
-- wrong checksum, or for what it quotes
abbrev pub icmp_fault : Side → List ℕ → Option Rejection
icmp_fault side bytes =
    if not (is_error (field bytes 0 8)) then Some OtherProtocol
    else if is_message bytes then quoted_fault side (drop 8 bytes)
    else Some BadTransport

-- why the payload of a packet of this protocol is no ICMP error that quotes such a packet, if it is none
abbrev pub message_fault_by : Side → IpProtocol → List ℕ → Option Rejection
message_fault_by side protocol.Icmp bytes = icmp_fault side bytes
message_fault_by side _ bytes = Some OtherProtocol

-- why the payload of a packet with this header is no ICMP error that quotes such a packet, if it is none
abbrev pub message_fault : Side → Ipv4Repr → List ℕ → Option Rejection
message_fault side v bytes = message_fault_by side v.next_header bytes

-- why a frame carries no ICMP error that quotes such a packet, if it carries none
abbrev pub error_fault : Side → List ℕ → Option Rejection
error_fault side frame = frame_fault (message_fault side) frame

-- the reason why a frame carries no ICMP error that quotes such a packet
abbrev pub IsRejectedError : Side → List ℕ → Rejection → Type 0
IsRejectedError side frame reason = error_fault side frame ≡ Some reason

-- ---- bytes

-- The bytes after the header of a quoted packet, with this port on this side, for another address there. The checksum
-- of a TCP segment may be cut off, and a UDP checksum of 0 stays 0.
abbrev pub with_quoted_end : Protocol → Side → List ℕ → List ℕ → ℕ → List ℕ → List ℕ
with_quoted_end flow.Udp side old new port bytes = with_udp_end side old new port bytes
with_quoted_end flow.Tcp side old new port bytes =
    if nat_lt (length bytes) 18 then with_field bytes (port_bit side) 16 port else with_tcp_end side old new port bytes
with_quoted_end flow.Icmp side old new port bytes = icmp.with_updated_checksum (with_field bytes 32 16 port) (field bytes 32 16) port

-- the quoted packet with another address and port on this side
abbrev pub quoted_with : Protocol → Side → List ℕ → ℕ → List ℕ → List ℕ
quoted_with p side addr port bytes =
    with_address side addr (take (header_len bytes) bytes ++ with_quoted_end p side (addr_at side bytes) addr port (after_header bytes))

-- an ICMP message over IPv4 with the checksum computed anew
abbrev pub with_message_checksum : List ℕ → List ℕ
with_message_checksum bytes = let zeroed = with_field bytes 16 16 0 in with_field zeroed 16 16 (65535 - sum_of_bytes zeroed)

-- an ICMP error that quotes the packet with this address and port
abbrev pub error_with : Protocol → Side → List ℕ → ℕ → List ℕ → List ℕ
error_with p side addr port bytes = with_message_checksum (take 8 bytes ++ quoted_with p side addr port (drop 8 bytes))

-- the packet of an ICMP error that quotes the packet with this address and port, with the same address on the
-- opposite side of its own header
abbrev pub error_packet : Protocol → Side → List ℕ → ℕ → List ℕ → List ℕ
error_packet p side addr port bytes =
    with_address (opposite side) addr (with_payload version.Ipv4 bytes (error_with p side addr port (ipv4_payload bytes)))

-- the frame with the translated ICMP error
abbrev pub translated_error : Protocol → Side → List ℕ → ℕ → List ℕ → List ℕ
translated_error p side addr port frame = take 14 frame ++ error_packet p side addr port (drop 14 frame)

-- ---- before and after

-- the values of the quoted packet with another endpoint
abbrev pub quoting : Quoted → List ℕ → ℕ → Quoted
quoting q addr port = record q { end = record { addr = addr; port = port } }

-- The old frame carries an ICMP error that quotes this packet. The new one carries the same error with valid
-- checksums: it quotes the packet with the other address and port on this side, and has this address on the opposite
-- side of its own header. The checksum of the quoted header is valid exactly if it was. These are all the bytes.
pub record IsErrorTranslated (old new : List ℕ) (side : Side) (header : Ipv4Repr) (q : Quoted) (addr : List ℕ) (port : ℕ) : Type 0 where
  pub before : CarriesError side old header q
  pub after : CarriesError side new (with_addr (opposite side) addr header) (quoting q addr port)
  pub summed : ipv4.HasChecksum (quoted_of (drop 14 old)) ↔ ipv4.HasChecksum (quoted_of (drop 14 new))
  pub bytes : new ≡ translated_error q.protocol side addr port old

-- ---- errors that come in

-- The ICMP error is for the outside address, and quotes a packet from an outside port with a live mapping. The inside
-- endpoint becomes the source of the quoted packet, and the destination of the error.
pub record ErrorComesIn (nat : Nat) (mappings : List Mapping) (now : ℕ) (before after : List ℕ) : Type 0 where
  pub header : Ipv4Repr
  pub quoted : Quoted
  pub outside : header.dst_addr ≡ nat.outside
  pub sent : quoted.end.addr ≡ nat.outside
  pub inside : Ipv4Endpoint
  pub maps : MapsTo nat mappings now quoted.protocol quoted.end.port inside
  pub translated : IsErrorTranslated before after Source header quoted inside.addr inside.port

-- the error is not for the outside address, or quotes no packet from an outside port with a live mapping
pub record IsUnmappedError (nat : Nat) (mappings : List Mapping) (now : ℕ) (frame : List ℕ) : Type 0 where
  pub header : Ipv4Repr
  pub quoted : Quoted
  pub carries : CarriesError Source frame header quoted
  pub unmapped : header.dst_addr ≡ nat.outside → quoted.end.addr ≡ nat.outside
      → (inside : Ipv4Endpoint) → ¬ MapsTo nat mappings now quoted.protocol quoted.end.port inside

-- the reason why an error does not come in
abbrev pub IsErrorKeptOutside : Nat → List Mapping → ℕ → List ℕ → Rejection → Type 0
IsErrorKeptOutside nat mappings now frame reason = IsRejectedError Source frame reason ⊎ ((reason ≡ NoMapping) × IsUnmappedError nat mappings now frame)

-- ---- errors that go out

-- The ICMP error quotes a packet to an inside endpoint with a live mapping. The outside address and port become the
-- destination of the quoted packet, and the outside address the source of the error.
pub record ErrorGoesOut (nat : Nat) (mappings : List Mapping) (now : ℕ) (before after : List ℕ) : Type 0 where
  pub header : Ipv4Repr
  pub quoted : Quoted
  pub port : ℕ
  pub maps : MapsTo nat mappings now quoted.protocol port quoted.end
  pub translated : IsErrorTranslated before after Destination header quoted nat.outside port

-- the error quotes a packet to an endpoint without a live mapping
pub record IsUnopenedError (nat : Nat) (mappings : List Mapping) (now : ℕ) (frame : List ℕ) : Type 0 where
  pub header : Ipv4Repr
  pub quoted : Quoted
  pub carries : CarriesError Destination frame header quoted
  pub unmapped : IsUnmapped nat mappings now quoted.protocol quoted.end

-- the reason why an error does not go out
abbrev pub IsErrorKeptInside : Nat → List Mapping → ℕ → List ℕ → Rejection → Type 0
IsErrorKeptInside nat mappings now frame reason = IsRejectedError Destination frame reason ⊎ ((reason ≡ NoMapping) × IsUnopenedError nat mappings now frame)
