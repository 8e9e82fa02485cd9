-- Packets whose extension headers a host skips (RFC 8200, section 4; RFC 4443, section 4.2; RFC 6946).
-- Pinned by: `worked/hosts`, `SkippedWorked`, `judge`
use Rattle.std.specs.Prelude.{ℕ, ◌++◌, ◌==◌, ◌&&◌, not, if◌then◌else◌, Bool, Option, None, Some, List, drop, is_none, length}
use Rattle.std.specs.Option.{option_map_or}
use Rattle.ip_wire.specs.Ethernet as ethernet
use Rattle.ip_wire.specs.Field.{field}
use Rattle.ip_wire.specs.Frame.{all_checked, header_by}
use Rattle.ip_wire.specs.Ipv6 as ipv6
use Rattle.ip_wire.specs.Protocol.{number_of, protocol_of}
use Rattle.ip_wire.specs.Types.{EthernetRepr, IpRepr, Ipv6, Ipv6Repr}
use Rattle.wire_extensions.specs.Chain.{chain_of, ends_at_part}
use Rattle.wire_extensions.specs.Extension.{is_extension}
use Rattle.wire_extensions.specs.declared.chain.Chain.{Chain}
use Rattle.app_host.specs.Ipv6Fault.{fault_of}

-- whether a message of this protocol is a neighbour solicitation, which has no extension headers before it (RFC 6980 asks
-- that of fragment headers)
abbrev pub is_solicitation : ℕ → List ℕ → Bool
is_solicitation protocol message = (protocol == 58) && (field message 0 8 == 135)

-- Whether a host skips the extension headers of a chain in this payload: none of them is rejected or is the header of a
-- fragment, and what follows is no neighbour solicitation.
abbrev pub is_passed : Chain → List ℕ → Bool
is_passed c payload = is_none c.fault && not (ends_at_part c.fragment) && not (is_solicitation c.protocol (drop c.len payload))

-- The extension headers that a host skips in a packet with this next header and payload. None if there are none, or if one
-- of them has a fault.
unfoldable pub skipped : ℕ → List ℕ → Option Chain
skipped next_header payload =
    let c = chain_of next_header (length payload) payload in
    if is_extension next_header && is_none (fault_of next_header payload) && is_passed c payload then Some c else None

-- the header of a packet without the extension headers of a chain in this payload
abbrev pub header_past : Ipv6Repr → List ℕ → Chain → Ipv6Repr
header_past v payload c = record v { next_header = protocol_of c.protocol; payload_len = length (drop c.len payload) }

-- the header and the payload of a packet, without the extension headers that a host skips
abbrev pub past : Ipv6Repr → List ℕ → Ipv6Repr × List ℕ
past v payload = option_map_or (λ (c : Chain). (header_past v payload c, drop c.len payload)) (skipped (number_of v.next_header) payload) (v, payload)

-- the frame with this header and a packet without the extension headers of a chain in its payload
abbrev pub frame_past : EthernetRepr → Ipv6Repr → List ℕ → Chain → List ℕ
frame_past link v payload c = ethernet.bytes_of link ++ (ipv6.bytes_of (header_past v payload c) ++ drop c.len payload)

-- the frame without the extension headers that a host skips, by the IP header in it
abbrev pub without_by : EthernetRepr → Option IpRepr → List ℕ → List ℕ
without_by link (Some (Ipv6 v)) frame =
    let payload = ipv6.payload_of (drop 14 frame) in option_map_or (frame_past link v payload) (skipped (number_of v.next_header) payload) frame
without_by link _ frame = frame

-- The frame without the extension headers of its IPv6 packet, if a host skips them; any other frame is unchanged.
unfoldable pub without_extensions : List ℕ → List ℕ
without_extensions frame =
    option_map_or (λ link. without_by link (header_by all_checked link.ethertype (drop 14 frame)) frame) (ethernet.ethernet_of frame) frame
