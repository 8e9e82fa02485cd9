-- Frames in which bytes are replaced, with the checksums that cover them updated (RFC 1624).
-- Pinned by: `worked/edit`
use Rattle.std.specs.Prelude.{ℕ, ◌+◌, ◌-◌, ◌*◌, ◌%◌, ◌==◌, ◌&&◌, ◌||◌, not, nat_le, nat_lt, max, min, if◌then◌else◌, Bool, true, false, List, [], ◌∷◌, Option, None, Some, drop, length, slice_range}
use Rattle.std.specs.Option.{option_and_then, option_map}
use Rattle.byteorder.specs.Endian.{big_bytes, big_number}
use Rattle.app_edit.specs.declared.side.Side.{Side}
use Rattle.app_edit.specs.declared.side.Side.TheVariants.{Source, Destination}
use Rattle.app_edit.specs.Checksums.{sum_at, updated_udp}
use Rattle.ip_wire.specs.Field.{field, with_field, with_range}
use Rattle.ip_wire.specs.IpAddress.{address_bytes}
use Rattle.ip_wire.specs.PseudoHeader.{pseudo_header_bytes, with_pseudo_header}
use Rattle.ip_wire.specs.Types.{IpAddress, IpProtocol, IpVersion}
use Rattle.ip_wire.specs.WordSum.{sum_of_bytes, updated}
use Rattle.ip_wire.specs.declared.IpAddress.TheVariants as address
use Rattle.ip_wire.specs.declared.IpProtocol.TheVariants as protocol
use Rattle.ip_wire.specs.declared.IpVersion.TheVariants as version
use Rattle.app_edit.specs.Offsets.{dscp_end, icmp_checksum, ip_header, ipv4_checksum, ipv4_dst, ipv4_end, ipv4_hop_limit, ipv4_protocol, ipv4_src, ipv4_total_len, ipv6_dst, ipv6_end, ipv6_hop_limit, ipv6_payload_len, ipv6_src, tcp_checksum, tcp_data_offset, udp_checksum, udp_len, version_end}
use Rattle.app_edit.specs.Places.{addresses_end, addresses_start, checksum_place, is_ipv4, places_of}
use Rattle.app_edit.specs.declared.places.Carried.{Carried}
use Rattle.app_edit.specs.declared.places.Carried.TheVariants as carried
use Rattle.app_edit.specs.declared.places.Places.{Places}
use Rattle.app_edit.specs.declared.places.Segment.{Segment}
use Rattle.app_edit.specs.declared.replace.Offload.{Offload}
use Rattle.app_edit.specs.declared.replace.Offload.TheVariants as offload

-- ---- bytes and words of a frame

-- the frame with these bytes from byte `at` on
abbrev pub written : List ℕ → ℕ → List ℕ → List ℕ
written frame at bytes = with_range frame at (at + length bytes) bytes

-- the big-endian number in the two bytes from byte `at` on
abbrev pub word_at : List ℕ → ℕ → ℕ
word_at frame at = big_number 2 (drop at frame)

-- the frame with a number in these two bytes
abbrev pub with_word : List ℕ → ℕ → ℕ → List ℕ
with_word frame at n = written frame at (big_bytes 2 n)

-- ---- the addresses and the transport packet

-- the source address of a packet
abbrev pub src_of : IpVersion → List ℕ → IpAddress
src_of version.Ipv4 frame = address.Ipv4 (slice_range frame ipv4_src ipv4_dst)
src_of version.Ipv6 frame = address.Ipv6 (slice_range frame ipv6_src ipv6_dst)

-- the destination address of a packet
abbrev pub dst_of : IpVersion → List ℕ → IpAddress
dst_of version.Ipv4 frame = address.Ipv4 (slice_range frame ipv4_dst ipv4_end)
dst_of version.Ipv6 frame = address.Ipv6 (slice_range frame ipv6_dst ipv6_end)

-- the bytes of a transport packet that its checksum covers, without the pseudo-header
abbrev pub segment_bytes : Segment → List ℕ → List ℕ
segment_bytes s frame = slice_range frame s.start s.end

-- the sum of all that the checksum of a transport packet covers: the pseudo-header and the packet; in ICMP over IPv4
-- the packet only (RFC 792)
abbrev pub segment_sum_by : IpProtocol → IpVersion → Segment → List ℕ → ℕ
segment_sum_by protocol.Icmp v s frame = sum_of_bytes (segment_bytes s frame)
segment_sum_by p v s frame = sum_of_bytes (with_pseudo_header (src_of v frame) (dst_of v frame) p (segment_bytes s frame))

-- the same sum by the protocol of the packet
abbrev pub segment_sum : IpVersion → Segment → List ℕ → ℕ
segment_sum v s frame = segment_sum_by s.protocol v s frame

-- the sum of the pseudo-header of a transport packet
abbrev pub pseudo_header_sum : IpVersion → Segment → List ℕ → ℕ
pseudo_header_sum v s frame =
    sum_of_bytes (pseudo_header_bytes (address_bytes (src_of v frame)) (address_bytes (dst_of v frame)) s.protocol (s.end - s.start))

-- whether the sender leaves the checksum of this protocol to a device: TCP and UDP
abbrev pub can_be_left : IpProtocol → Bool
can_be_left protocol.Tcp = true
can_be_left protocol.Udp = true
can_be_left _ = false

-- whether the checksum looks left to the device that sends the frame: the field is the sum of the pseudo-header, and the
-- checksum is not valid as it is
abbrev pub looks_left : IpVersion → Segment → List ℕ → Bool
looks_left v s frame =
    s.is_whole && can_be_left s.protocol && word_at frame (checksum_place s) == pseudo_header_sum v s frame
    && not (segment_sum v s frame == 65535)

-- whether the checksum counts as left to the device: as the caller says of TCP and UDP, or as it looks
abbrev pub is_left : Offload → IpVersion → Segment → List ℕ → Bool
is_left offload.Guess v s frame = looks_left v s frame
is_left offload.Offloaded v s frame = can_be_left s.protocol
is_left offload.Complete v s frame = false

-- ---- checksums

-- The field of a checksum that covers the bytes from `first` up to `last`, after the bytes `before` from byte `at` on
-- became `after`: updated by those that it covers (RFC 1624). `first` is even.
abbrev pub updated_over : (ℕ → ℕ → ℕ → ℕ) → ℕ → ℕ → ℕ → ℕ → List ℕ → List ℕ → ℕ
updated_over update field first last at before after =
    let from = max at first in
    let to = min (at + length after) last in
    if nat_lt from to then update field (sum_at from (slice_range before (from - at) (to - at))) (sum_at from (slice_range after (from - at) (to - at)))
    else field

-- the updated field of a transport checksum; in UDP 0 stays, which means that there is none
abbrev pub updated_by : IpProtocol → ℕ → ℕ → ℕ → ℕ
updated_by protocol.Udp field old new = updated_udp field old new
updated_by _ field old new = updated field old new

-- the field of a transport checksum after the addresses changed, which the pseudo-header has; ICMP has none over IPv4
abbrev pub over_addresses : IpProtocol → IpVersion → ℕ → ℕ → List ℕ → List ℕ → ℕ
over_addresses protocol.Icmp v field at before after = field
over_addresses p v field at before after = updated_over (updated_by p) field (addresses_start v) (addresses_end v) at before after

-- The field of a transport checksum after the bytes `before` from byte `at` on became `after`. One that is left to the
-- device is the sum of the pseudo-header, and not its complement.
abbrev pub updated_checksum : Offload → IpVersion → Segment → List ℕ → ℕ → List ℕ → List ℕ → ℕ
updated_checksum o v s frame at before after =
    let field = word_at frame (checksum_place s) in
    if is_left o v s frame then 65535 - updated_over updated (65535 - field) (addresses_start v) (addresses_end v) at before after
    else updated_over (updated_by s.protocol) (over_addresses s.protocol v field at before after) s.start s.end at before after

-- the checksum of what a packet carries, after bytes from byte `at` on were replaced; 0 without one
abbrev pub transport_checksum : Offload → Carried → IpVersion → List ℕ → ℕ → List ℕ → ℕ
transport_checksum o (carried.Segment s) v frame at bytes = updated_checksum o v s frame at (slice_range frame at (at + length bytes)) bytes
transport_checksum o _ v frame at bytes = 0

-- the checksum of an IP header that ends at `end`, after bytes from byte `at` on were replaced; 0 for IPv6
abbrev pub header_checksum : IpVersion → ℕ → List ℕ → ℕ → List ℕ → ℕ
header_checksum version.Ipv4 end frame at bytes = updated_over updated (word_at frame ipv4_checksum) ip_header end at (slice_range frame at (at + length bytes)) bytes
header_checksum version.Ipv6 end frame at bytes = 0

-- ---- edits

-- the frame with this checksum of its IP header; IPv6 has none
abbrev pub with_header_checksum : IpVersion → List ℕ → ℕ → List ℕ
with_header_checksum version.Ipv4 frame n = with_word frame ipv4_checksum n
with_header_checksum version.Ipv6 frame n = frame

-- the frame with this checksum of what its packet carries
abbrev pub with_transport_checksum : Carried → List ℕ → ℕ → List ℕ
with_transport_checksum (carried.Segment s) frame n = with_word frame (checksum_place s) n
with_transport_checksum _ frame n = frame

-- the frame with these bytes from byte `at` on, and the checksums that cover them updated
abbrev pub edited : Offload → Places → List ℕ → ℕ → List ℕ → List ℕ
edited o p frame at bytes =
    with_transport_checksum p.carried
    (with_header_checksum p.version (written frame at bytes) (header_checksum p.version p.start frame at bytes))
    (transport_checksum o p.carried p.version frame at bytes)

-- the place of the TTL or hop limit
abbrev pub hop_limit_place : IpVersion → ℕ
hop_limit_place version.Ipv4 = ipv4_hop_limit
hop_limit_place version.Ipv6 = ipv6_hop_limit

-- the frame with another TTL or hop limit, which no transport checksum covers
unfoldable pub hop_limit_set : List ℕ → ℕ → Option (List ℕ)
hop_limit_set frame n = option_map (λ p. edited offload.Complete p frame (hop_limit_place p.version) (n ∷ [])) (places_of frame)

-- the first two bytes of an IP header with another DSCP (RFC 2474, section 3); the traffic class of IPv6 has the ECN in
-- its lowest two bits (RFC 8200, section 7)
abbrev pub with_dscp : IpVersion → List ℕ → ℕ → List ℕ
with_dscp version.Ipv4 bytes n = with_field bytes 8 6 n
with_dscp version.Ipv6 bytes n = with_field bytes 4 8 (4 * n + field bytes 4 8 % 4)

-- the frame with another DSCP, of 6 bits, which no transport checksum covers
unfoldable pub dscp_set : List ℕ → ℕ → Option (List ℕ)
dscp_set frame n =
    if nat_lt 63 n then None
    else option_map (λ p. edited offload.Complete p frame ip_header (with_dscp p.version (slice_range frame ip_header dscp_end) n)) (places_of frame)

-- the place of an address
abbrev pub address_place : Side → IpVersion → ℕ
address_place Source version.Ipv4 = ipv4_src
address_place Source version.Ipv6 = ipv6_src
address_place Destination version.Ipv4 = ipv4_dst
address_place Destination version.Ipv6 = ipv6_dst

-- whether an address has this version
abbrev pub has_version : IpVersion → IpAddress → Bool
has_version version.Ipv4 (address.Ipv4 a) = true
has_version version.Ipv6 (address.Ipv6 a) = true
has_version _ _ = false

-- whether a packet that carries this can have the address: it has the same version, and no checksum that is not found
-- covers it
abbrev pub takes_by : Carried → IpVersion → IpAddress → Bool
takes_by carried.Hidden v a = false
takes_by _ v a = has_version v a

-- whether a packet can have this address
abbrev pub takes_address : Places → IpAddress → Bool
takes_address p a = takes_by p.carried p.version a

-- the frame with another source or destination address
unfoldable pub addr_set : Offload → List ℕ → Side → IpAddress → Option (List ℕ)
addr_set o frame side a =
    option_and_then (λ p. if takes_address p a then Some (edited o p frame (address_place side p.version) (address_bytes a)) else None) (places_of frame)

-- the place of a port, if a packet carries TCP or UDP
abbrev pub port_place : Side → Carried → Option ℕ
port_place Source (carried.Segment s) = if can_be_left s.protocol then Some s.start else None
port_place Destination (carried.Segment s) = if can_be_left s.protocol then Some (s.start + 2) else None
port_place _ _ = None

-- the frame with another source or destination port
unfoldable pub port_set : Offload → List ℕ → Side → ℕ → Option (List ℕ)
port_set o frame side n =
    option_and_then (λ p. option_map (λ at. edited o p frame at (big_bytes 2 n)) (port_place side p.carried)) (places_of frame)

-- ---- bytes that may not be replaced

-- whether the bytes from `at` up to `end` have none of those from `first` up to `last`; an empty range must not begin
-- between two of them either
abbrev pub is_apart : ℕ → ℕ → ℕ → ℕ → Bool
is_apart at end first last = nat_le end first || nat_le last at || nat_le last first

-- Whether an edit keeps the bytes of the headers that say where the layers are. IPv4: version and header length, total
-- length to fragment offset, protocol and checksum. IPv6: version, payload length and next header, extension headers.
abbrev pub keeps_header : IpVersion → ℕ → ℕ → ℕ → Bool
keeps_header version.Ipv4 start at end = is_apart at end 0 version_end && is_apart at end ipv4_total_len ipv4_hop_limit && is_apart at end ipv4_protocol ipv4_src
keeps_header version.Ipv6 start at end = is_apart at end 0 version_end && is_apart at end ipv6_payload_len ipv6_hop_limit && is_apart at end ipv6_end start

-- whether an edit keeps the checksum field, the data offset of TCP and the length of UDP
abbrev pub keeps_segment : IpProtocol → ℕ → ℕ → ℕ → Bool
keeps_segment protocol.Tcp start at end = is_apart at end (start + tcp_data_offset) (start + tcp_data_offset + 1) && is_apart at end (start + tcp_checksum) (start + tcp_checksum + 2)
keeps_segment protocol.Udp start at end = is_apart at end (start + udp_len) (start + udp_checksum + 2)
keeps_segment _ start at end = is_apart at end (start + icmp_checksum) (start + icmp_checksum + 2)

-- whether an edit keeps the bytes after the IP header that it may not replace: of a later fragment all, and without a
-- known place of the checksum all that it may cover, with the addresses
abbrev pub keeps_carried : Carried → Places → ℕ → ℕ → Bool
keeps_carried (carried.Segment s) p at end = keeps_segment s.protocol s.start at end
keeps_carried carried.Other p at end = true
keeps_carried carried.Fragment p at end = is_apart at end (if is_ipv4 p.version then p.start else ipv6_end) p.end
keeps_carried carried.Hidden p at end = is_apart at end (if is_ipv4 p.version then ipv4_protocol else ipv6_src) p.end

-- whether the bytes from `at` up to `end` may be replaced
abbrev pub allows : Places → ℕ → ℕ → Bool
allows p at end = keeps_header p.version p.start at end && keeps_carried p.carried p at end

-- the frame with these bytes from byte `at` on, if they fit and all bytes there may be replaced
unfoldable pub bytes_set : Offload → List ℕ → ℕ → List ℕ → Option (List ℕ)
bytes_set o frame at bytes =
    if nat_le (at + length bytes) (length frame)
    then option_and_then (λ p. if allows p at (at + length bytes) then Some (edited o p frame at bytes) else None) (places_of frame)
    else None
