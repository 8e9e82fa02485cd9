-- What the call that writes a fragment of an IPv4 or IPv6 packet returns and writes.
-- Pinned by: `judge`, `worked/fragment`
use Rattle.std.specs.Prelude.{ℕ, ℤ, pos, negsuc, ◌≡◌, ◌+◌, ◌⊎◌, ◌++◌, ◌==◌, ◌&&◌, ◌||◌, not, nat_lt, is_none, is_some, false, if◌then◌else◌, Bool, List, Option, None, Some, drop, length, take}
use Rattle.std.specs.Option.{option_and_then, option_map, option_map_or, unwrap_or}
use Rattle.std.specs.Ordering.{int_eq}
use Rattle.ip_wire.specs.Ethernet.{ethernet_of}
use Rattle.ip_wire.specs.Field.{field}
use Rattle.ip_wire.specs.HeaderFault.{ipv4_fault}
use Rattle.ip_wire.specs.Ipv4.{dont_frag_of, fragment_offset, header_len, ip_version_of, is_fragment, total_len}
use Rattle.ip_wire.specs.Ipv4 as ipv4_header
use Rattle.ip_wire.specs.Ipv6 as ipv6
use Rattle.ip_wire.specs.Types.{EthernetProtocol}
use Rattle.ip_wire.specs.declared.EthernetProtocol.TheVariants as ethertype
use Rattle.app_fragment.specs.Ipv4Fragments.{payload_len}
use Rattle.app_fragment.specs.Ipv4Fragments as ipv4
use Rattle.app_fragment.specs.Ipv6Fragments as ipv6_fragments
use Rattle.app_fragment.specs.Parts.{by_version}
use Rattle.c_structs.specs.Written.{WritesBytes, failure_code}
use Rattle.c_structs.specs.declared.failures.Failure.{Failure}
use Rattle.c_structs.specs.declared.failures.Failure.TheVariants as failure

-- ---- the identification

-- the identification that C passes, of 32 bits; none for a packet that is forwarded
abbrev pub ident_of : ℤ → Option ℕ
ident_of (pos n) = if nat_lt n 4294967296 then Some n else None
ident_of (negsuc n) = None

-- whether C passes an identification, or -1 for a packet that is forwarded
abbrev pub is_ident : ℤ → Bool
is_ident n = is_some (ident_of n) || int_eq n (negsuc 0)

-- whether the identification has more than the 16 bits of an IPv4 header
abbrev pub is_long : Option ℕ → Bool
is_long ident = option_map_or (nat_lt 65535) ident false

-- ---- which packets are fragmented

-- the bytes of a frame of this type, if they begin with an IPv4 or IPv6 packet that has a valid header
abbrev pub packet_by : EthernetProtocol → List ℕ → Option (List ℕ)
packet_by ethertype.Ipv4 bytes = if is_none (ipv4_fault bytes) then Some bytes else None
packet_by ethertype.Ipv6 bytes = if ipv6.is_read bytes then Some bytes else None
packet_by _ bytes = None

-- the bytes of an Ethernet frame from its IPv4 or IPv6 packet on
abbrev pub packet_of : List ℕ → Option (List ℕ)
packet_of frame = option_and_then (λ link. packet_by link.ethertype (drop 14 frame)) (ethernet_of frame)

-- why an IPv4 packet with a valid header is not fragmented
abbrev pub ipv4_failure : Option ℕ → ℕ → List ℕ → Option Failure
ipv4_failure ident mtu bytes =
    if is_long ident then Some failure.BadField
    else if nat_lt mtu (total_len bytes) && nat_lt mtu (header_len bytes + 8) then Some failure.BadField
    else if nat_lt 65535 (fragment_offset bytes + payload_len bytes) then Some failure.PayloadTooLong
    else if is_some ident && is_fragment bytes then Some failure.NoHeader
    else if is_none ident && nat_lt mtu (total_len bytes) && dont_frag_of bytes == 1 then Some failure.DontFragment
    else None

-- the next header is one with which an IPv6 packet is not cut
abbrev pub is_extension : ℕ → Bool
is_extension next = next == 0 || next == 43 || next == 44 || next == 60

-- Why an IPv6 packet with a valid header is not fragmented. Each that fits in the MTU is.
abbrev pub ipv6_failure : Option ℕ → ℕ → List ℕ → Option Failure
ipv6_failure ident mtu bytes =
    if not (nat_lt mtu (ipv6.total_len bytes)) then None
    else if nat_lt mtu 56 then Some failure.BadField
    else if is_none ident then Some failure.DontFragment
    else if is_extension (field bytes 48 8) then Some failure.NoHeader
    else None

-- why a packet with a valid header is not fragmented
abbrev pub packet_failure : Option ℕ → ℕ → List ℕ → Option Failure
packet_failure ident mtu bytes = by_version bytes (ipv4_failure ident mtu bytes) (ipv6_failure ident mtu bytes)

-- why the packet of a frame is not fragmented
unfoldable pub fragment_failure : ℤ → ℕ → List ℕ → Option Failure
fragment_failure ident mtu frame =
    if not (is_ident ident) then Some failure.BadField
    else option_map_or (packet_failure (ident_of ident) mtu) (packet_of frame) (Some failure.NoHeader)

-- ---- the fragments

-- where the fragment of this number begins in the payload; none comes after the last
abbrev pub place_of : List ℕ → ℕ → ℕ → Option ℕ
place_of bytes mtu number = by_version bytes (ipv4.place_of bytes mtu number) (ipv6_fragments.place_of bytes mtu number)

-- the fragment that begins at this place
abbrev pub ipv4_at : Option ℕ → ℕ → List ℕ → ℕ → List ℕ
ipv4_at ident mtu bytes at = ipv4.fragment_bytes ident bytes at (ipv4.next_place bytes at mtu)

-- the fragment that begins at this place; a forwarded packet is copied, and needs no identification
abbrev pub ipv6_at : Option ℕ → ℕ → List ℕ → ℕ → List ℕ
ipv6_at ident mtu bytes at =
    ipv6_fragments.fragment_bytes (unwrap_or ident 0) bytes mtu at (ipv6_fragments.next_place bytes at mtu)

-- the fragment that begins at this place, of either version
abbrev pub fragment_at : Option ℕ → ℕ → List ℕ → ℕ → List ℕ
fragment_at ident mtu bytes at = by_version bytes (ipv4_at ident mtu bytes at) (ipv6_at ident mtu bytes at)

-- the frame with the fragment that begins at this place, after the Ethernet header of the packet's frame
abbrev pub frame_at : Option ℕ → ℕ → List ℕ → ℕ → List ℕ
frame_at ident mtu frame at = take 14 frame ++ fragment_at ident mtu (drop 14 frame) at

-- the frame with the fragment of this number
unfoldable pub fragment_frame : Option ℕ → ℕ → ℕ → List ℕ → Option (List ℕ)
fragment_frame ident mtu number frame = option_map (frame_at ident mtu frame) (place_of (drop 14 frame) mtu number)

-- a failure is returned; or 0 after the last fragment; or the fragment is written, and its length is returned
abbrev pub WritesFragment : Option Failure → Option (List ℕ) → List ℕ → List ℕ → ℤ → Type 0
WritesFragment (Some why) bytes old new answer = (answer ≡ failure_code why) × (new ≡ old)
WritesFragment None None old new answer = (answer ≡ pos 0) × (new ≡ old)
WritesFragment None (Some bytes) old new answer = WritesBytes bytes (length bytes) None old new answer

-- ---- what the parts of the call need

-- the lengths of a packet are valid, by its version
abbrev pub HasLengths : List ℕ → Type 0
HasLengths bytes =
    ((ip_version_of bytes ≡ 4) × ipv4_header.HasLengths bytes) ⊎ ((ip_version_of bytes ≡ 6) × ipv6.HasLengths bytes)

-- a fragment that begins at this place may be written, by the version of the packet
abbrev pub MayBeWritten : Option ℕ → ℕ → List ℕ → ℕ → Type 0
MayBeWritten ident mtu bytes at =
    ((is_long ident ≡ false) × ipv4.MayBeFragmented ident bytes mtu × ipv4.MayBegin bytes at mtu)
    ⊎ (ipv6_fragments.MayBeFragmented bytes mtu × ipv6_fragments.MayBegin bytes at mtu)
