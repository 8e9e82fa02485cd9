-- Why a host discards an IPv6 packet: the first fault of its extension headers, in their order (RFC 8200, section 4). A
-- position counts from the end of the IPv6 header, a pointer from its start.
-- Pinned by: `worked/hosts`, `Ipv6FaultsWorked`, `judge`
use Rattle.std.specs.Prelude.{ℕ, zero, suc, ◌+◌, ◌-◌, ◌*◌, ◌%◌, ◌==◌, ◌&&◌, ◌||◌, not, nat_le, nat_lt, if◌then◌else◌, Bool, Option, None, Some, List, drop, length, slice_index}
use Rattle.std.specs.Option.{option_or}
use Rattle.ip_wire.specs.Ipv6Fragment as fragment
use Rattle.ip_wire.specs.declared.Ipv6FragmentRepr.{Ipv6FragmentRepr}
use Rattle.wire_extensions.specs.Chain.{is_part}
use Rattle.app_host.specs.Ipv6Chain.{has_headers}
use Rattle.app_host.specs.declared.icmp_error.About.TheVariants.{Fragments, Groups, Hosts}
use Rattle.app_host.specs.declared.ipv6_fault.Fault.{Fault}
use Rattle.app_host.specs.declared.ipv6_fault.Fault.TheVariants.{Silent, Reported}

-- whether the number ends the extension headers: TCP (6), UDP (17), ICMPv6 (58) and "no next header" (59)
abbrev pub is_last : ℕ → Bool
is_last number = number == 6 || number == 17 || number == 58 || number == 59

-- whether a host processes the extension header with this number at this position: hop-by-hop options (0) directly after
-- the IPv6 header, routing (43), fragment (44), and destination options (60)
abbrev pub is_processed : ℕ → ℕ → Bool
is_processed number start = (number == 0 && start == 0) || number == 43 || number == 44 || number == 60

-- whether the header with this number is that of a fragment: what follows it is processed in the whole packet only. An
-- atomic fragment is a whole packet (RFC 6946).
abbrev pub is_fragment : List ℕ → ℕ → ℕ → Bool
is_fragment payload number start = (number == 44) && is_part (fragment.header_of (drop (start + 2) payload))

-- where the option that starts here ends: Pad1 (type 0) is one byte, any other option has a length
abbrev pub option_end : List ℕ → ℕ → ℕ
option_end payload start = if slice_index payload start == 0 then start + 1 else start + 2 + slice_index payload (start + 1)

-- The fault of an option that no host knows, by the two highest bits of its type (RFC 8200, section 4.2): 00 is skipped, 01
-- is discarded, 10 is reported, and 11 is reported if the destination is no multicast group. Pad1 and PadN have 00.
abbrev pub type_fault : ℕ → ℕ → Option Fault
type_fault kind pointer =
    if nat_lt kind 64 then None
    else if nat_lt kind 128 then Some Silent
    else Some (Reported 2 pointer (if nat_lt kind 192 then Groups else Hosts))

-- The fault of the option that starts here, in a header that ends there. Its length is erroneous if it is past the end of
-- the header (RFC 4443, section 3.4).
abbrev pub option_fault : List ℕ → ℕ → ℕ → Option Fault
option_fault payload start end =
    if nat_lt end (option_end payload start) then Some (Reported 0 (41 + start) Hosts) else type_fault (slice_index payload start) (40 + start)

-- the first fault of the options from this position to the end of their header, of at most n
abbrev pub options_fault : ℕ → List ℕ → ℕ → ℕ → Option Fault
options_fault zero payload start end = None
options_fault (suc n) payload start end =
    if nat_le end start then None else option_or (option_fault payload start end) (options_fault n payload (option_end payload start) end)

-- The fault of a routing header: no host knows its type, but with no segments left it is ignored (RFC 8200, section 4.4; of
-- type 0 RFC 5095, section 3).
abbrev pub routing_fault : List ℕ → ℕ → Option Fault
routing_fault payload start = if slice_index payload (start + 3) == 0 then None else Some (Reported 0 (42 + start) Hosts)

-- whether a first fragment, whose header starts here, lacks a header: it begins the packet, more fragments follow, and not
-- all headers after its own are in it
abbrev pub lacks_headers : List ℕ → ℕ → Ipv6FragmentRepr → Bool
lacks_headers payload start v =
    let rest = drop (start + 8) payload in
    v.more_frags && (v.frag_offset == 0) && not (has_headers (suc (length rest)) (slice_index payload start) rest)

-- The fault of the fragment whose header starts here and has these values: the first that is true (RFC 8200, section 4.5).
-- More fragments follow, but the bytes after the header are no multiple of 8: the pointer is to the payload length of the
-- packet. The whole packet would have a payload above 65,535 bytes, with the headers before this one: the pointer is to the
-- fragment offset. A header is missing in the first fragment: the pointer is 0.
abbrev pub fragment_fault : List ℕ → ℕ → Ipv6FragmentRepr → Option Fault
fragment_fault payload start v =
    let len = length payload - (start + 8) in
    if v.more_frags && not (len % 8 == 0) then Some (Reported 0 4 Fragments)
    else if nat_lt 65535 (start + 8 * v.frag_offset + len) then Some (Reported 0 (42 + start) Fragments)
    else if lacks_headers payload start v then Some (Reported 3 0 Fragments)
    else None

-- where the extension header with this number that starts here ends: a fragment header has 8 bytes
abbrev pub header_end : List ℕ → ℕ → ℕ → ℕ
header_end payload number start = start + (if number == 44 then 8 else 8 * (slice_index payload (start + 1) + 1))

-- The fault of the header with this number, to which the byte at `pointer` leads. A number that the host does not process
-- is reported, and 0 in any header but the IPv6 header too. A header that is cut is discarded. Each option has a byte or
-- more.
abbrev pub header_fault : List ℕ → ℕ → ℕ → ℕ → Option Fault
header_fault payload number pointer start =
    if not (is_processed number start) then Some (Reported 1 pointer Hosts)
    else if nat_lt (length payload) (header_end payload number start) then Some Silent
    else if number == 43 then routing_fault payload start
    else if number == 44 then fragment_fault payload start (fragment.header_of (drop (start + 2) payload))
    else options_fault (length payload) payload (start + 2) (header_end payload number start)

-- the first fault from the header with this number on, of at most n headers and up to that of a fragment
abbrev pub headers_fault : ℕ → List ℕ → ℕ → ℕ → ℕ → Option Fault
headers_fault zero payload number pointer start = None
headers_fault (suc n) payload number pointer start =
    if is_last number then None
    else option_or (header_fault payload number pointer start)
    (if is_fragment payload number start then None
    else headers_fault n payload (slice_index payload start) (40 + start) (header_end payload number start))

-- the first fault of the extension headers of a packet, with this next header in its IPv6 header and this payload; each
-- header has a byte or more
unfoldable pub fault_of : ℕ → List ℕ → Option Fault
fault_of next_header payload = headers_fault (suc (length payload)) payload next_header 6 0
