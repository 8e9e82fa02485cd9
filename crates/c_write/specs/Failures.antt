-- Why a call writes nothing: the failure of the first test that fails.
-- Pinned by: `judge`
use Rattle.std.specs.Prelude.{ℕ, ◌+◌, ◌%◌, ◌&&◌, ◌==◌, not, nat_le, nat_lt, is_some, if◌then◌else◌, Bool, List, length, Option, None, Some}
use Rattle.std.specs.Option.{option_or}
use Rattle.ip_wire.specs.Udp as udp
use Rattle.c_structs.specs.Failures.{has_version}
use Rattle.c_write.specs.Frames.{is_whole}
use Rattle.c_write.specs.Headers.{has_one_control, has_port, options_header_len}
use Rattle.c_structs.specs.declared.failures.Failure.{Failure}
use Rattle.c_structs.specs.declared.failures.Failure.TheVariants as failure
use Rattle.c_structs.specs.declared.flags.TheConstants.{FLOW_LABELS}
use Rattle.c_structs.specs.declared.types.Addr.{Addr}
use Rattle.c_structs.specs.declared.types.Endpoint.{Endpoint}
use Rattle.c_structs.specs.declared.types.FrameFields.{FrameFields}
use Rattle.c_structs.specs.declared.types.Ip.{Ip}
use Rattle.c_structs.specs.declared.types.Tcp.{Tcp}
use Rattle.c_structs.specs.declared.types.TcpOptions.{TcpOptions}

-- ---- addresses

-- the failure of a call with two addresses that must have the same version
abbrev pub pair_failure : Addr → Addr → Option Failure
pair_failure src dst =
    if not (has_version src && has_version dst) then Some failure.NoVersion
    else if not (src.version == dst.version) then Some failure.TwoVersions
    else None

-- the failure of a call with two addresses that must be IPv4 addresses
abbrev pub arp_failure : Addr → Addr → Option Failure
arp_failure src dst = if (src.version == 4) && (dst.version == 4) then None else Some failure.NoVersion

-- ---- IP

-- the length of the longest payload that the length field of this version can express; that of IPv4 counts the header
-- too
abbrev pub most_payload : ℕ → ℕ
most_payload version = if version == 4 then 65515 else 65535

-- whether a header of this version can express each field; IPv6 has none for fragments
abbrev pub has_fields : Ip → ℕ → Bool
has_fields h version =
    nat_lt h.dscp 64 && nat_lt h.ecn 4
    && (if version == 4 then nat_lt h.ident 65536 && (h.fragment_offset % 8 == 0)
    else (h.ident == 0) && (h.fragment_offset == 0) && (h.more_fragments == 0) && nat_lt h.flow_label FLOW_LABELS)

-- the failure of the fields of an IP header of this version, for a payload of this length
abbrev pub field_failure : Ip → ℕ → ℕ → Option Failure
field_failure h version len =
    if h.hop_limit == 0 then Some failure.NoHopLimit
    else if not (has_fields h version) then Some failure.BadField
    else if nat_lt (most_payload version) len then Some failure.PayloadTooLong
    else None

-- the failure of an IP header between two addresses, for a payload of this length
abbrev pub ip_failure : Ip → Addr → Addr → ℕ → Option Failure
ip_failure h src dst len = option_or (pair_failure src dst) (field_failure h src.version len)

-- ---- UDP and TCP

-- the failure of a UDP packet with a payload of this length
abbrev pub udp_failure : Endpoint → Endpoint → ℕ → Option Failure
udp_failure src dst len =
    option_or (pair_failure src.addr dst.addr)
    (if not (has_port dst) then Some failure.NoPort
    else if nat_lt udp.max_payload_len len then Some failure.PayloadTooLong
    else None)

-- the failure of TCP options: more SACK ranges than the struct holds, or a header of more than 60 bytes
abbrev pub options_failure : TcpOptions → Option Failure
options_failure o =
    if nat_le o.sack_range_count (length o.sack_ranges) && nat_le (options_header_len o) 60 then None
    else Some failure.OptionsTooLong

-- the failure of a TCP header before a payload of this length, if both together may have `most` bytes
abbrev pub segment_failure : Tcp → TcpOptions → ℕ → ℕ → Option Failure
segment_failure h o len most =
    if not (has_one_control h.flags) then Some failure.TwoControls
    else if is_some (options_failure o) then Some failure.OptionsTooLong
    else if nat_lt most (options_header_len o + len) then Some failure.PayloadTooLong
    else None

-- the failure of a TCP segment with a payload of this length
abbrev pub tcp_failure : Tcp → TcpOptions → Endpoint → Endpoint → ℕ → Option Failure
tcp_failure h o src dst len =
    option_or (pair_failure src.addr dst.addr)
    (if not (has_port src && has_port dst) then Some failure.NoPort else segment_failure h o len 65535)

-- ---- whole frames

-- the failure of a frame with a packet, whatever its length is; `has_ports`: its ports are valid
abbrev pub frame_failure : FrameFields → Bool → Option Failure
frame_failure f has_ports =
    option_or (pair_failure f.src.addr f.dst.addr)
    (if not has_ports then Some failure.NoPort
    else if f.ip.hop_limit == 0 then Some failure.NoHopLimit
    else if not (has_fields f.ip f.src.addr.version && is_whole f.ip) then Some failure.BadField
    else None)

-- the failure of a frame with a UDP packet with a payload of this length
abbrev pub udp_frame_failure : FrameFields → ℕ → Option Failure
udp_frame_failure f len =
    option_or (frame_failure f (has_port f.dst))
    (if nat_lt (most_payload f.src.addr.version) (8 + len) then Some failure.PayloadTooLong else None)

-- the failure of a frame with a TCP segment with a payload of this length
abbrev pub tcp_frame_failure : FrameFields → TcpOptions → ℕ → Option Failure
tcp_frame_failure f o len =
    option_or (frame_failure f (has_port f.src && has_port f.dst)) (segment_failure f.tcp o len (most_payload f.src.addr.version))

-- ---- rebuilding

-- the failure of rebuilding: the frame has no whole Ethernet header
abbrev pub rebuild_failure : List ℕ → Option Failure
rebuild_failure frame = if nat_lt (length frame) 14 then Some failure.NoHeader else None
