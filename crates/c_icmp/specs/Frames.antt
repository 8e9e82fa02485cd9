-- Packets and frames with ICMP messages that are written from the struct of a frame, and why none is written.
-- Pinned by: `worked/icmp`, `judge`
use Rattle.std.specs.Prelude.{ℕ, ◌+◌, ◌==◌, nat_lt, if◌then◌else◌, true, List, Option, None, Some}
use Rattle.std.specs.Option.{option_and_then, option_or}
use Rattle.c_write.specs.Failures.{frame_failure, most_payload, pair_failure}
use Rattle.c_write.specs.Frames.{framed, ip_packet}
use Rattle.c_structs.specs.declared.failures.Failure.{Failure}
use Rattle.c_structs.specs.declared.failures.Failure.TheVariants as failure
use Rattle.c_structs.specs.declared.types.Addr.{Addr}
use Rattle.c_structs.specs.declared.types.FrameFields.{FrameFields}
use Rattle.c_icmp.specs.Messages.{icmp_bytes, max_payload_len}

-- the protocol of ICMP over this version of IP
abbrev pub protocol_number : ℕ → ℕ
protocol_number version = if version == 4 then 1 else 58

-- the bytes of an IP packet with an ICMP message, if it can be written
abbrev pub icmp_packet : FrameFields → List ℕ → Option (List ℕ)
icmp_packet f payload =
    option_and_then (ip_packet f (protocol_number f.src.addr.version))
    (icmp_bytes f.icmp f.src.addr f.dst.addr payload true)

-- the bytes of a frame with an ICMP message, if it can be written
abbrev pub icmp_frame : FrameFields → List ℕ → Option (List ℕ)
icmp_frame f payload = framed f (icmp_packet f payload)

-- ---- failures

-- the failure of a message with a payload of this length between two addresses
abbrev pub icmp_failure : Addr → Addr → ℕ → Option Failure
icmp_failure src dst len =
    option_or (pair_failure src dst) (if nat_lt max_payload_len len then Some failure.PayloadTooLong else None)

-- the failure of a frame with a message with a payload of this length
abbrev pub icmp_frame_failure : FrameFields → ℕ → Option Failure
icmp_frame_failure f len =
    option_or (frame_failure f true)
    (if nat_lt (most_payload f.src.addr.version) (8 + len) then Some failure.PayloadTooLong else None)
