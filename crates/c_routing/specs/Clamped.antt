-- What the call that clamps the maximum segment size of a frame returns and writes.
-- Pinned by: `worked/route`
use Rattle.std.specs.Prelude.{ℕ, ℤ, pos, ◌≡◌, ◌≤◌, ◌==◌, ◌++◌, ◌⊎◌, if◌then◌else◌, Bool, true, false, List, Some, drop, length, take}
use Rattle.app_edit.specs.Layout.{with_payload}
use Rattle.app_edit.specs.declared.replace.Offload.{Offload}
use Rattle.app_edit.specs.declared.replace.Offload.TheVariants as offload
use Rattle.app_short.specs.Clamp.{IsAbove}
use Rattle.ip_wire.specs.Field.{field, with_field}
use Rattle.ip_wire.specs.Frame.{ReadsFrame, ReadsPacket, ReadsTransport, all_checked, packet, packet_payload, segment}
use Rattle.ip_wire.specs.Ip.{dst_addr_of, src_addr_of, version_of}
use Rattle.ip_wire.specs.TcpRepr.{TcpHeader}
use Rattle.ip_wire.specs.TcpSegmentSize.{with_max_seg_size}
use Rattle.ip_wire.specs.Types.{EthernetRepr, IpAddress, IpRepr}
use Rattle.ip_wire.specs.Checksum.{verifies}
use Rattle.ip_wire.specs.declared.Checksum.{Checksum}
use Rattle.ip_wire.specs.declared.Checksum.TheVariants as checksum
use Rattle.ip_wire.specs.declared.ChecksumCapabilities.{ChecksumCapabilities}
use Rattle.c_structs.specs.Codes.{verdict_code}
use Rattle.c_structs.specs.Verdicts.{tcp_verdict}
use Rattle.c_structs.specs.Written.{max_len, within}
use Rattle.c_structs.specs.declared.codes.Verdict.TheVariants as verdict

-- the checksum of TCP is verified or computed by this choice, and every other checksum always
abbrev pub tcp_as : Checksum → ChecksumCapabilities
tcp_as choice = record all_checked { tcp = choice }

-- the bytes are a packet with this header, which carries this TCP segment
abbrev pub ReadsSegment : Checksum → List ℕ → IpRepr → TcpHeader → List ℕ → Type 0
ReadsSegment choice bytes header v payload =
    ReadsPacket (tcp_as choice) bytes header × ReadsTransport (tcp_as choice) header (packet_payload header bytes) (segment v payload)

-- the frame carries this TCP segment
abbrev pub CarriesSegment : Checksum → List ℕ → EthernetRepr → IpRepr → TcpHeader → List ℕ → Type 0
CarriesSegment choice frame link header v payload = ReadsFrame (tcp_as choice) frame link (packet header (segment v payload))

-- the values of a segment with this maximum segment size
abbrev pub with_size : ℕ → TcpHeader → TcpHeader
with_size size v = record v { max_seg_size = Some size }

-- the TCP checksum of a segment between two addresses counts as left to the device: as the caller says, or as
-- `lk_read_frame` says
abbrev pub is_left_to_device : Offload → IpAddress → IpAddress → List ℕ → Bool
is_left_to_device offload.Guess src dst bytes = verdict_code (tcp_verdict src dst bytes) == verdict_code verdict.LeftToDevice
is_left_to_device offload.Offloaded src dst bytes = true
is_left_to_device offload.Complete src dst bytes = false

-- the bytes of a segment between two addresses with this maximum segment size and an updated checksum; one that is left
-- to the device stays
abbrev pub resized : Offload → IpAddress → IpAddress → List ℕ → ℕ → List ℕ
resized o src dst bytes size =
    let new = with_max_seg_size bytes size in
    if is_left_to_device o src dst bytes then with_field new 128 16 (field bytes 128 16) else new

-- the bytes of a packet with this header, whose segment has this maximum segment size
abbrev pub clamped : Offload → IpRepr → List ℕ → ℕ → List ℕ
clamped o header bytes size =
    with_payload (version_of header) bytes (resized o (src_addr_of header) (dst_addr_of header) (packet_payload header bytes) size)

-- the frame carries a SYN with a larger maximum segment size, whether or not its TCP checksum is valid
pub record IsTooLarge (frame : List ℕ) (limit : ℕ) : Type 0 where
  pub link : EthernetRepr
  pub header : IpRepr
  pub v : TcpHeader
  pub payload : List ℕ
  pub carries : CarriesSegment checksum.None frame link header v payload
  pub above : IsAbove limit v

-- The old frame carries a SYN with a larger maximum segment size, and the new one the same values with the limit. A TCP
-- checksum that was valid is still valid, unless the caller says that it is left to the device. These are all the bytes.
pub record IsClamped (o : Offload) (old new : List ℕ) (limit : ℕ) : Type 0 where
  pub before : IsTooLarge old limit
  pub after : (choice : Checksum) → (o ≡ offload.Offloaded → verifies choice ≡ false) → CarriesSegment choice old before.link before.header before.v before.payload
      → CarriesSegment choice new before.link before.header (with_size limit before.v) before.payload
  pub bytes : new ≡ take 14 old ++ clamped o before.header (drop 14 old) limit

-- 1 is returned, and the maximum segment size is now the limit; or 0, it was not larger, and the frame is unchanged
abbrev pub Clamps : Offload → List ℕ → List ℕ → ℕ → ℤ → Type 0
Clamps o old new limit answer =
    ((answer ≡ pos 1) × (length old ≤ max_len) × IsClamped o old new limit)
    ⊎ ((answer ≡ pos 0) × (¬ IsTooLarge (within old) limit) × (new ≡ old))
