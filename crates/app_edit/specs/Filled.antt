-- Frames whose transport checksum is computed.
-- Pinned by: `worked/edit`
use Rattle.std.specs.Prelude.{ℕ, ◌-◌, if◌then◌else◌, List, Option, None, Some}
use Rattle.std.specs.Option.{option_and_then}
use Rattle.ip_wire.specs.Types.{IpProtocol, IpVersion}
use Rattle.ip_wire.specs.Udp.{checksum_for}
use Rattle.ip_wire.specs.declared.IpProtocol.TheVariants as protocol
use Rattle.app_edit.specs.Edited.{segment_sum, with_word}
use Rattle.app_edit.specs.Places.{checksum_place, places_of}
use Rattle.app_edit.specs.declared.places.Carried.{Carried}
use Rattle.app_edit.specs.declared.places.Carried.TheVariants as carried
use Rattle.app_edit.specs.declared.places.Segment.{Segment}

-- the checksum of a sum: its complement; in UDP 0xffff instead of 0 (RFC 768)
abbrev pub checksum_by : IpProtocol → ℕ → ℕ
checksum_by protocol.Udp sum = checksum_for sum
checksum_by _ sum = 65535 - sum

-- the frame with the checksum of this transport packet, computed with 0 in its field
abbrev pub filled : IpVersion → Segment → List ℕ → List ℕ
filled v s frame =
    let zeroed = with_word frame (checksum_place s) 0 in
    with_word zeroed (checksum_place s) (checksum_by s.protocol (segment_sum v s zeroed))

-- the same for what a packet carries
abbrev pub fill_carried : Carried → IpVersion → List ℕ → Option (List ℕ)
fill_carried (carried.Segment s) v frame = if s.is_whole then Some (filled v s frame) else None
fill_carried _ v frame = None

-- the frame with the checksum of its transport packet computed, if it has all bytes that it covers
unfoldable pub checksum_filled : List ℕ → Option (List ℕ)
checksum_filled frame = option_and_then (λ p. fill_carried p.carried p.version frame) (places_of frame)
