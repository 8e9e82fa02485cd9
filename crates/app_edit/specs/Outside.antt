-- The bytes of a frame that an edit does not write.
-- Pinned by: `worked/edit`
use Rattle.std.specs.Prelude.{ℕ, ⊤, ◌≡◌, ◌<◌, ◌≤◌, ◌+◌, ◌⊎◌}
use Rattle.ip_wire.specs.Types.{IpVersion}
use Rattle.ip_wire.specs.declared.IpProtocol.TheVariants as protocol
use Rattle.ip_wire.specs.declared.IpVersion.TheVariants as version
use Rattle.app_edit.specs.Offsets.{ip_header, ipv4_checksum}
use Rattle.app_edit.specs.Places.{addresses_end, addresses_start, checksum_place}
use Rattle.app_edit.specs.declared.places.Carried.{Carried}
use Rattle.app_edit.specs.declared.places.Carried.TheVariants as carried

-- byte i is none of those from first up to last
abbrev pub IsOutside : ℕ → ℕ → ℕ → Type 0
IsOutside first last i = (i < first) ⊎ (last ≤ i)

-- the bytes from `at` up to `end` are none of those from first up to last
abbrev pub AreOutside : ℕ → ℕ → ℕ → ℕ → Type 0
AreOutside first last at end = (i : ℕ) → at ≤ i → i < end → IsOutside first last i

-- ---- the places of checksums

-- byte i is not in the checksum of an IPv4 header; IPv6 has none
abbrev pub OutsideHeaderChecksum : IpVersion → ℕ → Type 0
OutsideHeaderChecksum version.Ipv4 i = IsOutside ipv4_checksum (ipv4_checksum + 2) i
OutsideHeaderChecksum version.Ipv6 i = ⊤

-- byte i is not in the checksum of the transport packet, if there is one
abbrev pub OutsideTransportChecksum : Carried → ℕ → Type 0
OutsideTransportChecksum (carried.Segment s) i = IsOutside (checksum_place s) (checksum_place s + 2) i
OutsideTransportChecksum _ i = ⊤

-- ---- what checksums cover

-- the checksum of an IPv4 header that ends at `start` covers none of the bytes from `at` up to `end`; IPv6 has none
abbrev pub BesideHeader : IpVersion → ℕ → ℕ → ℕ → Type 0
BesideHeader version.Ipv4 start at end = AreOutside ip_header start at end
BesideHeader version.Ipv6 start at end = ⊤

-- The checksum of the transport packet, if there is one, covers none of the bytes from `at` up to `end`: the packet has
-- none of them, nor have the addresses, which ICMP over IPv4 does not cover.
abbrev pub BesideTransport : Carried → IpVersion → ℕ → ℕ → Type 0
BesideTransport (carried.Segment s) v at end =
    AreOutside s.start s.end at end × ((s.protocol ≡ protocol.Icmp) ⊎ AreOutside (addresses_start v) (addresses_end v) at end)
BesideTransport _ v at end = ⊤
