-- The computed version of a packet is its version.
use Rattle.std.proofs.Common.{ℕ, ◌≡◌, List, Some, arith}
use Rattle.wire_addr.specs.IpVersion.{IsOfVersion, packet_version}
use Rattle.wire_addr.specs.declared.ip_version.IpVersion.{IpVersion}

-- the version of a packet is the computed one
pub IsOfVersion-packet_version : (bytes : List ℕ) (v : IpVersion) → IsOfVersion bytes v → packet_version bytes ≡ Some v
unfolding packet_version
IsOfVersion-packet_version bytes v h = grind arith

-- the computed version is the version of the packet
pub packet_version-IsOfVersion : (bytes : List ℕ) (v : IpVersion) → packet_version bytes ≡ Some v → IsOfVersion bytes v
unfolding packet_version
packet_version-IsOfVersion bytes v e = grind arith
