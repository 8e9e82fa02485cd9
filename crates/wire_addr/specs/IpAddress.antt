-- Addresses of either IP version.
-- Pinned by: `calls/worked_addresses`, `wire/ip_address`, `wire/checksum`, `calls/ip`, `calls/block`, `wire/orders`
use Rattle.std.specs.Prelude.{ℕ, ◌≡◌, ◌++◌, List, pos}
use Rattle.std.specs.Cmp.Lexicographic.{slice_cmp}
use Rattle.std.specs.Hash as hash
use Rattle.std.specs.Ordering.{nat_cmp}
use Rattle.std.specs.declared.cmp.Ordering.{Ordering}
use Rattle.std.specs.declared.cmp.Ordering.TheVariants.{Less, Greater}
use Rattle.wire_addr.specs.Block.{IsIn}
use Rattle.wire_addr.specs.Class.{IsIpv4Unicast, IsIpv6Unicast, ipv4_broadcast, ipv4_multicast, ipv4_unspecified, ipv6_multicast, ipv6_unspecified}
use Rattle.wire_addr.specs.Bytes.{IsByteArray}
use Rattle.wire_addr.specs.Printed.{dotted, ipv6_text}
use Rattle.wire_addr.specs.Read.{ReadsIpv4, ReadsIpv6}
use Rattle.wire_addr.specs.declared.ip_address.IpAddress.{IpAddress}
use Rattle.wire_addr.specs.declared.ip_address.IpAddress.TheVariants.{Ipv4, Ipv6}
use Rattle.wire_addr.specs.declared.ip_version.IpVersion.{IpVersion}
use Rattle.wire_addr.specs.declared.ip_version.IpVersion.TheVariants as version

-- the IP version of an address
abbrev pub version_of : IpAddress → IpVersion
version_of (Ipv4 bytes) = version.Ipv4
version_of (Ipv6 bytes) = version.Ipv6

-- the printed text of an IP address
abbrev pub address_text : IpAddress → List ℕ
address_text (Ipv4 bytes) = dotted bytes
address_text (Ipv6 bytes) = ipv6_text bytes

-- the bytes of an address of either version
abbrev pub address_bytes : IpAddress → List ℕ
address_bytes (Ipv4 bytes) = bytes
address_bytes (Ipv6 bytes) = bytes

-- the number of bits in an address of this version
abbrev pub bits_of : IpAddress → ℕ
bits_of (Ipv4 bytes) = 32
bits_of (Ipv6 bytes) = 128

-- the address has as many bytes as its version has
abbrev pub IsAddress : IpAddress → Type 0
IsAddress (Ipv4 bytes) = IsByteArray 4 bytes
IsAddress (Ipv6 bytes) = IsByteArray 16 bytes

-- the text parses as this address, in the form of its version
abbrev pub ReadsAddress : List ℕ → IpAddress → Type 0
ReadsAddress text (Ipv4 bytes) = ReadsIpv4 text bytes
ReadsAddress text (Ipv6 bytes) = ReadsIpv6 text bytes

-- ---- classes

-- a unicast address of either version
abbrev pub IsUnicast : IpAddress → Type 0
IsUnicast (Ipv4 bytes) = IsIpv4Unicast bytes
IsUnicast (Ipv6 bytes) = IsIpv6Unicast bytes

-- a multicast address of either version
abbrev pub IsMulticast : IpAddress → Type 0
IsMulticast (Ipv4 bytes) = IsIn ipv4_multicast bytes
IsMulticast (Ipv6 bytes) = IsIn ipv6_multicast bytes

-- the broadcast address, which IPv6 does not have (RFC 4291, section 2)
abbrev pub IsBroadcast : IpAddress → Type 0
IsBroadcast (Ipv4 bytes) = bytes ≡ ipv4_broadcast
IsBroadcast (Ipv6 bytes) = ⊥

-- the unspecified address of either version
abbrev pub IsUnspecified : IpAddress → Type 0
IsUnspecified (Ipv4 bytes) = bytes ≡ ipv4_unspecified
IsUnspecified (Ipv6 bytes) = bytes ≡ ipv6_unspecified

-- ---- order and hash

-- the order of addresses: IPv4 before IPv6, and addresses of one version by their bytes
abbrev pub address_cmp : IpAddress → IpAddress → Ordering
address_cmp (Ipv4 a) (Ipv4 b) = slice_cmp nat_cmp a b
address_cmp (Ipv4 a) (Ipv6 b) = Less
address_cmp (Ipv6 a) (Ipv4 b) = Greater
address_cmp (Ipv6 a) (Ipv6 b) = slice_cmp nat_cmp a b

-- the hashed values of an address: the index of its variant, and its bytes
abbrev pub address_hash : IpAddress → hash.HashWrites
address_hash (Ipv4 bytes) = hash.isize (pos 0) ++ hash.slice hash.u8 bytes
address_hash (Ipv6 bytes) = hash.isize (pos 1) ++ hash.slice hash.u8 bytes
