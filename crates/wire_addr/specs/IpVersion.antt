-- Versions of the Internet Protocol (RFC 791, section 3.1; RFC 8200, section 3).
-- Pinned by: `wire/ip_version`, `calls/worked_headers`
use Rattle.std.specs.Prelude.{ℕ, ◌≡◌, ◌≤◌, ◌/◌, ◌^◌, ◌==◌, nat_le, if◌then◌else◌, Option, Some, None, List, codes, length, pos, slice_index}
use Rattle.std.specs.Hash as hash
use Rattle.wire_addr.specs.declared.ip_version.IpVersion.{IpVersion}
use Rattle.wire_addr.specs.declared.ip_version.IpVersion.TheVariants.{Ipv4, Ipv6}

-- the number of an IP version (RFC 791, RFC 8200)
abbrev pub number_of : IpVersion → ℕ
number_of Ipv4 = 4
number_of Ipv6 = 6

-- the number in the first four bits of a packet
abbrev pub version_number : List ℕ → ℕ
version_number bytes = slice_index bytes 0 / 2 ^ 4

-- the first four bits of a packet are the number of this IP version (RFC 791, section 3.1; RFC 8200, section 3)
pub record IsOfVersion (bytes : List ℕ) (v : IpVersion) : Type 0 where
  pub some : 1 ≤ length bytes
  pub number : version_number bytes ≡ number_of v

-- the IP version with this number, if there is one (RFC 791, RFC 8200)
abbrev pub version_named : ℕ → Option IpVersion
version_named n = if n == 4 then Some Ipv4 else (if n == 6 then Some Ipv6 else None)

-- the IP version in the first four bits of a packet, if they are the number of one
-- (RFC 791, section 3.1; RFC 8200, section 3)
unfoldable pub packet_version : List ℕ → Option IpVersion
packet_version bytes = if nat_le 1 (length bytes) then version_named (version_number bytes) else None

-- the printed text of an IP version
abbrev pub version_text : IpVersion → List ℕ
version_text Ipv4 = codes "IPv4"
version_text Ipv6 = codes "IPv6"

-- the hashed value of an IP version: the index of its variant
abbrev pub version_hash : IpVersion → hash.HashWrites
version_hash Ipv4 = hash.isize (pos 0)
version_hash Ipv6 = hash.isize (pos 1)
