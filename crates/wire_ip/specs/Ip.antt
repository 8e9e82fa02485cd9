-- IP headers of either version (RFC 791, section 3.1; RFC 8200, section 3).
-- Pinned by: `wire/ip`, `calls/worked_headers`, `calls/header`, `cases/shapes`, `wire/frame`
use Rattle.std.specs.Prelude.{ℕ, Bool, Option, List, option_and_then, option_map, slice_range}
use Rattle.wire_addr.specs.IpVersion.{IsOfVersion, packet_version}
use Rattle.wire_addr.specs.declared.ip_address.IpAddress.{IpAddress}
use Rattle.wire_addr.specs.declared.ip_address.IpAddress.TheVariants as address
use Rattle.wire_addr.specs.declared.ip_version.IpVersion.{IpVersion}
use Rattle.wire_addr.specs.declared.ip_version.IpVersion.TheVariants as version
use Rattle.wire_ipv4.specs.Ipv4 as ipv4
use Rattle.wire_addr.specs.declared.ip_protocol.IpProtocol.{IpProtocol}
use Rattle.wire_ipv6.specs.Ipv6 as ipv6
use Rattle.wire_ip.specs.declared.ip.packet.IpPacket.{IpPacket}
use Rattle.wire_ip.specs.declared.ip.repr.IpRepr.{IpRepr}
use Rattle.wire_ip.specs.declared.ip.repr.IpRepr.TheVariants.{Ipv4, Ipv6}

-- the bytes under a view
abbrev pub packet_bytes : IpPacket → List ℕ
packet_bytes p = p.buffer.now

-- ---- the parts of a value

-- the IP version of a header
abbrev pub version_of : IpRepr → IpVersion
version_of (Ipv4 v) = version.Ipv4
version_of (Ipv6 v) = version.Ipv6

-- the source address in a header
abbrev pub src_addr_of : IpRepr → IpAddress
src_addr_of (Ipv4 v) = address.Ipv4 v.src_addr
src_addr_of (Ipv6 v) = address.Ipv6 v.src_addr

-- the destination address in a header
abbrev pub dst_addr_of : IpRepr → IpAddress
dst_addr_of (Ipv4 v) = address.Ipv4 v.dst_addr
dst_addr_of (Ipv6 v) = address.Ipv6 v.dst_addr

-- the protocol of the payload, as a header says
abbrev pub next_header_of : IpRepr → IpProtocol
next_header_of (Ipv4 v) = v.next_header
next_header_of (Ipv6 v) = v.next_header

-- the length of the payload, as a header says
abbrev pub payload_len_of : IpRepr → ℕ
payload_len_of (Ipv4 v) = v.payload_len
payload_len_of (Ipv6 v) = v.payload_len

-- the hop limit of a header
abbrev pub hop_limit_of : IpRepr → ℕ
hop_limit_of (Ipv4 v) = v.hop_limit
hop_limit_of (Ipv6 v) = v.hop_limit

-- the header with another length of the payload
abbrev pub with_payload_len : IpRepr → ℕ → IpRepr
with_payload_len (Ipv4 v) len = Ipv4 (record v { payload_len = len })
with_payload_len (Ipv6 v) len = Ipv6 (record v { payload_len = len })

-- the header with this protocol and this length of the payload
abbrev pub header_before : IpRepr → IpProtocol → ℕ → IpRepr
header_before (Ipv4 v) p n = Ipv4 (record v { next_header = p; payload_len = n })
header_before (Ipv6 v) p n = Ipv6 (record v { next_header = p; payload_len = n })

-- the length of an emitted header in bytes
abbrev pub header_len_of : IpRepr → ℕ
header_len_of (Ipv4 v) = 20
header_len_of (Ipv6 v) = 40

-- the length of the longest payload that a header of this version can express
abbrev pub max_payload_len : IpRepr → ℕ
max_payload_len (Ipv4 v) = ipv4.max_payload_len
max_payload_len (Ipv6 v) = 65535

-- ---- a packet's payload

-- the lengths of the header of this version are valid: the bytes hold a whole header and the payload
abbrev pub HasLengths : List ℕ → IpVersion → Type 0
HasLengths bytes version.Ipv4 = ipv4.HasLengths bytes
HasLengths bytes version.Ipv6 = ipv6.HasLengths bytes

-- the payload of a packet of this version: the bytes after the header, up to the end of the packet
abbrev pub payload_of : List ℕ → IpVersion → List ℕ
payload_of bytes version.Ipv4 = slice_range bytes (ipv4.header_len bytes) (ipv4.total_len bytes)
payload_of bytes version.Ipv6 = ipv6.payload_of bytes

-- ---- reading and writing

-- the bytes parse as this header by the rules of its version
abbrev pub ReadsHeader : List ℕ → Bool → IpRepr → Type 0
ReadsHeader bytes verified (Ipv4 v) = ipv4.Reads bytes verified v
ReadsHeader bytes verified (Ipv6 v) = ipv6.Reads bytes v

-- the bytes begin with a packet that parses as this value
pub record Reads (bytes : List ℕ) (verified : Bool) (v : IpRepr) : Type 0 where
  pub version : IsOfVersion bytes (version_of v)
  pub header : ReadsHeader bytes verified v

-- the value that the bytes parse as by the rules of a version, if there is one
abbrev pub header_of_version : Bool → List ℕ → IpVersion → Option IpRepr
header_of_version verified bytes version.Ipv4 = option_map Ipv4 (ipv4.ipv4_of verified bytes)
header_of_version verified bytes version.Ipv6 = option_map Ipv6 (ipv6.ipv6_of bytes)

-- the value that the bytes parse as, if there is one
unfoldable pub ip_of : Bool → List ℕ → Option IpRepr
ip_of verified bytes = option_and_then (header_of_version verified bytes) (packet_version bytes)

-- the header with these values; the checksum of IPv4 is 0 if it is not computed
abbrev pub bytes_of : IpRepr → Bool → List ℕ
bytes_of (Ipv4 v) computed = ipv4.bytes_of v computed
bytes_of (Ipv6 v) computed = ipv6.bytes_of v

-- the normal form: the value that its header parses as; a protocol number that has a name becomes that name
abbrev pub normal : IpRepr → IpRepr
normal (Ipv4 v) = Ipv4 (ipv4.normal v)
normal (Ipv6 v) = Ipv6 (ipv6.normal v)
