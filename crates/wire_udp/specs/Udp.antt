-- UDP packets (RFC 768; over IPv6 RFC 8200, section 8.1).
-- Pinned by: `wire/udp`, `calls/udp`, `cases/udp_lengths`, `cases/udp_checksums`, `wire/checksum`
-- Pinned by: `calls/worked_transport`
use Rattle.std.specs.Prelude.{ℕ, ◌≡◌, ◌≢◌, ◌≤◌, ◌+◌, ◌-◌, ◌⊎◌, ◌++◌, ◌==◌, ◌&&◌, ◌||◌, not, nat_le, if◌then◌else◌, Bool, true, false, IsTrue, Option, Some, None, List, length, slice_range, take}
use Rattle.std.specs.Borrow.{Bor, MutBor}
use Rattle.byteorder.specs.Endian.{big_bytes}
use Rattle.wire_addr.specs.IpAddress.{address_bytes, version_of}
use Rattle.wire_addr.specs.declared.ip_address.IpAddress.{IpAddress}
use Rattle.wire_addr.specs.declared.ip_address.IpAddress.TheVariants as address
use Rattle.wire_addr.specs.declared.ip_version.IpVersion.TheVariants as version
use Rattle.net_base.specs.Field.{field, with_field}
use Rattle.net_base.specs.Borrow.{Holds}
use Rattle.wire_checksum.specs.PseudoHeader.{pseudo_header_bytes, with_pseudo_header}
use Rattle.wire_checksum.specs.WordSum.{sum_of_bytes, updated}
use Rattle.wire_addr.specs.declared.ip_protocol.IpProtocol.TheVariants as protocol
use Rattle.wire_udp.specs.declared.udp.packet.UdpView.{UdpView}
use Rattle.wire_udp.specs.declared.udp.repr.UdpRepr.{UdpRepr}

-- a reading view of a UDP packet
abbrev pub Reading : Type 0
Reading = UdpView (Bor (List ℕ))

-- a mutable view of a UDP packet
abbrev pub Writing : Type 0
Writing = UdpView (MutBor (List ℕ))

-- the slice under a view
abbrev pub packet_slice : {B : Type 0} → UdpView B → B
packet_slice p = p.buffer

-- the bytes under a reading view
abbrev pub packet_bytes : Reading → List ℕ
packet_bytes p = (packet_slice p).now

-- the bytes under a mutable view
abbrev pub packet_bytes_mut : Writing → List ℕ
packet_bytes_mut p = (packet_slice p).now

-- the view still borrows the same slice, and the slice now holds these bytes
abbrev pub Becomes : Writing → Writing → List ℕ → Type 0
Becomes old new bytes = Holds (packet_slice old) (packet_slice new) bytes

-- the source port; 0 if the sender has none
abbrev pub src_port_of : List ℕ → ℕ
src_port_of bytes = field bytes 0 16

-- the destination port
abbrev pub dst_port_of : List ℕ → ℕ
dst_port_of bytes = field bytes 16 16

-- the checksum field; 0 if the sender computed no checksum
abbrev pub checksum_of : List ℕ → ℕ
checksum_of bytes = field bytes 48 16

-- the bytes with this source port
abbrev pub with_src_port : List ℕ → ℕ → List ℕ
with_src_port bytes x = with_field bytes 0 16 x

-- the bytes with this destination port
abbrev pub with_dst_port : List ℕ → ℕ → List ℕ
with_dst_port bytes x = with_field bytes 16 16 x

-- the bytes with this number in the checksum field
abbrev pub with_checksum_field : List ℕ → ℕ → List ℕ
with_checksum_field bytes x = with_field bytes 48 16 x

-- the length field: the length of header and payload in bytes
abbrev pub packet_len : List ℕ → ℕ
packet_len bytes = field bytes 32 16

-- the length of the longest payload in bytes: the length field counts the 8 bytes of the header too
abbrev pub max_payload_len : ℕ
max_payload_len = 65527

-- the payload: the bytes after the header, up to the length field
abbrev pub payload_of : List ℕ → List ℕ
payload_of bytes = slice_range bytes 8 (packet_len bytes)

-- the lengths are valid: the bytes hold a whole header, and as many bytes as the length field says
pub record HasLengths (bytes : List ℕ) : Type 0 where
  pub least : 8 ≤ length bytes
  pub header : 8 ≤ packet_len bytes
  pub whole : packet_len bytes ≤ length bytes

-- ---- the checksum

-- the sum of the pseudo-header of a packet between two addresses
abbrev pub pseudo_header_sum : IpAddress → IpAddress → List ℕ → ℕ
pseudo_header_sum src dst bytes = sum_of_bytes (pseudo_header_bytes (address_bytes src) (address_bytes dst) protocol.Udp (packet_len bytes))

-- the sum of a packet between two addresses and its pseudo-header
abbrev pub packet_sum : IpAddress → IpAddress → List ℕ → ℕ
packet_sum src dst packet = sum_of_bytes (with_pseudo_header src dst protocol.Udp packet)

-- the checksum is correct: the sum of pseudo-header and packet is 0xffff
abbrev pub Verifies : IpAddress → IpAddress → List ℕ → Type 0
Verifies src dst bytes = packet_sum src dst (take (packet_len bytes) bytes) ≡ 65535

-- the checksum is valid: not 0 and correct, or 0 over IPv4
abbrev pub HasChecksum : IpAddress → IpAddress → List ℕ → Type 0
HasChecksum src dst bytes = ((checksum_of bytes ≡ 0) × (version_of src ≡ version.Ipv4)) ⊎ ((checksum_of bytes ≢ 0) × Verifies src dst bytes)

-- the checksum of a sum: its complement, or 0xffff instead of 0, because 0 means that there is no checksum
abbrev pub checksum_for : ℕ → ℕ
checksum_for sum = if 65535 - sum == 0 then 65535 else 65535 - sum

-- the bytes with a correct checksum of the packet at their front, computed with 0 in the checksum field
abbrev pub with_checksum : IpAddress → IpAddress → List ℕ → List ℕ
with_checksum src dst bytes =
    let zeroed = with_checksum_field bytes 0 in
    with_checksum_field zeroed (checksum_for (packet_sum src dst (take (packet_len bytes) zeroed)))

-- the bytes with the checksum updated, after words that it covers changed from the sum old to the sum new; 0, which
-- means that there is no checksum, stays
abbrev pub with_updated_checksum : List ℕ → ℕ → ℕ → List ℕ
with_updated_checksum bytes old new =
    let checksum = checksum_of bytes in
    if checksum == 0 then bytes else with_checksum_field bytes (checksum_for (65535 - updated checksum old new))

-- ---- reading and writing

-- the bytes begin with a packet between two addresses that parses as this value and payload
pub record Reads (bytes : List ℕ) (src dst : IpAddress) (verified : Bool) (v : UdpRepr) (payload : List ℕ) : Type 0 where
  pub lengths : HasLengths bytes
  pub receiver : dst_port_of bytes ≢ 0
  pub checksum : IsTrue verified → HasChecksum src dst bytes
  pub src_port : v.src_port ≡ src_port_of bytes
  pub dst_port : v.dst_port ≡ dst_port_of bytes
  pub body : payload ≡ payload_of bytes

-- the values of the fields of a UDP header
abbrev pub header_of : List ℕ → UdpRepr
header_of bytes = record { src_port = src_port_of bytes; dst_port = dst_port_of bytes }

-- whether the lengths are valid
abbrev pub has_lengths : List ℕ → Bool
has_lengths bytes = nat_le 8 (length bytes) && nat_le 8 (packet_len bytes) && nat_le (packet_len bytes) (length bytes)

-- whether an address is an IPv4 address
abbrev pub is_ipv4 : IpAddress → Bool
is_ipv4 (address.Ipv4 bytes) = true
is_ipv4 (address.Ipv6 bytes) = false

-- whether the checksum is valid
abbrev pub has_checksum : IpAddress → IpAddress → List ℕ → Bool
has_checksum src dst bytes = if checksum_of bytes == 0 then is_ipv4 src else packet_sum src dst (take (packet_len bytes) bytes) == 65535

-- whether the bytes parse
abbrev pub is_read : IpAddress → IpAddress → Bool → List ℕ → Bool
is_read src dst verified bytes = has_lengths bytes && not (dst_port_of bytes == 0) && (not verified || has_checksum src dst bytes)

-- the value that the bytes parse as, if there is one
unfoldable pub udp_of : IpAddress → IpAddress → Bool → List ℕ → Option UdpRepr
udp_of src dst verified bytes = if is_read src dst verified bytes then Some (header_of bytes) else None

-- the UDP header with these values, for a payload of this length, with this checksum
abbrev pub header_bytes : UdpRepr → ℕ → ℕ → List ℕ
header_bytes v payload_len checksum = big_bytes 2 v.src_port ++ big_bytes 2 v.dst_port ++ big_bytes 2 (8 + payload_len) ++ big_bytes 2 checksum

-- the UDP packet with this checksum: header and payload
abbrev pub packet_with : UdpRepr → List ℕ → ℕ → List ℕ
packet_with v payload checksum = header_bytes v (length payload) checksum ++ payload

-- the UDP packet with these values and this payload, with its checksum if it is computed, else with 0
abbrev pub bytes_of : UdpRepr → List ℕ → IpAddress → IpAddress → Bool → List ℕ
bytes_of v payload src dst computed = packet_with v payload (if computed then checksum_for (packet_sum src dst (packet_with v payload 0)) else 0)
