-- IPv6 headers (RFC 8200, section 3).
-- Pinned by: `wire/ipv6`, `wire/ipv6fragment`, `cases/ipv6_versions_and_lengths`, `wire/ip`
-- Pinned by: `cases/ipv6_truncations`, `calls/worked_headers`, `calls/header`
use Rattle.std.specs.Prelude.{ℕ, ◌≡◌, ◌≤◌, ◌+◌, ◌++◌, ◌==◌, ◌&&◌, nat_le, if◌then◌else◌, Bool, Option, Some, None, List, [], ◌∷◌, length, slice_range}
use Rattle.std.specs.Borrow.{Bor, MutBor}
use Rattle.byteorder.specs.Endian.{big_bytes}
use Rattle.net_base.specs.Field.{field}
use Rattle.net_base.specs.Borrow.{Holds}
use Rattle.wire_addr.specs.Protocol.{known, number_of, protocol_of}
use Rattle.wire_addr.specs.declared.ip_protocol.IpProtocol.{IpProtocol}
use Rattle.wire_ipv6.specs.declared.ipv6.packet.Ipv6View.{Ipv6View}
use Rattle.wire_ipv6.specs.declared.ipv6.repr.Ipv6Repr.{Ipv6Repr}

-- a reading view of a packet
abbrev pub Reading : Type 0
Reading = Ipv6View (Bor (List ℕ))

-- a mutable view of a packet
abbrev pub Writing : Type 0
Writing = Ipv6View (MutBor (List ℕ))

-- the slice under a view
abbrev pub packet_slice : {B : Type 0} → Ipv6View B → B
packet_slice p = p.buffer

-- the bytes under a reading view
abbrev pub packet_bytes : Reading → List ℕ
packet_bytes p = (packet_slice p).now

-- the bytes under a mutable view
abbrev pub packet_bytes_mut : Writing → List ℕ
packet_bytes_mut p = (packet_slice p).now

-- the view still borrows the same slice, and the slice now holds these bytes
abbrev pub Becomes : Writing → Writing → List ℕ → Type 0
Becomes old new bytes = Holds (packet_slice old) (packet_slice new) bytes

-- the version field
abbrev pub ip_version_of : List ℕ → ℕ
ip_version_of bytes = field bytes 0 4

-- the length of the payload in bytes
abbrev pub payload_len_of : List ℕ → ℕ
payload_len_of bytes = field bytes 32 16

-- the protocol of the payload, or the type of the first extension header
abbrev pub next_header_of : List ℕ → IpProtocol
next_header_of bytes = protocol_of (field bytes 48 8)

-- the hop limit
abbrev pub hop_limit_of : List ℕ → ℕ
hop_limit_of bytes = field bytes 56 8

-- the source address
abbrev pub src_addr_of : List ℕ → List ℕ
src_addr_of bytes = slice_range bytes 8 24

-- the destination address
abbrev pub dst_addr_of : List ℕ → List ℕ
dst_addr_of bytes = slice_range bytes 24 40

-- the length of the packet in bytes: header and payload
abbrev pub total_len : List ℕ → ℕ
total_len bytes = 40 + payload_len_of bytes

-- the payload: the bytes after the header, up to the end of the packet
abbrev pub payload_of : List ℕ → List ℕ
payload_of bytes = slice_range bytes 40 (total_len bytes)

-- the lengths are valid: the bytes hold a whole header, and a payload of the length that it says
abbrev pub HasLengths : List ℕ → Type 0
HasLengths bytes = total_len bytes ≤ length bytes

-- the bytes begin with a packet that parses as this value
pub record Reads (bytes : List ℕ) (v : Ipv6Repr) : Type 0 where
  pub lengths : HasLengths bytes
  pub version : ip_version_of bytes ≡ 6
  pub payload_len : v.payload_len ≡ payload_len_of bytes
  pub next_header : v.next_header ≡ next_header_of bytes
  pub hop_limit : v.hop_limit ≡ hop_limit_of bytes
  pub src_addr : v.src_addr ≡ src_addr_of bytes
  pub dst_addr : v.dst_addr ≡ dst_addr_of bytes

-- the values of the fields of an IPv6 header
abbrev pub header_of : List ℕ → Ipv6Repr
header_of bytes = record {
  src_addr = src_addr_of bytes;
  dst_addr = dst_addr_of bytes;
  next_header = next_header_of bytes;
  payload_len = payload_len_of bytes;
  hop_limit = hop_limit_of bytes;
}

-- whether the bytes parse
abbrev pub is_read : List ℕ → Bool
is_read bytes = nat_le (total_len bytes) (length bytes) && ip_version_of bytes == 6

-- the value that the bytes parse as, if there is one
unfoldable pub ipv6_of : List ℕ → Option Ipv6Repr
ipv6_of bytes = if is_read bytes then Some (header_of bytes) else None

-- the header with these values: version 6, traffic class 0, flow label 0
abbrev pub bytes_of : Ipv6Repr → List ℕ
bytes_of v =
    (0x60 ∷ 0 ∷ 0 ∷ 0 ∷ []) ++ big_bytes 2 v.payload_len ++ (number_of v.next_header ∷ v.hop_limit ∷ []) ++ v.src_addr ++ v.dst_addr

-- the normal form: the value that its header parses as; a protocol number that has a name becomes that name
abbrev pub normal : Ipv6Repr → Ipv6Repr
normal v = record v { next_header = known v.next_header }
