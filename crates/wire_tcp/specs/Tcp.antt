-- TCP segments (RFC 9293, section 3.1).
-- Pinned by: `wire/tcp`, `cases/tcp_lengths`, `calls/worked_transport`, `cases/tcp_checksums`
use Rattle.std.specs.Prelude.{ℕ, Bool, if◌then◌else◌, nat_le, ◌&&◌, ◌≡◌, ◌≤◌, ◌+◌, ◌-◌, ◌*◌, List, drop, length, slice_range}
use Rattle.std.specs.Borrow.{Bor, MutBor}
use Rattle.wire_addr.specs.declared.ip_address.IpAddress.{IpAddress}
use Rattle.net_base.specs.Field.{field, with_field}
use Rattle.net_base.specs.Borrow.{Holds}
use Rattle.wire_checksum.specs.PseudoHeader.{pseudo_header_bytes, with_pseudo_header}
use Rattle.wire_addr.specs.IpAddress.{address_bytes}
use Rattle.wire_checksum.specs.WordSum.{sum_of_bytes, updated}
use Rattle.wire_addr.specs.declared.ip_protocol.IpProtocol.TheVariants as protocol
use Rattle.wire_tcp.specs.declared.tcp.packet.TcpView.{TcpView}

-- the slice under a view
abbrev pub packet_slice : {B : Type 0} → TcpView B → B
packet_slice p = p.buffer

-- a reading view of a segment
abbrev pub Reading : Type 0
Reading = TcpView (Bor (List ℕ))

-- a mutable view of a segment
abbrev pub Writing : Type 0
Writing = TcpView (MutBor (List ℕ))

-- the bytes under a reading view
abbrev pub packet_bytes : Reading → List ℕ
packet_bytes p = (packet_slice p).now

-- the bytes under a mutable view
abbrev pub packet_bytes_mut : Writing → List ℕ
packet_bytes_mut p = (packet_slice p).now

-- the view still borrows the same slice, and the slice now holds these bytes
abbrev pub Becomes : Writing → Writing → List ℕ → Type 0
Becomes old new bytes = Holds (packet_slice old) (packet_slice new) bytes

-- the source port
abbrev pub src_port_of : List ℕ → ℕ
src_port_of bytes = field bytes 0 16

-- the destination port
abbrev pub dst_port_of : List ℕ → ℕ
dst_port_of bytes = field bytes 16 16

-- the 32 bits of the sequence number
abbrev pub seq_bits_of : List ℕ → ℕ
seq_bits_of bytes = field bytes 32 32

-- the 32 bits of the acknowledgement number
abbrev pub ack_bits_of : List ℕ → ℕ
ack_bits_of bytes = field bytes 64 32

-- the flag NS: 1 if it is set, else 0
abbrev pub ns_of : List ℕ → ℕ
ns_of bytes = field bytes 103 1

-- the flag CWR: 1 if it is set, else 0
abbrev pub cwr_of : List ℕ → ℕ
cwr_of bytes = field bytes 104 1

-- the flag ECE: 1 if it is set, else 0
abbrev pub ece_of : List ℕ → ℕ
ece_of bytes = field bytes 105 1

-- the flag URG: 1 if it is set, else 0
abbrev pub urg_of : List ℕ → ℕ
urg_of bytes = field bytes 106 1

-- the flag ACK: 1 if it is set, else 0
abbrev pub ack_of : List ℕ → ℕ
ack_of bytes = field bytes 107 1

-- the flag PSH: 1 if it is set, else 0
abbrev pub psh_of : List ℕ → ℕ
psh_of bytes = field bytes 108 1

-- the flag RST: 1 if it is set, else 0
abbrev pub rst_of : List ℕ → ℕ
rst_of bytes = field bytes 109 1

-- the flag SYN: 1 if it is set, else 0
abbrev pub syn_of : List ℕ → ℕ
syn_of bytes = field bytes 110 1

-- the flag FIN: 1 if it is set, else 0
abbrev pub fin_of : List ℕ → ℕ
fin_of bytes = field bytes 111 1

-- the window
abbrev pub window_len_of : List ℕ → ℕ
window_len_of bytes = field bytes 112 16

-- the checksum field
abbrev pub checksum_of : List ℕ → ℕ
checksum_of bytes = field bytes 128 16

-- the urgent pointer
abbrev pub urgent_at_of : List ℕ → ℕ
urgent_at_of bytes = field bytes 144 16

-- the bytes with this source port
abbrev pub with_src_port : List ℕ → ℕ → List ℕ
with_src_port bytes x = with_field bytes 0 16 x

-- the bytes with this destination port
abbrev pub with_dst_port : List ℕ → ℕ → List ℕ
with_dst_port bytes x = with_field bytes 16 16 x

-- the bytes with this window
abbrev pub with_window_len : List ℕ → ℕ → List ℕ
with_window_len bytes x = with_field bytes 112 16 x

-- the bytes with this number in the checksum field
abbrev pub with_checksum_field : List ℕ → ℕ → List ℕ
with_checksum_field bytes x = with_field bytes 128 16 x

-- the length of the header in bytes: the data offset counts words of 4
abbrev pub header_len : List ℕ → ℕ
header_len bytes = 4 * field bytes 96 4

-- the bytes of the options, up to the end of the header
abbrev pub options_of : List ℕ → List ℕ
options_of bytes = slice_range bytes 20 (header_len bytes)

-- the payload: all bytes after the header
abbrev pub payload_of : List ℕ → List ℕ
payload_of bytes = drop (header_len bytes) bytes

-- the number of sequence numbers that a segment uses: one for each byte of its payload, for SYN and for FIN
abbrev pub segment_len : List ℕ → ℕ
segment_len bytes = length bytes - header_len bytes + syn_of bytes + fin_of bytes

-- the bytes with a flag set or cleared
abbrev pub with_flag : List ℕ → ℕ → Bool → List ℕ
with_flag bytes place value = with_field bytes place 1 (if value then 1 else 0)

-- the lengths are valid: the header has at least 20 bytes, and the bytes hold all of it
pub record HasLengths (bytes : List ℕ) : Type 0 where
  pub least : 20 ≤ length bytes
  pub header : 20 ≤ header_len bytes
  pub whole : header_len bytes ≤ length bytes

-- whether the lengths are valid
abbrev pub has_lengths : List ℕ → Bool
has_lengths bytes = nat_le 20 (length bytes) && nat_le 20 (header_len bytes) && nat_le (header_len bytes) (length bytes)

-- ---- the checksum

-- the sum of the pseudo-header of a segment between two addresses
abbrev pub pseudo_header_sum : IpAddress → IpAddress → List ℕ → ℕ
pseudo_header_sum src dst bytes = sum_of_bytes (pseudo_header_bytes (address_bytes src) (address_bytes dst) protocol.Tcp (length bytes))

-- the sum of a segment between two addresses and its pseudo-header
abbrev pub segment_sum : IpAddress → IpAddress → List ℕ → ℕ
segment_sum src dst bytes = sum_of_bytes (with_pseudo_header src dst protocol.Tcp bytes)

-- the checksum is correct: the sum of pseudo-header and segment is 0xffff
abbrev pub Verifies : IpAddress → IpAddress → List ℕ → Type 0
Verifies src dst bytes = segment_sum src dst bytes ≡ 65535

-- the bytes with a correct checksum: the complement of their sum with 0 in the checksum field
abbrev pub with_checksum : IpAddress → IpAddress → List ℕ → List ℕ
with_checksum src dst bytes =
    let zeroed = with_checksum_field bytes 0 in
    with_checksum_field zeroed (65535 - segment_sum src dst zeroed)

-- the bytes with the checksum updated, after words that it covers changed from the sum old to the sum new
abbrev pub with_updated_checksum : List ℕ → ℕ → ℕ → List ℕ
with_updated_checksum bytes old new = with_checksum_field bytes (updated (checksum_of bytes) old new)
