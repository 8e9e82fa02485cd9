-- ICMP messages (RFC 792; over IPv6 RFC 4443). The version is that of the addresses between which a message goes.
-- Pinned by: `wire/icmp`
use Rattle.std.specs.Prelude.{ℕ, ◌≡◌, ◌≢◌, ◌≤◌, ◌+◌, ◌-◌, ◌*◌, ◌/◌, ◌%◌, ◌++◌, ◌==◌, ◌&&◌, ◌||◌, not, nat_le, if◌then◌else◌, min, Bool, true, false, IsTrue, Option, Some, None, List, ◌∷◌, length, drop}
use Rattle.std.specs.Borrow.{Bor, MutBor}
use Rattle.byteorder.specs.Endian.{big_bytes}
use Rattle.net_base.specs.declared.checksum.Checksum.{Checksum}
use Rattle.net_base.specs.declared.checksum.ChecksumCapabilities.{ChecksumCapabilities}
use Rattle.wire_addr.specs.IpAddress.{version_of}
use Rattle.wire_addr.specs.declared.ip_address.IpAddress.{IpAddress}
use Rattle.wire_addr.specs.declared.ip_address.IpAddress.TheVariants as address
use Rattle.wire_addr.specs.declared.ip_protocol.IpProtocol.{IpProtocol}
use Rattle.wire_addr.specs.declared.ip_protocol.IpProtocol.TheVariants as protocol
use Rattle.wire_addr.specs.declared.ip_version.IpVersion.{IpVersion}
use Rattle.wire_addr.specs.declared.ip_version.IpVersion.TheVariants as version
use Rattle.net_base.specs.Field.{field, with_field}
use Rattle.net_base.specs.Borrow.{Holds}
use Rattle.wire_checksum.specs.PseudoHeader.{with_pseudo_header}
use Rattle.wire_checksum.specs.WordSum.{sum_of_bytes, updated}
use Rattle.wire_icmp.specs.declared.icmp.header.IcmpHeader.{IcmpHeader}
use Rattle.wire_icmp.specs.declared.icmp.packet.IcmpView.{IcmpView}
use Rattle.wire_icmp.specs.declared.icmp.repr.IcmpRepr.{IcmpRepr}
use Rattle.wire_icmp.specs.declared.icmp.repr.IcmpRepr.TheVariants.{EchoRequest, EchoReply, DstUnreachable, PktTooBig, TimeExceeded, ParamProblem}
use Rattle.wire_icmp.specs.declared.icmp.reason.Unreachable.{Unreachable}
use Rattle.wire_icmp.specs.declared.icmp.reason.Unreachable.TheVariants as unreachable
use Rattle.wire_icmp.specs.declared.icmp.reason.Exceeded.{Exceeded}
use Rattle.wire_icmp.specs.declared.icmp.reason.Exceeded.TheVariants as exceeded

-- a reading view of a message
abbrev pub Reading : Type 0
Reading = IcmpView (Bor (List ℕ))

-- a mutable view of a message
abbrev pub Writing : Type 0
Writing = IcmpView (MutBor (List ℕ))

-- the slice under a view
abbrev pub packet_slice : {B : Type 0} → IcmpView B → B
packet_slice p = p.buffer

-- the bytes under a reading view
abbrev pub packet_bytes : Reading → List ℕ
packet_bytes p = (packet_slice p).now

-- the bytes under a mutable view
abbrev pub packet_bytes_mut : Writing → List ℕ
packet_bytes_mut p = (packet_slice p).now

-- the view still borrows the same slice, and the slice now holds these bytes
abbrev pub Becomes : Writing → Writing → List ℕ → Type 0
Becomes old new bytes = Holds (packet_slice old) (packet_slice new) bytes

-- the bytes hold a whole header
abbrev pub HasHeader : List ℕ → Type 0
HasHeader bytes = 8 ≤ length bytes

-- whether the bytes hold a whole header
abbrev pub has_header : List ℕ → Bool
has_header bytes = nat_le 8 (length bytes)

-- the type field of a message
abbrev pub msg_type_of : List ℕ → ℕ
msg_type_of bytes = field bytes 0 8

-- the code field of a message
abbrev pub msg_code_of : List ℕ → ℕ
msg_code_of bytes = field bytes 8 8

-- the checksum field of a message
abbrev pub checksum_of : List ℕ → ℕ
checksum_of bytes = field bytes 16 16

-- the second word of the header of a message
abbrev pub second_word_of : List ℕ → ℕ
second_word_of bytes = field bytes 32 32

-- the identifier of an echo, the first 16 bits of the second word
abbrev pub echo_ident_of : List ℕ → ℕ
echo_ident_of bytes = field bytes 32 16

-- the payload, all bytes after the header: the data of an echo, or the packet that an error quotes
abbrev pub payload_of : List ℕ → List ℕ
payload_of bytes = drop 8 bytes

-- the IP protocol of the ICMP messages of a version
abbrev pub protocol_of : IpVersion → IpProtocol
protocol_of version.Ipv4 = protocol.Icmp
protocol_of version.Ipv6 = protocol.Icmpv6

-- ---- the checksum

-- whether the checksum of the messages of a version is verified and computed
abbrev pub choice_of : IpVersion → ChecksumCapabilities → Checksum
choice_of version.Ipv4 caps = caps.icmpv4
choice_of version.Ipv6 caps = caps.icmpv6

-- the bytes that the checksum covers: the message, and over IPv6 a pseudo-header before it
abbrev pub covered : IpAddress → IpAddress → List ℕ → List ℕ
covered (address.Ipv4 src) dst bytes = bytes
covered (address.Ipv6 src) dst bytes = with_pseudo_header (address.Ipv6 src) dst protocol.Icmpv6 bytes

-- the sum of the bytes that the checksum covers
abbrev pub message_sum : IpAddress → IpAddress → List ℕ → ℕ
message_sum src dst bytes = sum_of_bytes (covered src dst bytes)

-- the checksum is correct: the sum of the bytes that it covers is 0xffff
abbrev pub Verifies : IpAddress → IpAddress → List ℕ → Type 0
Verifies src dst bytes = message_sum src dst bytes ≡ 65535

-- the bytes with a correct checksum: the complement of their sum with 0 in the checksum field
abbrev pub with_checksum : IpAddress → IpAddress → List ℕ → List ℕ
with_checksum src dst bytes =
    let zeroed = with_field bytes 16 16 0 in
    with_field zeroed 16 16 (65535 - message_sum src dst zeroed)

-- an updated checksum, or 0xffff instead of 0: a message whose other bytes are all 0 verifies with no other checksum
abbrev pub not_zero : ℕ → ℕ
not_zero checksum = if checksum == 0 then 65535 else checksum

-- the bytes with the checksum updated, after words that it covers changed from the sum old to the sum new
abbrev pub with_updated_checksum : List ℕ → ℕ → ℕ → List ℕ
with_updated_checksum bytes old new = with_field bytes 16 16 (not_zero (updated (checksum_of bytes) old new))

-- ---- types, codes, and the second word of a header

-- the codes of "destination unreachable" (RFC 792; RFC 1812, section 5.2.7.1; RFC 4443, section 3.1)
abbrev pub unreachable_code : IpVersion → Unreachable → ℕ
unreachable_code _ unreachable.NoRoute = 0
unreachable_code version.Ipv4 unreachable.Host = 1
unreachable_code version.Ipv6 unreachable.Host = 3
unreachable_code version.Ipv4 unreachable.Port = 3
unreachable_code version.Ipv6 unreachable.Port = 4
unreachable_code version.Ipv4 unreachable.Prohibited = 13
unreachable_code version.Ipv6 unreachable.Prohibited = 1
unreachable_code _ (unreachable.Other code) = code

-- the reason with this code of "destination unreachable"
abbrev pub unreachable_by : IpVersion → ℕ → Unreachable
unreachable_by version.Ipv4 n = if n == 0 then unreachable.NoRoute else (if n == 1 then unreachable.Host else (if n == 3 then unreachable.Port else (if n == 13 then unreachable.Prohibited else unreachable.Other n)))
unreachable_by version.Ipv6 n = if n == 0 then unreachable.NoRoute else (if n == 1 then unreachable.Prohibited else (if n == 3 then unreachable.Host else (if n == 4 then unreachable.Port else unreachable.Other n)))

-- the codes of "time exceeded", equal in both versions (RFC 792; RFC 4443, section 3.3)
abbrev pub exceeded_code : Exceeded → ℕ
exceeded_code exceeded.HopLimit = 0
exceeded_code exceeded.Reassembly = 1
exceeded_code (exceeded.Other code) = code

-- the reason with this code of "time exceeded"
abbrev pub exceeded_by : ℕ → Exceeded
exceeded_by n = if n == 0 then exceeded.HopLimit else (if n == 1 then exceeded.Reassembly else exceeded.Other n)

-- the type of the message of a value
abbrev pub type_of : IpVersion → IcmpRepr → ℕ
type_of version.Ipv4 (EchoReply ident seq_no) = 0
type_of version.Ipv4 (DstUnreachable reason) = 3
type_of version.Ipv4 (PktTooBig mtu) = 3
type_of version.Ipv4 (EchoRequest ident seq_no) = 8
type_of version.Ipv4 (TimeExceeded reason) = 11
type_of version.Ipv4 (ParamProblem code pointer) = 12
type_of version.Ipv6 (DstUnreachable reason) = 1
type_of version.Ipv6 (PktTooBig mtu) = 2
type_of version.Ipv6 (TimeExceeded reason) = 3
type_of version.Ipv6 (ParamProblem code pointer) = 4
type_of version.Ipv6 (EchoRequest ident seq_no) = 128
type_of version.Ipv6 (EchoReply ident seq_no) = 129

-- The code of the message of a value. Over IPv4 "packet too big" is "destination unreachable" with code 4 (RFC 1191,
-- section 4).
abbrev pub code_of : IpVersion → IcmpRepr → ℕ
code_of v (DstUnreachable reason) = unreachable_code v reason
code_of version.Ipv4 (PktTooBig mtu) = 4
code_of v (TimeExceeded reason) = exceeded_code reason
code_of v (ParamProblem code pointer) = code
code_of v _ = 0

-- The second word of the header of a value: identifier and sequence number; the MTU, of 16 bits over IPv4; the
-- pointer, over IPv4 in the first byte; else 0. A number that is too large for its bits becomes the largest one.
abbrev pub word_of : IpVersion → IcmpRepr → ℕ
word_of v (EchoRequest ident seq_no) = 65536 * ident + seq_no
word_of v (EchoReply ident seq_no) = 65536 * ident + seq_no
word_of version.Ipv4 (PktTooBig mtu) = min mtu 65535
word_of version.Ipv6 (PktTooBig mtu) = mtu
word_of version.Ipv4 (ParamProblem code pointer) = 16777216 * min pointer 255
word_of version.Ipv6 (ParamProblem code pointer) = pointer
word_of v _ = 0

-- The value of a header with this type, code and second word, if it is one of these messages. Bits of the word
-- without a meaning are ignored, and so is the code of "packet too big" over IPv6 (RFC 4443, section 3.2).
abbrev pub message_of : IpVersion → ℕ → ℕ → ℕ → Option IcmpRepr
message_of version.Ipv4 type code word =
    if type == 0 && code == 0 then Some (EchoReply (word / 65536) (word % 65536))
    else (if type == 3 && code == 4 then Some (PktTooBig (word % 65536))
    else (if type == 3 then Some (DstUnreachable (unreachable_by version.Ipv4 code))
    else (if type == 8 && code == 0 then Some (EchoRequest (word / 65536) (word % 65536))
    else (if type == 11 then Some (TimeExceeded (exceeded_by code))
    else (if type == 12 then Some (ParamProblem code (word / 16777216)) else None)))))
message_of version.Ipv6 type code word =
    if type == 1 then Some (DstUnreachable (unreachable_by version.Ipv6 code))
    else (if type == 2 then Some (PktTooBig word)
    else (if type == 3 then Some (TimeExceeded (exceeded_by code))
    else (if type == 4 then Some (ParamProblem code word)
    else (if type == 128 && code == 0 then Some (EchoRequest (word / 65536) (word % 65536))
    else (if type == 129 && code == 0 then Some (EchoReply (word / 65536) (word % 65536)) else None)))))

-- the header of the message of a value, without its checksum
abbrev pub header_of : IpVersion → IcmpRepr → IcmpHeader
header_of v value = record { msg_type = type_of v value; msg_code = code_of v value; word = word_of v value }

-- the value that an emitted message parses as
abbrev pub IsNormal : IpVersion → IcmpRepr → IcmpRepr → Type 0
IsNormal v value normal = message_of v (type_of v value) (code_of v value) (word_of v value) ≡ Some normal

-- the header of this version can express the value: its numbers fit, and a code that has a name is given by that name
abbrev pub IsExact : IpVersion → IcmpRepr → Type 0
IsExact version.Ipv4 (PktTooBig mtu) = mtu ≤ 65535
IsExact version.Ipv4 (ParamProblem code pointer) = pointer ≤ 255
IsExact version.Ipv4 (DstUnreachable (unreachable.Other code)) = (code ≢ 0) × (code ≢ 1) × (code ≢ 3) × (code ≢ 4) × (code ≢ 13)
IsExact version.Ipv6 (DstUnreachable (unreachable.Other code)) = (code ≢ 0) × (code ≢ 1) × (code ≢ 3) × (code ≢ 4)
IsExact v (TimeExceeded (exceeded.Other code)) = (code ≢ 0) × (code ≢ 1)
IsExact v value = Unit {0}

-- whether the value is an error: every message but the two of an echo
abbrev pub is_error : IcmpRepr → Bool
is_error (EchoRequest ident seq_no) = false
is_error (EchoReply ident seq_no) = false
is_error value = true

-- a message of this type is a query or an answer to one: no error may be sent about another message, which may be an error
-- or a redirect (RFC 1122, section 3.2.2; RFC 4443, section 2.4 e)
abbrev pub is_query : IpVersion → ℕ → Bool
is_query version.Ipv4 type = type == 0 || type == 8 || (nat_le 13 type && nat_le type 18)
is_query version.Ipv6 type = nat_le 128 type && not (type == 137)

-- ---- reading and writing

-- the bytes are a message between two addresses that parses as this value and payload
pub record Reads (bytes : List ℕ) (src dst : IpAddress) (verified : Bool) (v : IcmpRepr) (payload : List ℕ) : Type 0 where
  pub least : HasHeader bytes
  pub checksum : IsTrue verified → Verifies src dst bytes
  pub message : message_of (version_of src) (msg_type_of bytes) (msg_code_of bytes) (second_word_of bytes) ≡ Some v
  pub body : payload ≡ payload_of bytes

-- whether the checksum is correct
abbrev pub verifies : IpAddress → IpAddress → List ℕ → Bool
verifies src dst bytes = message_sum src dst bytes == 65535

-- the value that the bytes parse as, if there is one
unfoldable pub icmp_of : IpAddress → IpAddress → Bool → List ℕ → Option IcmpRepr
icmp_of src dst verified bytes =
    if has_header bytes && (not verified || verifies src dst bytes)
    then message_of (version_of src) (msg_type_of bytes) (msg_code_of bytes) (second_word_of bytes) else None

-- the header of a message with this checksum
abbrev pub header_bytes : IcmpHeader → ℕ → List ℕ
header_bytes h checksum = h.msg_type ∷ h.msg_code ∷ big_bytes 2 checksum ++ big_bytes 4 h.word

-- the message with this checksum: header and payload
abbrev pub message_with : IcmpHeader → List ℕ → ℕ → List ℕ
message_with h payload checksum = header_bytes h checksum ++ payload

-- the message with this header and payload, and with its checksum if it is computed, else with 0
abbrev pub emitted : IcmpHeader → List ℕ → IpAddress → IpAddress → Bool → List ℕ
emitted h payload src dst computed =
    message_with h payload (if computed then 65535 - message_sum src dst (message_with h payload 0) else 0)

-- the message of a value with this payload
abbrev pub bytes_of : IcmpRepr → List ℕ → IpAddress → IpAddress → Bool → List ℕ
bytes_of value payload src dst computed = emitted (header_of (version_of src) value) payload src dst computed
