-- Ethernet II frames.
-- Pinned by: `wire/ethernet`, `cases/types`, `wire/orders`
use Rattle.std.specs.Prelude.{ℕ, ◌≡◌, ◌≤◌, ◌/◌, ◌%◌, ◌++◌, ◌==◌, nat_le, if◌then◌else◌, Option, Some, None, List, codes, length, slice_range}
use Rattle.std.specs.Borrow.{Bor, MutBor}
use Rattle.std.specs.Option.{option_map_or}
use Rattle.byteorder.specs.Endian.{big_bytes}
use Rattle.wire_addr.specs.Printed.{dashed, hex_byte}
use Rattle.net_base.specs.Field.{field}
use Rattle.net_base.specs.Borrow.{Holds}
use Rattle.wire_ethernet.specs.declared.ethernet.EthernetView.{EthernetView}
use Rattle.wire_ethernet.specs.declared.ethernet.EthernetRepr.{EthernetRepr}
use Rattle.wire_ethernet.specs.declared.ethernet.EthernetProtocol.{EthernetProtocol}
use Rattle.wire_ethernet.specs.declared.ethernet.EthernetProtocol.TheVariants.{Ipv4, Arp, Ipv6, Unknown}

-- the EtherType that a number names
abbrev pub protocol_of : ℕ → EthernetProtocol
protocol_of n = if n == 0x0800 then Ipv4 else (if n == 0x0806 then Arp else (if n == 0x86dd then Ipv6 else Unknown n))

-- the number of an EtherType
abbrev pub number_of : EthernetProtocol → ℕ
number_of Ipv4 = 0x0800
number_of Arp = 0x0806
number_of Ipv6 = 0x86dd
number_of (Unknown n) = n

-- 1 for an EtherType without a name, else 0
abbrev pub is_unknown : EthernetProtocol → ℕ
is_unknown (Unknown n) = 1
is_unknown p = 0

-- the normal form of an EtherType: a number that has a name becomes that name
abbrev pub known : EthernetProtocol → EthernetProtocol
known p = protocol_of (number_of p)

-- the printed text of an EtherType: its name, or `0x` and four hex digits
abbrev pub protocol_text : EthernetProtocol → List ℕ
protocol_text Ipv4 = codes "IPv4"
protocol_text Arp = codes "ARP"
protocol_text Ipv6 = codes "IPv6"
protocol_text (Unknown n) = codes "0x" ++ hex_byte (n / 256) ++ hex_byte (n % 256)

-- a reading view of a frame
abbrev pub Reading : Type 0
Reading = EthernetView (Bor (List ℕ))

-- a mutable view of a frame
abbrev pub Writing : Type 0
Writing = EthernetView (MutBor (List ℕ))

-- the slice under a view
abbrev pub frame_slice : {B : Type 0} → EthernetView B → B
frame_slice f = f.buffer

-- the bytes under a reading view
abbrev pub frame_bytes : Reading → List ℕ
frame_bytes f = (frame_slice f).now

-- the bytes under a mutable view
abbrev pub frame_bytes_mut : Writing → List ℕ
frame_bytes_mut f = (frame_slice f).now

-- the view still borrows the same slice, and the slice now holds these bytes
abbrev pub Becomes : Writing → Writing → List ℕ → Type 0
Becomes old new bytes = Holds (frame_slice old) (frame_slice new) bytes

-- the destination address
abbrev pub dst_addr_of : List ℕ → List ℕ
dst_addr_of bytes = slice_range bytes 0 6

-- the source address
abbrev pub src_addr_of : List ℕ → List ℕ
src_addr_of bytes = slice_range bytes 6 12

-- the EtherType
abbrev pub ethertype_of : List ℕ → EthernetProtocol
ethertype_of bytes = protocol_of (field bytes 96 16)

-- the bytes begin with an Ethernet header that parses as this value
pub record Reads (bytes : List ℕ) (v : EthernetRepr) : Type 0 where
  pub whole : 14 ≤ length bytes
  pub dst_addr : v.dst_addr.0 ≡ dst_addr_of bytes
  pub src_addr : v.src_addr.0 ≡ src_addr_of bytes
  pub ethertype : v.ethertype ≡ ethertype_of bytes

-- the values of the fields of an Ethernet header
abbrev pub header_of : List ℕ → EthernetRepr
header_of bytes = record {
  dst_addr = record { 0 = dst_addr_of bytes };
  src_addr = record { 0 = src_addr_of bytes };
  ethertype = ethertype_of bytes;
}

-- the Ethernet header that the bytes parse as, if there is one
unfoldable pub ethernet_of : List ℕ → Option EthernetRepr
ethernet_of bytes = if nat_le 14 (length bytes) then Some (header_of bytes) else None

-- the Ethernet header with these values
abbrev pub bytes_of : EthernetRepr → List ℕ
bytes_of v = v.dst_addr.0 ++ v.src_addr.0 ++ big_bytes 2 (number_of v.ethertype)

-- the normal form: the value that its header parses as; an EtherType that has a name becomes that name
abbrev pub normal : EthernetRepr → EthernetRepr
normal v = record v { ethertype = known v.ethertype }

-- the printed text of an Ethernet header's values
abbrev pub header_text : EthernetRepr → List ℕ
header_text v =
    codes "EthernetII src=" ++ dashed v.src_addr.0 ++ codes " dst=" ++ dashed v.dst_addr.0 ++ codes " type=" ++ protocol_text v.ethertype

-- the printed text of a frame: that of its Ethernet header, or that the bytes do not parse
abbrev pub frame_text : List ℕ → List ℕ
frame_text bytes = option_map_or header_text (ethernet_of bytes) (codes "EthernetII (wire::Error)")
