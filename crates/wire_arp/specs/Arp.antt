-- ARP packets (RFC 826).
-- Pinned by: `wire/arp`, `cases/arp_lengths`, `calls/worked_headers`, `wire/orders`, `worked/read`
use Rattle.std.specs.Prelude.{ℕ, ◌≡◌, ◌≤◌, ◌+◌, ◌*◌, ◌++◌, ◌==◌, ◌&&◌, nat_le, bytes_eq, if◌then◌else◌, Bool, Option, Some, None, List, [], ◌∷◌, length, slice_range, take}
use Rattle.std.specs.Borrow.{Bor, MutBor}
use Rattle.byteorder.specs.Endian.{big_bytes}
use Rattle.net_base.specs.Field.{field}
use Rattle.net_base.specs.Borrow.{Holds}
use Rattle.wire_arp.specs.declared.arp.ArpHardware.{ArpHardware}
use Rattle.wire_arp.specs.declared.arp.ArpHardware.TheVariants as hardware
use Rattle.wire_arp.specs.declared.arp.ArpOperation.{ArpOperation}
use Rattle.wire_arp.specs.declared.arp.ArpOperation.TheVariants as operation
use Rattle.wire_arp.specs.declared.arp.packet.ArpView.{ArpView}
use Rattle.wire_arp.specs.declared.arp.repr.ArpRepr.{ArpRepr}
use Rattle.wire_arp.specs.declared.arp.repr.ArpRepr.TheVariants.{EthernetIpv4}

-- ---- numbers

-- the hardware type that a number names
abbrev pub hardware_of : ℕ → ArpHardware
hardware_of n = if n == 1 then hardware.Ethernet else hardware.Unknown n

-- the number of a hardware type
abbrev pub hardware_number : ArpHardware → ℕ
hardware_number hardware.Ethernet = 1
hardware_number (hardware.Unknown n) = n

-- 1 for a hardware type without a name, else 0
abbrev pub is_unknown_hardware : ArpHardware → ℕ
is_unknown_hardware (hardware.Unknown n) = 1
is_unknown_hardware h = 0

-- the ARP operation that a number names
abbrev pub operation_of : ℕ → ArpOperation
operation_of n = if n == 1 then operation.Request else (if n == 2 then operation.Reply else operation.Unknown n)

-- the number of an ARP operation
abbrev pub operation_number : ArpOperation → ℕ
operation_number operation.Request = 1
operation_number operation.Reply = 2
operation_number (operation.Unknown n) = n

-- 1 for an ARP operation without a name, else 0
abbrev pub is_unknown_operation : ArpOperation → ℕ
is_unknown_operation (operation.Unknown n) = 1
is_unknown_operation o = 0

-- the normal form of an ARP operation: a number that has a name becomes that name
abbrev pub known_operation : ArpOperation → ArpOperation
known_operation o = operation_of (operation_number o)

-- ---- views

-- a reading view of an ARP packet
abbrev pub Reading : Type 0
Reading = ArpView (Bor (List ℕ))

-- a mutable view of an ARP packet
abbrev pub Writing : Type 0
Writing = ArpView (MutBor (List ℕ))

-- the slice under a view
abbrev pub packet_slice : {B : Type 0} → ArpView B → B
packet_slice p = p.buffer

-- the bytes under a reading view
abbrev pub packet_bytes : Reading → List ℕ
packet_bytes p = (packet_slice p).now

-- the bytes under a mutable view
abbrev pub packet_bytes_mut : Writing → List ℕ
packet_bytes_mut p = (packet_slice p).now

-- the view still borrows the same slice, and the slice now holds these bytes
abbrev pub Becomes : Writing → Writing → List ℕ → Type 0
Becomes old new bytes = Holds (packet_slice old) (packet_slice new) bytes

-- the number of the hardware type
abbrev pub hardware_type_of : List ℕ → ℕ
hardware_type_of bytes = field bytes 0 16

-- the number of the protocol type, an EtherType
abbrev pub protocol_type_of : List ℕ → ℕ
protocol_type_of bytes = field bytes 16 16

-- the number of the operation
abbrev pub opcode_of : List ℕ → ℕ
opcode_of bytes = field bytes 48 16

-- the length of a hardware address in bytes, as the packet says
abbrev pub hardware_len : List ℕ → ℕ
hardware_len bytes = field bytes 32 8

-- the length of a protocol address in bytes, as the packet says
abbrev pub protocol_len : List ℕ → ℕ
protocol_len bytes = field bytes 40 8

-- the index of the end of the source's hardware address: the four addresses follow byte 8
abbrev pub source_hardware_end : List ℕ → ℕ
source_hardware_end bytes = 8 + hardware_len bytes

-- the index of the end of the source's protocol address
abbrev pub source_protocol_end : List ℕ → ℕ
source_protocol_end bytes = 8 + hardware_len bytes + protocol_len bytes

-- the index of the end of the target's hardware address
abbrev pub target_hardware_end : List ℕ → ℕ
target_hardware_end bytes = 8 + 2 * hardware_len bytes + protocol_len bytes

-- the index of the end of the target's protocol address, the last one
abbrev pub target_protocol_end : List ℕ → ℕ
target_protocol_end bytes = 8 + 2 * hardware_len bytes + 2 * protocol_len bytes

-- the hardware address of the source
abbrev pub source_hardware_addr : List ℕ → List ℕ
source_hardware_addr bytes = slice_range bytes 8 (source_hardware_end bytes)

-- the protocol address of the source
abbrev pub source_protocol_addr : List ℕ → List ℕ
source_protocol_addr bytes = slice_range bytes (source_hardware_end bytes) (source_protocol_end bytes)

-- the hardware address of the target
abbrev pub target_hardware_addr : List ℕ → List ℕ
target_hardware_addr bytes = slice_range bytes (source_protocol_end bytes) (target_hardware_end bytes)

-- the protocol address of the target
abbrev pub target_protocol_addr : List ℕ → List ℕ
target_protocol_addr bytes = slice_range bytes (target_hardware_end bytes) (target_protocol_end bytes)

-- the lengths are valid: the bytes hold the first 8 bytes of a packet, and four addresses of the lengths that these
-- say
pub record HasLengths (bytes : List ℕ) : Type 0 where
  pub least : 8 ≤ length bytes
  pub whole : target_protocol_end bytes ≤ length bytes

-- ---- reading and writing

-- the first six bytes of an ARP packet for Ethernet and IPv4: hardware type, protocol type, and the lengths of the
-- addresses
abbrev pub ethernet_ipv4 : List ℕ
ethernet_ipv4 = 0x00 ∷ 0x01 ∷ 0x08 ∷ 0x00 ∷ 0x06 ∷ 0x04 ∷ []

-- the values of the fields of an ARP packet for Ethernet and IPv4
abbrev pub value_of : List ℕ → ArpRepr
value_of bytes =
    EthernetIpv4 (operation_of (opcode_of bytes)) (record { 0 = slice_range bytes 8 14 }) (slice_range bytes 14 18)
    (record { 0 = slice_range bytes 18 24 }) (slice_range bytes 24 28)

-- the bytes begin with an ARP packet for Ethernet and IPv4 that parses as this value
pub record Reads (bytes : List ℕ) (v : ArpRepr) : Type 0 where
  pub whole : 28 ≤ length bytes
  pub kind : take 6 bytes ≡ ethernet_ipv4
  pub fields : v ≡ value_of bytes

-- whether the bytes parse as an ARP packet for Ethernet and IPv4
abbrev pub is_read : List ℕ → Bool
is_read bytes = nat_le 28 (length bytes) && bytes_eq (take 6 bytes) ethernet_ipv4

-- the value that the bytes parse as, if there is one
unfoldable pub arp_of : List ℕ → Option ArpRepr
arp_of bytes = if is_read bytes then Some (value_of bytes) else None

-- the ARP packet with these values
abbrev pub bytes_of : ArpRepr → List ℕ
bytes_of (EthernetIpv4 operation source_hardware source_protocol target_hardware target_protocol) =
    ethernet_ipv4 ++ big_bytes 2 (operation_number operation) ++ source_hardware.0 ++ source_protocol ++ target_hardware.0 ++ target_protocol

-- the normal form: the value that its packet parses as; an operation that has a name becomes that name
abbrev pub normal : ArpRepr → ArpRepr
normal (EthernetIpv4 operation source_hardware source_protocol target_hardware target_protocol) =
    EthernetIpv4 (known_operation operation) source_hardware source_protocol target_hardware target_protocol
