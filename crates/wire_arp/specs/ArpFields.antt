-- The fields of an ARP packet in the order of RFC 826, and which of them each call reads or writes.
-- Pinned by: `tests/docs/diagrams.py`
use Rattle.std.specs.Prelude.{ℕ, ◌≡◌, ◌*◌, List, [], ◌∷◌, length, slice_index, ⊤}
use Rattle.net_base.specs.Diagram.{nth_field, with_nth}
use Rattle.byteorder.specs.Endian.{big_number}
use Rattle.wire_ethernet.specs.Ethernet.{number_of}
use Rattle.wire_arp.specs.Arp.{hardware_number, operation_number}
use Rattle.wire_arp.specs.declared.laws.ArpAddressGetting.{ArpAddressGetting}
use Rattle.wire_arp.specs.declared.laws.ArpAddressGetting.TheVariants as address
use Rattle.wire_arp.specs.declared.laws.ArpGetting.{ArpGetting}
use Rattle.wire_arp.specs.declared.laws.ArpGetting.TheVariants as get
use Rattle.wire_arp.specs.declared.laws.ArpSetting.{ArpSetting}
use Rattle.wire_arp.specs.declared.laws.ArpSetting.TheVariants as set

-- the widths of the fields in bits: hardware type, protocol type; their lengths, operation; the two addresses of the
-- source and those of the target, of 6 and 4 bytes
abbrev pub diagram : List ℕ
diagram = 16 ∷ 16 ∷ 8 ∷ 8 ∷ 16 ∷ 48 ∷ 32 ∷ 48 ∷ 32 ∷ []

-- the widths of the fields in bits, with addresses of the lengths that the bytes say
abbrev pub widths : List ℕ → List ℕ
widths bytes =
    let hardware = 8 * nth_field diagram 2 bytes in
    let protocol = 8 * nth_field diagram 3 bytes in
    16 ∷ 16 ∷ 8 ∷ 8 ∷ 16 ∷ hardware ∷ protocol ∷ hardware ∷ protocol ∷ []

-- ---- getters

-- the index of the field that a getter reads
abbrev pub read_of : ArpGetting → ℕ
read_of get.HardwareType = 0
read_of get.ProtocolType = 1
read_of get.HardwareLen = 2
read_of get.ProtocolLen = 3
read_of get.Operation = 4

-- the number that a getter returns
abbrev pub got : ArpGetting → List ℕ → ℕ
got getting = nth_field diagram (read_of getting)

-- the index of the field that the getter of an address reads
abbrev pub address_of : ArpAddressGetting → ℕ
address_of address.SourceHardwareAddr = 5
address_of address.SourceProtocolAddr = 6
address_of address.TargetHardwareAddr = 7
address_of address.TargetProtocolAddr = 8

-- the getter of an address returns these bytes: as many as its field has, with the value of the field
pub record IsGot (getting : ArpAddressGetting) (octets bytes : List ℕ) : Type 0 where
  pub width : 8 * length octets ≡ slice_index (widths bytes) (address_of getting)
  pub number : big_number (length octets) octets ≡ nth_field (widths bytes) (address_of getting) bytes

-- ---- setters

-- the index of the field that a setter writes, and its argument as a number
abbrev pub write_of : ArpSetting → ℕ × ℕ
write_of (set.HardwareType x) = (0, hardware_number x)
write_of (set.ProtocolType x) = (1, number_of x)
write_of (set.HardwareLen x) = (2, x)
write_of (set.ProtocolLen x) = (3, x)
write_of (set.Operation x) = (4, operation_number x)
write_of (set.SourceHardwareAddr x) = (5, big_number (length x.now) x.now)
write_of (set.SourceProtocolAddr x) = (6, big_number (length x.now) x.now)
write_of (set.TargetHardwareAddr x) = (7, big_number (length x.now) x.now)
write_of (set.TargetProtocolAddr x) = (8, big_number (length x.now) x.now)

-- the argument fits: an address that is written has the length that the packet says
abbrev pub Fits : ArpSetting → List ℕ → Type 0
Fits (set.SourceHardwareAddr x) bytes = length x.now ≡ nth_field diagram 2 bytes
Fits (set.SourceProtocolAddr x) bytes = length x.now ≡ nth_field diagram 3 bytes
Fits (set.TargetHardwareAddr x) bytes = length x.now ≡ nth_field diagram 2 bytes
Fits (set.TargetProtocolAddr x) bytes = length x.now ≡ nth_field diagram 3 bytes
Fits setting bytes = ⊤

-- the bytes after a call of a setter
abbrev pub after : ArpSetting → List ℕ → List ℕ
after setting bytes = let write = write_of setting in with_nth (widths bytes) write.0 write.1 bytes
