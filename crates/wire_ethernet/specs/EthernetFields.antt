-- The fields of an Ethernet header in their order, and which of them each call reads or writes.
-- Pinned by: `tests/docs/diagrams.py`
use Rattle.std.specs.Prelude.{ℕ, List, [], ◌∷◌}
use Rattle.net_base.specs.Diagram.{nth_field, with_nth}
use Rattle.byteorder.specs.Endian.{big_number}
use Rattle.wire_ethernet.specs.Ethernet.{number_of}
use Rattle.wire_ethernet.specs.declared.laws.EthernetGetting.{EthernetGetting}
use Rattle.wire_ethernet.specs.declared.laws.EthernetGetting.TheVariants as get
use Rattle.wire_ethernet.specs.declared.laws.EthernetSetting.{EthernetSetting}
use Rattle.wire_ethernet.specs.declared.laws.EthernetSetting.TheVariants as set

-- the widths of the fields in bits: destination address, source address, EtherType
abbrev pub diagram : List ℕ
diagram = 48 ∷ 48 ∷ 16 ∷ []

-- the index of the field that a getter reads
abbrev pub read_of : EthernetGetting → ℕ
read_of get.DstAddr = 0
read_of get.SrcAddr = 1
read_of get.Ethertype = 2

-- the number that a getter returns
abbrev pub got : EthernetGetting → List ℕ → ℕ
got getting = nth_field diagram (read_of getting)

-- the index of the field that a setter writes, and its argument as a number
abbrev pub write_of : EthernetSetting → ℕ × ℕ
write_of (set.DstAddr x) = (0, big_number 6 x.0)
write_of (set.SrcAddr x) = (1, big_number 6 x.0)
write_of (set.Ethertype x) = (2, number_of x)

-- the bytes after a call of a setter
abbrev pub after : EthernetSetting → List ℕ → List ℕ
after setting = let write = write_of setting in with_nth diagram write.0 write.1
