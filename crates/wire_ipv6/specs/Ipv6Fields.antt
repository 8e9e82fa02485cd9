-- The fields of an IPv6 header in the order of RFC 8200's diagram, and which of them each call reads or writes.
use Rattle.std.specs.Prelude.{ℕ, List, [], ◌∷◌}
use Rattle.byteorder.specs.Endian.{big_number}
use Rattle.wire_addr.specs.Protocol.{number_of}
use Rattle.net_base.specs.Diagram.{nth_field, with_nth}
use Rattle.wire_ipv6.specs.declared.laws.Ipv6Getting.{Ipv6Getting}
use Rattle.wire_ipv6.specs.declared.laws.Ipv6Getting.TheVariants as get
use Rattle.wire_ipv6.specs.declared.laws.Ipv6Setting.{Ipv6Setting}
use Rattle.wire_ipv6.specs.declared.laws.Ipv6Setting.TheVariants as set

-- the widths of the fields in bits: version, traffic class, flow label; payload length, next header, hop limit; the
-- two addresses
abbrev pub diagram : List ℕ
diagram = 4 ∷ 8 ∷ 20 ∷ 16 ∷ 8 ∷ 8 ∷ 128 ∷ 128 ∷ []

-- the index of the field that a getter reads
abbrev pub read_of : Ipv6Getting → ℕ
read_of get.Version = 0
read_of get.TrafficClass = 1
read_of get.FlowLabel = 2
read_of get.PayloadLen = 3
read_of get.NextHeader = 4
read_of get.HopLimit = 5
read_of get.SrcAddr = 6
read_of get.DstAddr = 7

-- the number that a getter returns
abbrev pub got : Ipv6Getting → List ℕ → ℕ
got getting = nth_field diagram (read_of getting)

-- the index of the field that a setter writes, and its argument as a number
abbrev pub write_of : Ipv6Setting → ℕ × ℕ
write_of (set.Version x) = (0, x)
write_of (set.TrafficClass x) = (1, x)
write_of (set.FlowLabel x) = (2, x)
write_of (set.PayloadLen x) = (3, x)
write_of (set.NextHeader x) = (4, number_of x)
write_of (set.HopLimit x) = (5, x)
write_of (set.SrcAddr x) = (6, big_number 16 x)
write_of (set.DstAddr x) = (7, big_number 16 x)

-- the bytes after a call of a setter
abbrev pub after : Ipv6Setting → List ℕ → List ℕ
after setting = let write = write_of setting in with_nth diagram write.0 write.1
