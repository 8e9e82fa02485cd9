-- The fields of a fragment header after its first two bytes, in the order of RFC 8200's diagram, and which of them each
-- call reads or writes.
use Rattle.std.specs.Prelude.{ℕ, List, [], ◌∷◌}
use Rattle.net_base.specs.Diagram.{flag, nth_field, with_nth}
use Rattle.wire_ipv6.specs.declared.laws.Ipv6FragmentGetting.{Ipv6FragmentGetting}
use Rattle.wire_ipv6.specs.declared.laws.Ipv6FragmentGetting.TheVariants as get
use Rattle.wire_ipv6.specs.declared.laws.Ipv6FragmentSetting.{Ipv6FragmentSetting}
use Rattle.wire_ipv6.specs.declared.laws.Ipv6FragmentSetting.TheVariants as set

-- the widths of the fields in bits: fragment offset, two reserved bits, more fragments; identification
abbrev pub diagram : List ℕ
diagram = 13 ∷ 2 ∷ 1 ∷ 32 ∷ []

-- the index of the field that a getter reads
abbrev pub read_of : Ipv6FragmentGetting → ℕ
read_of get.FragOffset = 0
read_of get.MoreFrags = 2
read_of get.Ident = 3

-- the number that a getter returns
abbrev pub got : Ipv6FragmentGetting → List ℕ → ℕ
got getting = nth_field diagram (read_of getting)

-- the index of the field that a setter writes, and its argument as a number; the reserved bits are only cleared
abbrev pub write_of : Ipv6FragmentSetting → ℕ × ℕ
write_of (set.FragOffset x) = (0, x)
write_of set.ClearReserved = (1, 0)
write_of (set.MoreFrags x) = (2, flag x)
write_of (set.Ident x) = (3, x)

-- the bytes after a call of a setter
abbrev pub after : Ipv6FragmentSetting → List ℕ → List ℕ
after setting = let write = write_of setting in with_nth diagram write.0 write.1
