-- The fields of an ICMP header in the order of RFC 792's diagrams, and which of them each call reads or writes.
use Rattle.std.specs.Prelude.{ℕ, ◌-◌, List, [], ◌∷◌}
use Rattle.wire_checksum.specs.WordSum.{updated}
use Rattle.wire_addr.specs.declared.ip_address.IpAddress.{IpAddress}
use Rattle.net_base.specs.Diagram.{nth_field, with_nth}
use Rattle.wire_icmp.specs.Icmp.{message_sum, not_zero}
use Rattle.wire_icmp.specs.declared.laws.IcmpGetting.{IcmpGetting}
use Rattle.wire_icmp.specs.declared.laws.IcmpGetting.TheVariants as get
use Rattle.wire_icmp.specs.declared.laws.IcmpSetting.{IcmpSetting}
use Rattle.wire_icmp.specs.declared.laws.IcmpSetting.TheVariants as set

-- the widths of the fields in bits: type, code, checksum, and a word whose meaning depends on the type
abbrev pub diagram : List ℕ
diagram = 8 ∷ 8 ∷ 16 ∷ 32 ∷ []

-- the widths of the fields of an echo message in bits: type, code, checksum, identifier, sequence number
abbrev pub echo_diagram : List ℕ
echo_diagram = 8 ∷ 8 ∷ 16 ∷ 16 ∷ 16 ∷ []

-- the index of the field that a getter reads
abbrev pub read_of : IcmpGetting → ℕ
read_of get.MsgType = 0
read_of get.MsgCode = 1
read_of get.Checksum = 2
read_of get.Word = 3
read_of get.EchoIdent = 3

-- the widths of the fields of the message that a getter reads
abbrev pub read_in : IcmpGetting → List ℕ
read_in get.EchoIdent = echo_diagram
read_in _ = diagram

-- the number that a getter returns
abbrev pub got : IcmpGetting → List ℕ → ℕ
got getting = nth_field (read_in getting) (read_of getting)

-- the index of the field that a setter writes, and its argument
abbrev pub write_of : IcmpSetting → ℕ × ℕ
write_of (set.MsgType x) = (0, x)
write_of (set.MsgCode x) = (1, x)
write_of (set.Checksum x) = (2, x)
write_of (set.Word x) = (3, x)
write_of (set.EchoIdent x) = (3, x)

-- the widths of the fields of the message that a setter writes
abbrev pub write_in : IcmpSetting → List ℕ
write_in (set.EchoIdent x) = echo_diagram
write_in _ = diagram

-- the bytes after a call of a setter
abbrev pub after : IcmpSetting → List ℕ → List ℕ
after setting = let write = write_of setting in with_nth (write_in setting) write.0 write.1

-- the bytes after the checksum was computed, over all bytes, with 0 in the checksum field
abbrev pub after_fill : IpAddress → IpAddress → List ℕ → List ℕ
after_fill src dst bytes = with_nth diagram 2 (65535 - message_sum src dst (with_nth diagram 2 0 bytes)) bytes

-- the bytes with the checksum updated for words that change from the sum old to the sum new; the new checksum is
-- never 0
abbrev pub with_sums : ℕ → ℕ → List ℕ → List ℕ
with_sums old new bytes = with_nth diagram 2 (not_zero (updated (nth_field diagram 2 bytes) old new)) bytes
