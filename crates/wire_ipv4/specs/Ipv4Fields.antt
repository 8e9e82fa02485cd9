-- The fields of an IPv4 header in the order of RFC 791's diagram, and which of them each call reads or writes.
-- Pinned by: `tests/docs/diagrams.py`
use Rattle.std.specs.Prelude.{ℕ, ◌-◌, ◌*◌, ◌/◌, ◌%◌, List, [], ◌∷◌, slice_range, sum, take}
use Rattle.net_base.specs.Diagram.{flag, nth_field, with_nth}
use Rattle.net_base.specs.Field.{with_field}
use Rattle.byteorder.specs.Endian.{big_bytes, big_number}
use Rattle.wire_checksum.specs.WordSum.{sum_of_bytes, updated}
use Rattle.wire_addr.specs.Protocol.{number_of}
use Rattle.wire_ipv4.specs.declared.laws.Ipv4Getting.{Ipv4Getting}
use Rattle.wire_ipv4.specs.declared.laws.Ipv4Getting.TheVariants as get
use Rattle.wire_ipv4.specs.declared.laws.Ipv4Setting.{Ipv4Setting}
use Rattle.wire_ipv4.specs.declared.laws.Ipv4Setting.TheVariants as set
use Rattle.wire_ipv4.specs.declared.laws.Ipv4Update.{Ipv4Update}
use Rattle.wire_ipv4.specs.declared.laws.Ipv4Update.TheVariants as update

-- the widths of the fields in bits: version, header length, DSCP, ECN, total length; identification, three flags,
-- fragment offset; hop limit, protocol, checksum; the two addresses
abbrev pub diagram : List ℕ
diagram = 4 ∷ 4 ∷ 6 ∷ 2 ∷ 16 ∷ 16 ∷ 1 ∷ 1 ∷ 1 ∷ 13 ∷ 8 ∷ 8 ∷ 16 ∷ 32 ∷ 32 ∷ []

-- ---- getters

-- the index of the field that a getter reads, and the unit in which the field counts
abbrev pub read_of : Ipv4Getting → ℕ × ℕ
read_of get.Version = (0, 1)
read_of get.HeaderLen = (1, 4)
read_of get.Dscp = (2, 1)
read_of get.Ecn = (3, 1)
read_of get.TotalLen = (4, 1)
read_of get.Ident = (5, 1)
read_of get.DontFrag = (7, 1)
read_of get.MoreFrags = (8, 1)
read_of get.FragOffset = (9, 8)
read_of get.HopLimit = (10, 1)
read_of get.NextHeader = (11, 1)
read_of get.Checksum = (12, 1)
read_of get.SrcAddr = (13, 1)
read_of get.DstAddr = (14, 1)

-- the number that a getter returns
abbrev pub got : Ipv4Getting → List ℕ → ℕ
got getting bytes = let read = read_of getting in read.1 * nth_field diagram read.0 bytes

-- ---- setters

-- the index of the field that a setter writes, and its argument as a number
abbrev pub write_of : Ipv4Setting → ℕ × ℕ
write_of (set.Version x) = (0, x)
write_of (set.HeaderLen x) = (1, x / 4)
write_of (set.Dscp x) = (2, x)
write_of (set.Ecn x) = (3, x)
write_of (set.TotalLen x) = (4, x)
write_of (set.Ident x) = (5, x)
write_of (set.DontFrag x) = (7, flag x)
write_of (set.MoreFrags x) = (8, flag x)
write_of (set.FragOffset x) = (9, x / 8)
write_of (set.HopLimit x) = (10, x)
write_of (set.NextHeader x) = (11, number_of x)
write_of (set.Checksum x) = (12, x)
write_of (set.SrcAddr x) = (13, big_number 4 x)
write_of (set.DstAddr x) = (14, big_number 4 x)

-- the bytes after a call of a setter
abbrev pub after : Ipv4Setting → List ℕ → List ℕ
after setting = let write = write_of setting in with_nth diagram write.0 write.1

-- the bytes with 0 in each of the three flags
abbrev pub with_no_flags : List ℕ → List ℕ
with_no_flags bytes = with_field bytes (sum (take 6 diagram)) (sum (slice_range diagram 6 9)) 0

-- ---- calls that write the checksum too

-- the setter of the field that an updating call writes besides the checksum
abbrev pub setting_of : Ipv4Update → Ipv4Setting
setting_of (update.Dscp x) = set.Dscp x
setting_of (update.Ecn x) = set.Ecn x
setting_of (update.HopLimit x) = set.HopLimit x
setting_of (update.SrcAddr x) = set.SrcAddr x
setting_of (update.DstAddr x) = set.DstAddr x

-- the one's complement sums of the words that an updating call changes, before and after it
abbrev pub sums_of : Ipv4Update → List ℕ → ℕ × ℕ
sums_of (update.Dscp x) bytes = (4 * nth_field diagram 2 bytes, 4 * (x % 64))
sums_of (update.Ecn x) bytes = (nth_field diagram 3 bytes, x % 4)
sums_of (update.HopLimit x) bytes = (256 * nth_field diagram 10 bytes, 256 * x)
sums_of (update.SrcAddr x) bytes = (sum_of_bytes (big_bytes 4 (nth_field diagram 13 bytes)), sum_of_bytes x)
sums_of (update.DstAddr x) bytes = (sum_of_bytes (big_bytes 4 (nth_field diagram 14 bytes)), sum_of_bytes x)

-- the bytes with the header checksum updated for words that change from the sum old to the sum new
abbrev pub with_sums : ℕ → ℕ → List ℕ → List ℕ
with_sums old new bytes = with_nth diagram 12 (updated (nth_field diagram 12 bytes) old new) bytes

-- the bytes after an updating call
abbrev pub after_update : Ipv4Update → List ℕ → List ℕ
after_update call bytes = let sums = sums_of call bytes in with_sums sums.0 sums.1 (after (setting_of call) bytes)

-- the bytes after the header checksum was computed: the complement of the sum of the header with 0 in the checksum
-- field
abbrev pub after_fill : List ℕ → List ℕ
after_fill bytes =
    let header = take (4 * nth_field diagram 1 bytes) (with_nth diagram 12 0 bytes) in
    with_nth diagram 12 (65535 - sum_of_bytes header) bytes
