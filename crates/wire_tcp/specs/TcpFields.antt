-- The fields of a TCP header in the order of RFC 9293's diagram, and which of them each call reads or writes.
use Rattle.std.specs.Prelude.{ℕ, ◌-◌, ◌*◌, ◌/◌, ◌==◌, if◌then◌else◌, List, [], ◌∷◌, slice_range, sum, take}
use Rattle.wire_checksum.specs.WordSum.{sum_of_bytes, updated}
use Rattle.wire_addr.specs.IpAddress.{address_bytes}
use Rattle.wire_addr.specs.declared.ip_address.IpAddress.{IpAddress}
use Rattle.net_base.specs.Diagram.{flag, nth_field, with_nth}
use Rattle.net_base.specs.Field.{with_field}
use Rattle.wire_tcp.specs.Tcp.{segment_sum}
use Rattle.wire_tcp_options.specs.TcpSeq.{number}
use Rattle.wire_tcp_options.specs.declared.tcp.control.TcpControl.{TcpControl}
use Rattle.wire_tcp_options.specs.declared.tcp.control.TcpControl.TheVariants as control
use Rattle.wire_tcp.specs.declared.laws.TcpGetting.{TcpGetting}
use Rattle.wire_tcp.specs.declared.laws.TcpGetting.TheVariants as get
use Rattle.wire_tcp.specs.declared.laws.TcpSetting.{TcpSetting}
use Rattle.wire_tcp.specs.declared.laws.TcpSetting.TheVariants as set
use Rattle.wire_tcp.specs.declared.laws.TcpUpdate.{TcpUpdate}
use Rattle.wire_tcp.specs.declared.laws.TcpUpdate.TheVariants as update

-- the widths of the fields in bits: ports; sequence number; acknowledgement number; data offset, three reserved bits,
-- nine flags, window; checksum, urgent pointer
abbrev pub diagram : List ℕ
diagram = 16 ∷ 16 ∷ 32 ∷ 32 ∷ 4 ∷ 3 ∷ 1 ∷ 1 ∷ 1 ∷ 1 ∷ 1 ∷ 1 ∷ 1 ∷ 1 ∷ 1 ∷ 16 ∷ 16 ∷ 16 ∷ []

-- ---- getters

-- the index of the field that a getter reads, and the unit in which the field counts
abbrev pub read_of : TcpGetting → ℕ × ℕ
read_of get.SrcPort = (0, 1)
read_of get.DstPort = (1, 1)
read_of get.SeqNumber = (2, 1)
read_of get.AckNumber = (3, 1)
read_of get.HeaderLen = (4, 4)
read_of get.Ns = (6, 1)
read_of get.Cwr = (7, 1)
read_of get.Ece = (8, 1)
read_of get.Urg = (9, 1)
read_of get.Ack = (10, 1)
read_of get.Psh = (11, 1)
read_of get.Rst = (12, 1)
read_of get.Syn = (13, 1)
read_of get.Fin = (14, 1)
read_of get.WindowLen = (15, 1)
read_of get.Checksum = (16, 1)
read_of get.UrgentAt = (17, 1)

-- the number that a getter returns
abbrev pub got : TcpGetting → List ℕ → ℕ
got getting bytes = let read = read_of getting in read.1 * nth_field diagram read.0 bytes

-- ---- setters

-- the index of the field that a setter writes, and its argument as a number
abbrev pub write_of : TcpSetting → ℕ × ℕ
write_of (set.SrcPort x) = (0, x)
write_of (set.DstPort x) = (1, x)
write_of (set.SeqNumber x) = (2, number x)
write_of (set.AckNumber x) = (3, number x)
write_of (set.HeaderLen x) = (4, x / 4)
write_of (set.Ns x) = (6, flag x)
write_of (set.Cwr x) = (7, flag x)
write_of (set.Ece x) = (8, flag x)
write_of (set.Urg x) = (9, flag x)
write_of (set.Ack x) = (10, flag x)
write_of (set.Psh x) = (11, flag x)
write_of (set.Rst x) = (12, flag x)
write_of (set.Syn x) = (13, flag x)
write_of (set.Fin x) = (14, flag x)
write_of (set.WindowLen x) = (15, x)
write_of (set.Checksum x) = (16, x)
write_of (set.UrgentAt x) = (17, x)

-- the bytes after a call of a setter
abbrev pub after : TcpSetting → List ℕ → List ℕ
after setting = let write = write_of setting in with_nth diagram write.0 write.1

-- the bytes with 0 in the reserved bits and in each of the nine flags
abbrev pub with_no_flags : List ℕ → List ℕ
with_no_flags bytes = with_field bytes (sum (take 5 diagram)) (sum (slice_range diagram 5 15)) 0

-- ---- calls that write the checksum too

-- the bytes with the field that an updating call writes besides the checksum; an address is in no field of a TCP
-- header
abbrev pub with_update : TcpUpdate → List ℕ → List ℕ
with_update (update.SrcPort x) bytes = with_nth diagram 0 x bytes
with_update (update.DstPort x) bytes = with_nth diagram 1 x bytes
with_update (update.WindowLen x) bytes = with_nth diagram 15 x bytes
with_update (update.Address old new) bytes = bytes

-- the sums of the words that an updating call changes, before and after it
abbrev pub sums_of : TcpUpdate → List ℕ → ℕ × ℕ
sums_of (update.SrcPort x) bytes = (nth_field diagram 0 bytes, x)
sums_of (update.DstPort x) bytes = (nth_field diagram 1 bytes, x)
sums_of (update.WindowLen x) bytes = (nth_field diagram 15 bytes, x)
sums_of (update.Address old new) bytes = (sum_of_bytes (address_bytes old), sum_of_bytes (address_bytes new))

-- the bytes with the checksum updated for words that change from the sum old to the sum new
abbrev pub with_sums : ℕ → ℕ → List ℕ → List ℕ → List ℕ
with_sums old new before = with_nth diagram 16 (updated (nth_field diagram 16 before) old new)

-- the bytes after an updating call
abbrev pub after_update : TcpUpdate → List ℕ → List ℕ
after_update call bytes = let sums = sums_of call bytes in with_sums sums.0 sums.1 bytes (with_update call bytes)

-- the bytes after the checksum was computed: the complement of the sum with 0 in the checksum field
abbrev pub after_fill : IpAddress → IpAddress → List ℕ → List ℕ
after_fill src dst bytes = with_nth diagram 16 (65535 - segment_sum src dst (with_nth diagram 16 0 bytes)) bytes

-- an address of the segment before an updating call
abbrev pub address_before : TcpUpdate → IpAddress → IpAddress
address_before (update.Address old new) address = old
address_before _ address = address

-- an address of the segment after an updating call
abbrev pub address_after : TcpUpdate → IpAddress → IpAddress
address_after (update.Address old new) address = new
address_after _ address = address

-- ---- fields of a value

-- the control of a segment without RST, SYN and FIN
abbrev pub quiet_of : List ℕ → TcpControl
quiet_of bytes = if nth_field diagram 11 bytes == 1 then control.Psh else control.None
