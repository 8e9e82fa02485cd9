-- The fields of a UDP header in the order of RFC 768's diagram, and which of them each call reads or writes.
use Rattle.std.specs.Prelude.{ℕ, ◌-◌, ◌==◌, if◌then◌else◌, List, [], ◌∷◌, take}
use Rattle.wire_checksum.specs.WordSum.{sum_of_bytes, updated}
use Rattle.wire_addr.specs.IpAddress.{address_bytes}
use Rattle.wire_addr.specs.declared.ip_address.IpAddress.{IpAddress}
use Rattle.net_base.specs.Diagram.{nth_field, with_nth}
use Rattle.wire_udp.specs.Udp.{checksum_for, packet_sum}
use Rattle.wire_udp.specs.declared.laws.UdpGetting.{UdpGetting}
use Rattle.wire_udp.specs.declared.laws.UdpGetting.TheVariants as get
use Rattle.wire_udp.specs.declared.laws.UdpSetting.{UdpSetting}
use Rattle.wire_udp.specs.declared.laws.UdpSetting.TheVariants as set
use Rattle.wire_udp.specs.declared.laws.UdpUpdate.{UdpUpdate}
use Rattle.wire_udp.specs.declared.laws.UdpUpdate.TheVariants as update

-- the widths of the fields in bits: source port, destination port, length, checksum
abbrev pub diagram : List ℕ
diagram = 16 ∷ 16 ∷ 16 ∷ 16 ∷ []

-- ---- getters

-- the index of the field that a getter reads
abbrev pub read_of : UdpGetting → ℕ
read_of get.SrcPort = 0
read_of get.DstPort = 1
read_of get.Len = 2
read_of get.Checksum = 3

-- the number that a getter returns
abbrev pub got : UdpGetting → List ℕ → ℕ
got getting = nth_field diagram (read_of getting)

-- ---- setters

-- the index of the field that a setter writes, and its argument
abbrev pub write_of : UdpSetting → ℕ × ℕ
write_of (set.SrcPort x) = (0, x)
write_of (set.DstPort x) = (1, x)
write_of (set.Len x) = (2, x)
write_of (set.Checksum x) = (3, x)

-- the bytes after a call of a setter
abbrev pub after : UdpSetting → List ℕ → List ℕ
after setting = let write = write_of setting in with_nth diagram write.0 write.1

-- ---- calls that write the checksum too

-- the bytes with the field that an updating call writes besides the checksum; an address is in no field of a UDP
-- header
abbrev pub with_update : UdpUpdate → List ℕ → List ℕ
with_update (update.SrcPort x) bytes = with_nth diagram 0 x bytes
with_update (update.DstPort x) bytes = with_nth diagram 1 x bytes
with_update (update.Address old new) bytes = bytes

-- the sums of the words that an updating call changes, before and after it
abbrev pub sums_of : UdpUpdate → List ℕ → ℕ × ℕ
sums_of (update.SrcPort x) bytes = (nth_field diagram 0 bytes, x)
sums_of (update.DstPort x) bytes = (nth_field diagram 1 bytes, x)
sums_of (update.Address old new) bytes = (sum_of_bytes (address_bytes old), sum_of_bytes (address_bytes new))

-- the bytes with the checksum updated for words that change from the sum old to the sum new; 0, which means that
-- there is no checksum, is unchanged
abbrev pub with_sums : ℕ → ℕ → List ℕ → List ℕ → List ℕ
with_sums old new before bytes =
    let checksum = nth_field diagram 3 before in
    if checksum == 0 then bytes else with_nth diagram 3 (checksum_for (65535 - updated checksum old new)) bytes

-- the bytes after an updating call
abbrev pub after_update : UdpUpdate → List ℕ → List ℕ
after_update call bytes = let sums = sums_of call bytes in with_sums sums.0 sums.1 bytes (with_update call bytes)

-- the bytes after the checksum was computed, over as many bytes as the length field says, with 0 in the checksum field
abbrev pub after_fill : IpAddress → IpAddress → List ℕ → List ℕ
after_fill src dst bytes =
    let covered = take (nth_field diagram 2 bytes) (with_nth diagram 3 0 bytes) in
    with_nth diagram 3 (checksum_for (packet_sum src dst covered)) bytes

-- an address of the packet before an updating call
abbrev pub address_before : UdpUpdate → IpAddress → IpAddress
address_before (update.Address old new) address = old
address_before _ address = address

-- an address of the packet after an updating call
abbrev pub address_after : UdpUpdate → IpAddress → IpAddress
address_after (update.Address old new) address = new
address_after _ address = address
