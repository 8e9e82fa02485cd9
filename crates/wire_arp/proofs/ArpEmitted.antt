-- What `emit` leaves, and what is read of the packet of a value.
use Rattle.std.proofs.Common.{ℕ, ◌≡◌, ◌<◌, ◌≤◌, ◌^◌, List, ◌++◌, length, drop, slice_range, refl, ◌+◌, arith}
use borrow.Rule.Slice.PartMut.{put_mid}
use Rattle.byteorder.specs.Endian.{big_bytes}
use Rattle.net_base.specs.Field.{field}
use Rattle.net_base.proofs.Cells.{cells-all, cells-drop}
use Rattle.wire_arp.proofs.ArpComputed.{value_of-fields}
use Rattle.wire_arp.specs.Arp.{Reads, bytes_of, ethernet_ipv4, normal, operation_number, operation_of}
use Rattle.wire_arp.specs.declared.arp.repr.ArpRepr.{ArpRepr}
use Rattle.wire_arp.specs.declared.arp.repr.ArpRepr.TheVariants.{EthernetIpv4}

-- the bytes are those of addresses of Ethernet and of IPv4
pub record AreAddresses (sha spa tha tpa : List ℕ) : Type 0 where
  pub source_hardware : length sha ≡ 6
  pub source_protocol : length spa ≡ 4
  pub target_hardware : length tha ≡ 6
  pub target_protocol : length tpa ≡ 4

-- the value has a packet: its numbers fit their fields, and its addresses have their lengths
abbrev pub IsInRange : ArpRepr → Type 0
IsInRange (EthernetIpv4 operation sha spa tha tpa) = (operation_number operation < 2 ^ 16) × AreAddresses sha.0 spa tha.0 tpa

pub reads_bytes_of : (v : ArpRepr) (rest : List ℕ) → IsInRange v → Reads (bytes_of v ++ rest) (normal v)
reads_bytes_of (EthernetIpv4 operation sha spa tha tpa) rest (small, h) =
    let bytes = bytes_of (EthernetIpv4 operation sha spa tha tpa) ++ rest in
    let a = cells-all 6 sha.0 h.source_hardware in
    let b = cells-all 4 spa h.source_protocol in
    let c = cells-all 6 tha.0 h.target_hardware in
    let d = cells-all 4 tpa h.target_protocol in
    let number : field bytes 48 16 ≡ operation_number operation = omega arith in
    record {
      whole = rw (a, b, c, d) (omega arith);
      kind = refl;
      fields = value_of-fields bytes (operation_of (operation_number operation)) sha spa tha tpa (rw number refl) (rw a refl) (rw (a, b) refl) (rw (a, b, c) refl) (rw (a, b, c, d) refl);
    }

-- ---- what the writes of `emit` leave

-- the first eight bytes are one number
pub front_bytes : (n operation : ℕ) → operation < 2 ^ 16 → n ≡ 0x0001080006040000 + operation → big_bytes 8 n ≡ ethernet_ipv4 ++ big_bytes 2 operation
front_bytes n operation small is = grind arith

-- both writes leave the packet, then the bytes that followed it
pub packet_written : (operation : ℕ) (sha spa tha tpa old front a : List ℕ) → AreAddresses sha spa tha tpa → 28 ≤ length old
    → front ≡ (ethernet_ipv4 ++ big_bytes 2 operation) ++ drop 8 old → a ≡ (sha ++ spa ++ tha ++ tpa) ++ drop 20 (slice_range front 8 28)
    → put_mid 8 20 front a ≡ (ethernet_ipv4 ++ big_bytes 2 operation ++ sha ++ spa ++ tha ++ tpa) ++ drop 28 old
packet_written operation sha spa tha tpa old front a h room one two =
    rw (
      two,
      one,
      cells-all 6 sha h.source_hardware,
      cells-all 4 spa h.source_protocol,
      cells-all 6 tha h.target_hardware,
      cells-all 4 tpa h.target_protocol,
      cells-drop 28 old room,
    ) refl
