-- An ARP packet that is read, written again.
use Rattle.std.proofs.Common.{ℕ, inl, ◌≡◌, ◌^◌, ◌<◌, List, [], Some, length, refl, sym, ap, subst, append-nil, arith}
use Rattle.ip_wire.proofs.Layers.{IsLeaf, length-part}
use Rattle.net_base.proofs.ByteLists.{AreBytes-append, AreBytes-bytes_high_first, AreBytes-slice_range, AreBytes-tested}
use Rattle.net_base.proofs.Cells.{cells-all}
use Rattle.net_base.proofs.Spelled.{AreBytes}
use Rattle.net_base.specs.Field.{field}
use Rattle.wire_arp.proofs.ArpComputed.{arp_of-Reads}
use Rattle.wire_arp.proofs.ArpEmitted.{IsInRange, reads_bytes_of}
use Rattle.wire_arp.proofs.ArpNormal.{normal_read, operation_number-of}
use Rattle.std.specs.Int.{bytes_high_first}
use Rattle.wire_arp.specs.Arp.{Reads, arp_of, bytes_of, ethernet_ipv4, normal, operation_number, operation_of}
use Rattle.wire_arp.specs.declared.ArpRepr.{ArpRepr}
use Rattle.wire_arp.specs.declared.ArpRepr.TheVariants.{EthernetIpv4}

-- what was read has a packet
in_range : (bytes : List ℕ) (v : ArpRepr) → Reads bytes v → IsInRange v
in_range bytes v r =
    let whole = r.whole in
    let small : operation_number (operation_of (field bytes 48 16)) < 2 ^ 16 = rw (operation_number-of (field bytes 48 16)) (omega arith) in
    subst IsInRange (sym r.fields) (
      small,
      record {
        source_hardware = length-part bytes 8 14 (omega arith);
        source_protocol = length-part bytes 14 18 (omega arith);
        target_hardware = length-part bytes 18 24 (omega arith);
        target_protocol = length-part bytes 24 28 (omega arith);
      },
    )

-- of 28 bytes
length-bytes_of : (v : ArpRepr) → IsInRange v → length (bytes_of v) ≡ 28
length-bytes_of (EthernetIpv4 operation sha spa tha tpa) (small, h) =
    rw (cells-all 6 sha.0 h.source_hardware, cells-all 4 spa h.source_protocol, cells-all 6 tha.0 h.target_hardware, cells-all 4 tpa h.target_protocol) (omega arith)

-- its packet is read as its normal form
written-read : (bytes : List ℕ) (v : ArpRepr) → Reads bytes v → arp_of (bytes_of v) ≡ Some (normal v)
written-read bytes v r =
    let back = subst (λ written. Reads written (normal v)) (append-nil (bytes_of v)) (reads_bytes_of v [] (in_range bytes v r)) in
    (arp_of-Reads (bytes_of v) (normal v)).1 back

AreBytes-written : (bytes : List ℕ) (v : ArpRepr) → AreBytes bytes → Reads bytes v → AreBytes (bytes_of v)
AreBytes-written bytes v h r =
    let part = λ (from to : ℕ). AreBytes-slice_range bytes from to h in
    let front = AreBytes-tested ethernet_ipv4 refl in
    let number = AreBytes-bytes_high_first 2 (operation_number (operation_of (field bytes 48 16))) in
    let fixed = AreBytes-append ethernet_ipv4 (bytes_high_first 2 (operation_number (operation_of (field bytes 48 16)))) front number in
    subst (λ w. AreBytes (bytes_of w)) (sym r.fields) (search (AreBytes-append, fixed, part))

pub IsLeaf-arp : (bytes : List ℕ) (v : ArpRepr) → Reads bytes v → IsLeaf arp_of bytes_of normal bytes v
IsLeaf-arp bytes v r = record {
  are_bytes = λ h. AreBytes-written bytes v h r;
  reads_back = λ h. written-read bytes v r;
  no_longer = let whole = r.whole in let written = length-bytes_of v (in_range bytes v r) in omega (arith, written, whole);
  twice = ap normal (normal_read bytes v r);
  normal_or_shorter = inl (normal_read bytes v r);
}
