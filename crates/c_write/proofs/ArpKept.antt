-- An ARP packet that is read is emitted unchanged, without the padding after it.
use Rattle.std.proofs.Common.{ℕ, ◌≡◌, ◌∙◌, ◌++◌, List, [], ◌∷◌, Some, ap, arith, refl, slice_index, slice_range, sym, take}
use Rattle.byteorder.specs.Endian.{big_bytes}
use Rattle.ip_wire.proofs.ArpComputed.{arp_of-Reads}
use Rattle.ip_wire.proofs.ArpNormal.{operation_number-of}
use Rattle.ip_wire.specs.Arp.{Reads, arp_of, bytes_of, ethernet_ipv4, operation_number, operation_of, value_of}
use Rattle.ip_wire.specs.Field.{field}
use Rattle.ip_wire.specs.Frame.{rebuilt_payload}
use Rattle.ip_wire.specs.declared.ArpRepr.{ArpRepr}
use Rattle.ip_wire.specs.declared.EthernetProtocol.TheVariants.{Arp}
use Rattle.net_base.proofs.Cells.{cells-drop}
use Rattle.net_base.proofs.Spelled.{AreBytes}
use Rattle.c_write.proofs.Spelled.{pair}

bytes_of-value : (bytes : List ℕ) (v : ArpRepr) → AreBytes bytes → Reads bytes v → bytes_of (value_of bytes) ≡ take 28 bytes
bytes_of-value bytes v h r =
    let whole = r.whole in
    let at = slice_index bytes in
    let operation : big_bytes 2 (operation_number (operation_of (field bytes 48 16))) ≡ at 6 ∷ at 7 ∷ [] =
    ap (big_bytes 2) (operation_number-of (field bytes 48 16)) ∙ pair (at 6) (at 7) _ (h 6) (h 7) (omega arith) in
    let rest : List ℕ → List ℕ → List ℕ = λ kind o. kind ++ o ++ slice_range bytes 8 14 ++ slice_range bytes 14 18 ++ slice_range bytes 18 24 ++ slice_range bytes 24 28 in
    ap (rest ethernet_ipv4) operation ∙ ap (λ (kind : List ℕ). rest kind (at 6 ∷ at 7 ∷ [])) (sym r.kind) ∙ rw (cells-drop 28 bytes whole) refl

pub rebuilt-arp-kept : (bytes : List ℕ) (v : ArpRepr) → AreBytes bytes → arp_of bytes ≡ Some v → rebuilt_payload Arp bytes ≡ take 28 bytes
rebuilt-arp-kept bytes v h read =
    let r = (arp_of-Reads bytes v).0 read in
    rw read (ap bytes_of r.fields ∙ bytes_of-value bytes v h r)
