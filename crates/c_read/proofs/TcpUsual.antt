-- TCP segments that parse with no option or a timestamp.
use Rattle.std.proofs.Common.{◌≡◌, ◌≤◌, ◌⊎◌, inl, inr, false, List, ℕ, [], ◌∷◌, Some, arith, length}
use Rattle.ip_wire.specs.TcpRepr.{tcp_of}
use Rattle.wire_addr.specs.declared.ip_address.IpAddress.{IpAddress}
use Rattle.net_base.proofs.Spelled.{AreBytes}
use Rattle.net_base.specs.Field.{field}
use Rattle.wire_tcp.proofs.TcpComputed.{reads-with, tcp_of-Reads}
use Rattle.wire_tcp.specs.Tcp.{HasLengths, options_of}
use Rattle.wire_tcp.specs.TcpRepr.{HasControl, TcpHeader, header_with}
use Rattle.wire_tcp_options.specs.TcpItems.{IsOptionList, Item, item}
use Rattle.wire_tcp_options.specs.declared.tcp.control.TcpControl.{TcpControl}
use Rattle.wire_tcp_options.specs.declared.tcp.control.TcpControl.TheVariants as control
use Rattle.c_structs.proofs.TcpKept.{bare-list, eight, stamp-list}
use Rattle.c_structs.proofs.TcpStamped.{padded, padded-list}
use Rattle.c_read.specs.TcpUsual.{IsUsual}

control-of : (bytes : List ℕ) → AreBytes bytes → (field bytes 104 8 ≡ 0x10) ⊎ (field bytes 104 8 ≡ 0x18) → (asked : TcpControl) × HasControl bytes asked
control-of bytes h is = elim is [
  | inl none ↦ (control.None, (record { rst = omega (arith, none); syn = omega (arith, none); fin = omega (arith, none) }, omega (arith, none)))
  | inr psh ↦ (control.Psh, (record { rst = omega (arith, psh); syn = omega (arith, psh); fin = omega (arith, psh) }, omega (arith, psh)))
]

-- a list of options
record Listed (bytes : List ℕ) : Type 0 where
  lengths : HasLengths bytes
  items : List Item
  tail : List ℕ
  list : IsOptionList (options_of bytes) items tail

listed : (bytes : List ℕ) → AreBytes bytes → 20 ≤ length bytes → IsUsual bytes → Listed bytes
listed bytes h least u = elim u.list [
  | inl size ↦ record { lengths = record { least = least; header = omega (arith, size); whole = omega (arith, size, least) }; items = []; tail = []; list = bare-list bytes size }
  | inr (inl s) ↦ let size = s.size in let whole = s.whole in
      record { lengths = record { least = least; header = omega (arith, size); whole = omega (arith, size, whole) }; items = padded bytes; tail = []; list = padded-list bytes h s }
  | inr (inr s) ↦ let size = s.size in let whole = s.whole in
      record {
        lengths = record { least = least; header = omega (arith, size); whole = omega (arith, size, whole) };
        items = item 8 (eight bytes 22) ∷ [];
        tail = 0 ∷ 0 ∷ [];
        list = stamp-list bytes h s;
      }
]

pub usual-lengths : (bytes : List ℕ) → AreBytes bytes → 20 ≤ length bytes → IsUsual bytes → HasLengths bytes
usual-lengths bytes h least u = (listed bytes h least u).lengths

pub usual-read : (src dst : IpAddress) (bytes : List ℕ) → AreBytes bytes → 20 ≤ length bytes → IsUsual bytes → (v : TcpHeader) × (tcp_of src dst false bytes ≡ Some v)
usual-read src dst bytes h least u =
    let (asked, asks) = control-of bytes h u.flags in
    let l = listed bytes h least u in
    let v = header_with bytes asked l.items in (
      v,
      (tcp_of-Reads src dst false bytes v).1 (reads-with bytes src dst false asked l.items l.tail
          (record { lengths = l.lengths; sender = u.sender; receiver = u.receiver; checksum = λ verified. absurd (cc) }) asks l.list),
    )
