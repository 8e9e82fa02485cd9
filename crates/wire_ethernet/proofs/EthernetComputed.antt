-- The computed value of a header is the one that it is read as.
use Rattle.std.proofs.Common.{ℕ, ◌≡◌, ◌↔◌, ◌≤◌, List, Some, length, refl, arith}
use Rattle.std.proofs.lemmas.Bool.Decides.{nat_tests}
use Rattle.wire_ethernet.specs.Ethernet.{Reads, ethernet_of, header_of}
use Rattle.wire_ethernet.specs.declared.ethernet.EthernetRepr.{EthernetRepr}

-- bytes that hold a header are read as its values
pub ethernet_of-whole : (bytes : List ℕ) → 14 ≤ length bytes → ethernet_of bytes ≡ Some (header_of bytes)
unfolding ethernet_of
ethernet_of-whole bytes h = grind (arith, nat_tests)

pub Reads-is : (bytes : List ℕ) (v : EthernetRepr) → Reads bytes v → v ≡ header_of bytes
Reads-is bytes v r = rw (← r.dst_addr, ← r.src_addr, ← r.ethertype) refl

pub ethernet_of-Reads : (bytes : List ℕ) (v : EthernetRepr) → (ethernet_of bytes ≡ Some v) ↔ Reads bytes v
unfolding ethernet_of
ethernet_of-Reads bytes v = (λ e. grind (arith, nat_tests), λ r. let is = Reads-is bytes v r in grind (arith, nat_tests))
