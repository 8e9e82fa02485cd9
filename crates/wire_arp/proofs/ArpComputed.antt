-- The computed value of an ARP packet is the one that it is read as.
use Rattle.std.proofs.Common.{ℕ, ◌≡◌, ◌↔◌, ◌≤◌, List, Some, length, slice_range, take, refl, arith}
use Rattle.std.proofs.lemmas.Bool.Decides.{nat_tests}
use Rattle.std.proofs.lemmas.Slice.Eq.{bytes_eq-Decides}
use Rattle.wire_addr.specs.declared.ethernet_address.EthernetAddress.{EthernetAddress}
use Rattle.net_base.specs.Field.{field}
use Rattle.net_base.proofs.Spelled.{AreBytes}
use Rattle.wire_arp.specs.Arp.{Reads, arp_of, ethernet_ipv4, hardware_len, hardware_of, operation_of, protocol_len, value_of}
use Rattle.wire_ethernet.specs.Ethernet.{protocol_of}
use Rattle.wire_arp.specs.declared.arp.ArpHardware.TheVariants as hardware
use Rattle.wire_arp.specs.declared.arp.ArpOperation.{ArpOperation}
use Rattle.wire_arp.specs.declared.arp.repr.ArpRepr.{ArpRepr}
use Rattle.wire_arp.specs.declared.arp.repr.ArpRepr.TheVariants.{EthernetIpv4}
use Rattle.wire_ethernet.specs.declared.ethernet.EthernetProtocol.TheVariants as protocol
use Rattle.std.proofs.lemmas.Grind.{common_steps}

pub arp_of-Reads : (bytes : List ℕ) (v : ArpRepr) → (arp_of bytes ≡ Some v) ↔ Reads bytes v
unfolding arp_of
arp_of-Reads bytes v = grind (arith, common_steps, nat_tests, bytes_eq-Decides)

-- ---- what a reader finds

-- the value of a packet, field by field
pub value_of-fields : (bytes : List ℕ) (operation : ArpOperation) (sha : EthernetAddress) (spa : List ℕ) (tha : EthernetAddress) (tpa : List ℕ)
    → operation ≡ operation_of (field bytes 48 16) → sha.0 ≡ slice_range bytes 8 14 → spa ≡ slice_range bytes 14 18
    → tha.0 ≡ slice_range bytes 18 24 → tpa ≡ slice_range bytes 24 28 → EthernetIpv4 operation sha spa tha tpa ≡ value_of bytes
value_of-fields bytes operation sha spa tha tpa o a b c d = rw (← a, ← b, ← c, ← d, ← o) refl

-- the numbers of Ethernet and IPv4, and the lengths of their addresses, are the bytes that name them
pub kind_fields : (bytes : List ℕ) → AreBytes bytes → 6 ≤ length bytes → hardware_of (field bytes 0 16) ≡ hardware.Ethernet
    → protocol_of (field bytes 16 16) ≡ protocol.Ipv4 → hardware_len bytes ≡ 6 → protocol_len bytes ≡ 4 → take 6 bytes ≡ ethernet_ipv4
kind_fields bytes h room t p hl pl = grind (arith, common_steps, nat_tests)
