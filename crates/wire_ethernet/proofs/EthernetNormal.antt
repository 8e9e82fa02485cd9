-- Normal forms: what was read is in its own, and a normal form is its own.
use Rattle.std.proofs.Common.{ℕ, ◌≡◌, List, ap, arith}
use Rattle.std.proofs.lemmas.Bool.{cond_both, eqb-true}
use Rattle.wire_ethernet.specs.Ethernet.{Reads, known, normal, number_of, protocol_of}
use Rattle.wire_ethernet.specs.declared.ethernet.EthernetProtocol.{EthernetProtocol}
use Rattle.wire_ethernet.specs.declared.ethernet.EthernetRepr.{EthernetRepr}
use Rattle.std.proofs.lemmas.Grind.{common_steps}
use Rattle.std.proofs.lemmas.Bool.Decides.{nat_tests}

-- the protocol that a number names has that number
pub number_of-protocol_of : (n : ℕ) → number_of (protocol_of n) ≡ n
number_of-protocol_of n = grind (arith, common_steps, nat_tests, cond_both, eqb-true)

known-known : (p : EthernetProtocol) → known (known p) ≡ known p
known-known p = ap protocol_of (number_of-protocol_of (number_of p))

pub normal_normal : (v : EthernetRepr) → normal (normal v) ≡ normal v
normal_normal v = ap (λ p. record v { ethertype = p }) (known-known v.ethertype)

pub normal_read : (bytes : List ℕ) (v : EthernetRepr) → Reads bytes v → normal v ≡ v
normal_read bytes v r = grind (arith, common_steps, nat_tests, number_of-protocol_of)
