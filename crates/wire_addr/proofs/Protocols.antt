-- Protocol numbers and the protocols that they name.
use Rattle.std.proofs.Common.{ℕ, ◌≡◌, ap, arith}
use Rattle.wire_addr.specs.Protocol.{known, number_of, protocol_of}
use Rattle.wire_addr.specs.declared.ip_protocol.IpProtocol.{IpProtocol}
use Rattle.std.proofs.lemmas.Grind.{common_steps}
use Rattle.std.proofs.lemmas.Bool.Decides.{nat_tests}

-- the protocol that a number names has that number
pub number_of-protocol_of : (n : ℕ) → number_of (protocol_of n) ≡ n
number_of-protocol_of n = grind (arith, common_steps, nat_tests)

-- the canonical form of a canonical form is itself
pub known-known : (p : IpProtocol) → known (known p) ≡ known p
known-known p = ap protocol_of (number_of-protocol_of (number_of p))

-- a protocol that is converted from a number is in its canonical form
pub known-read : (p : IpProtocol) (n : ℕ) → p ≡ protocol_of n → known p ≡ p
known-read p n is = rw is (ap protocol_of (number_of-protocol_of n))
