-- `udp_of` computes the value that a UDP packet parses as.
use Rattle.std.proofs.Common.{ℕ, ◌≡◌, ◌↔◌, Bool, true, false, List, Some, Result, Ok, refl, arith}
use Rattle.std.proofs.lemmas.Bool.Decides.{nat_tests}
use Rattle.std.specs.Bool.{Decides}
use Rattle.std.specs.Result.{result_ok}
use Rattle.net_base.proofs.Readings.{answer_computed}
use Rattle.net_base.specs.declared.error.Error.{Error}
use Rattle.wire_addr.specs.declared.ip_address.IpAddress.{IpAddress}
use Rattle.wire_addr.specs.declared.ip_address.IpAddress.TheVariants as address
use Rattle.wire_udp.specs.Udp.{HasChecksum, HasLengths, Reads, has_checksum, has_lengths, header_of, payload_of, udp_of}
use Rattle.wire_udp.specs.declared.udp.repr.UdpRepr.{UdpRepr}

-- ---- each test is true exactly if the fact in its name is

has_lengths-HasLengths : (bytes : List ℕ) → Decides (has_lengths bytes) (HasLengths bytes)
has_lengths-HasLengths bytes = grind (arith, nat_tests)

-- if the lengths are valid, the test is true
pub HasLengths-has_lengths : (bytes : List ℕ) → HasLengths bytes → has_lengths bytes ≡ true
HasLengths-has_lengths bytes = (has_lengths-HasLengths bytes).1

pub has_checksum-HasChecksum : (src dst : IpAddress) (bytes : List ℕ) → (has_checksum src dst bytes ≡ true) ↔ HasChecksum src dst bytes
has_checksum-HasChecksum (address.Ipv4 octets) dst bytes = grind (arith, nat_tests)
has_checksum-HasChecksum (address.Ipv6 octets) dst bytes = grind (arith, nat_tests)

-- ---- the whole value

pub Reads-is : (src dst : IpAddress) (verified : Bool) (bytes : List ℕ) (v : UdpRepr) (payload : List ℕ) → Reads bytes src dst verified v payload → v ≡ header_of bytes
Reads-is src dst verified bytes v payload r = rw (← r.src_port, ← r.dst_port) refl

-- the computed value is the one that the relation `Reads` defines
pub udp_of-Reads : (src dst : IpAddress) (verified : Bool) (bytes : List ℕ) (v : UdpRepr)
    → (udp_of src dst verified bytes ≡ Some v) ↔ Reads bytes src dst verified v (payload_of bytes)
unfolding udp_of
udp_of-Reads src dst true bytes v =
    let checksum = has_checksum-HasChecksum src dst bytes in
    (λ e. grind (arith, nat_tests), λ r. let is = Reads-is src dst true bytes v (payload_of bytes) r in grind (arith, nat_tests))
udp_of-Reads src dst false bytes v = (λ e. grind (arith, nat_tests), λ r. let is = Reads-is src dst false bytes v (payload_of bytes) r in grind (arith, nat_tests))

-- the result of `parse` is the computed value, if there is one
pub answer-udp_of : (src dst : IpAddress) (verified : Bool) (bytes : List ℕ) (answer : Result UdpRepr Error)
    → ((v : UdpRepr) → (answer ≡ Ok v) ↔ Reads bytes src dst verified v (payload_of bytes))
    → udp_of src dst verified bytes ≡ result_ok answer
answer-udp_of src dst verified bytes answer reads =
    answer_computed (λ v. Reads bytes src dst verified v (payload_of bytes)) answer (udp_of src dst verified bytes) reads (udp_of-Reads src dst verified bytes)
