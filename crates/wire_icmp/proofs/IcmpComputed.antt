-- `icmp_of` computes the value that an ICMP message parses as.
use Rattle.std.proofs.Common.{ℕ, ◌≡◌, ◌↔◌, Bool, true, false, List, Some, Result, Ok, arith}
use Rattle.std.proofs.lemmas.Bool.Decides.{nat_tests}
use Rattle.std.specs.Result.{result_ok}
use Rattle.net_base.proofs.Readings.{answer_computed}
use Rattle.net_base.specs.declared.error.Error.{Error}
use Rattle.wire_addr.specs.declared.ip_address.IpAddress.{IpAddress}
use Rattle.wire_icmp.specs.Icmp.{Reads, icmp_of, payload_of}
use Rattle.wire_icmp.specs.declared.icmp.repr.IcmpRepr.{IcmpRepr}

-- the computed value is the one that the relation `Reads` defines
pub icmp_of_Reads : (src dst : IpAddress) (verified : Bool) (bytes : List ℕ) (v : IcmpRepr)
    → (icmp_of src dst verified bytes ≡ Some v) ↔ Reads bytes src dst verified v (payload_of bytes)
unfolding icmp_of
icmp_of_Reads src dst true bytes v = (λ e. grind (arith, nat_tests), λ r. grind (arith, nat_tests))
icmp_of_Reads src dst false bytes v = (λ e. grind (arith, nat_tests), λ r. grind (arith, nat_tests))

-- the result of `parse` is the computed value, if there is one
pub answer-icmp_of : (src dst : IpAddress) (verified : Bool) (bytes : List ℕ) (answer : Result IcmpRepr Error)
    → ((v : IcmpRepr) → (answer ≡ Ok v) ↔ Reads bytes src dst verified v (payload_of bytes))
    → icmp_of src dst verified bytes ≡ result_ok answer
answer-icmp_of src dst verified bytes answer reads =
    answer_computed (λ v. Reads bytes src dst verified v (payload_of bytes)) answer (icmp_of src dst verified bytes) reads (icmp_of_Reads src dst verified bytes)
