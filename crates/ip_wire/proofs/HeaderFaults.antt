-- Why the header of an IPv4 packet is rejected.
use Rattle.std.proofs.Common.{ℕ, ◌≡◌, ◌↔◌, ◌==◌, IsTrue, Bool, true, false, List, Result, Ok, Err, Some, None, refl, take}
use Rattle.std.proofs.lemmas.Bool.{ne_eqb}
use Rattle.std.specs.Result.{result_ok}
use Rattle.ip_wire.specs.HeaderFault.{ipv4_fault}
use Rattle.ip_wire.specs.Types.{Error, Ipv4Repr}
use Rattle.ip_wire.specs.declared.frame.header.HeaderFault.TheVariants.{BadHeader, WrongChecksum}
use Rattle.wire_ipv4.proofs.Ipv4Changed.{reads-verified}
use Rattle.wire_ipv4.proofs.Ipv4Computed.{ipv4_of-Reads}
use Rattle.wire_checksum.specs.WordSum.{sum_of_bytes}
use Rattle.wire_ipv4.specs.Ipv4.{HasChecksum, Reads, header_len, ipv4_of}

pub bad-header : (bytes : List ℕ) (answer : Result Ipv4Repr Error) (error : Error) → ipv4_of false bytes ≡ result_ok answer → answer ≡ Err error
    → ipv4_fault bytes ≡ Some BadHeader
bad-header bytes answer error value is = rw (value, is) refl

pub wrong-checksum : (bytes : List ℕ) (answer : Result Ipv4Repr Error) (v : Ipv4Repr) (valid : Bool) → ipv4_of false bytes ≡ result_ok answer → answer ≡ Ok v
    → IsTrue valid ↔ HasChecksum bytes → valid ≡ false → ipv4_fault bytes ≡ Some WrongChecksum
wrong-checksum bytes answer v valid value is sums off =
    let wrong : (sum_of_bytes (take (header_len bytes) bytes) == 65535) ≡ false = ne_eqb _ _ (λ full. let yes : valid ≡ true = sums.1 full in cc) in
    rw (value, is, wrong) refl

-- a header with a valid checksum is not rejected
pub reads-no_fault : (bytes : List ℕ) (v : Ipv4Repr) → Reads bytes true v → ipv4_fault bytes ≡ None
reads-no_fault bytes v r = rw ((ipv4_of-Reads false bytes v).1 (reads-verified bytes true false v r (λ _. r.checksum refl)), r.checksum refl) refl
