-- Normal forms: what was read is in its own, and a normal form is its own.
use Rattle.std.proofs.Common.{ℕ, ◌≡◌, List, arith}
use Rattle.std.proofs.lemmas.Bool.{cond_both, eqb-true}
use Rattle.wire_arp.specs.Arp.{Reads, normal, operation_number, operation_of}
use Rattle.wire_arp.specs.declared.arp.repr.ArpRepr.{ArpRepr}
use Rattle.std.proofs.lemmas.Grind.{common_steps}
use Rattle.std.proofs.lemmas.Bool.Decides.{nat_tests}

-- the operation that a number names has that number
pub operation_number-of : (n : ℕ) → operation_number (operation_of n) ≡ n
operation_number-of n = grind (arith, common_steps, nat_tests, cond_both, eqb-true)

pub normal_normal : (v : ArpRepr) → normal (normal v) ≡ normal v
normal_normal v = grind arith

pub normal_read : (bytes : List ℕ) (v : ArpRepr) → Reads bytes v → normal v ≡ v
normal_read bytes v r = grind (arith, common_steps, nat_tests, operation_number-of)
