-- Normal forms: what was read is in its own, and a normal form is its own.
use Rattle.std.proofs.Common.{ℕ, ◌≡◌, Bool, List, ap}
use Rattle.net_base.specs.Field.{field}
use Rattle.wire_addr.proofs.Protocols.{known-known, known-read}
use Rattle.wire_ipv4.specs.Ipv4.{Reads, normal}
use Rattle.wire_ipv4.specs.declared.ipv4.repr.Ipv4Repr.{Ipv4Repr}

-- a canonical value is its own canonical form
pub normal_normal : (v : Ipv4Repr) → normal (normal v) ≡ normal v
normal_normal v = ap (λ p. record v { next_header = p }) (known-known v.next_header)

-- a value that was read is canonical
pub normal_read : (bytes : List ℕ) (verified : Bool) (v : Ipv4Repr) → Reads bytes verified v → normal v ≡ v
normal_read bytes verified v r = ap (λ p. record v { next_header = p }) (known-read v.next_header (field bytes 72 8) r.next_header)
