-- Normal forms: a parsed value is in normal form, and the normal form of a normal form is itself.
use Rattle.std.proofs.Common.{ℕ, ◌≡◌, List, ap}
use Rattle.net_base.specs.Field.{field}
use Rattle.wire_addr.proofs.Protocols.{known-known, known-read}
use Rattle.wire_ipv6.specs.Ipv6.{Reads, normal}
use Rattle.wire_ipv6.specs.declared.ipv6.repr.Ipv6Repr.{Ipv6Repr}

-- the normal form of a normal form is itself
pub normal_normal : (v : Ipv6Repr) → normal (normal v) ≡ normal v
normal_normal v = ap (λ p. record v { next_header = p }) (known-known v.next_header)

-- a parsed value is in normal form
pub normal_read : (bytes : List ℕ) (v : Ipv6Repr) → Reads bytes v → normal v ≡ v
normal_read bytes v r = ap (λ p. record v { next_header = p }) (known-read v.next_header (field bytes 48 8) r.next_header)
