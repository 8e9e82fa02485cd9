-- Normal forms: a parsed value is in normal form, and the normal form of a normal form is itself.
use Rattle.std.proofs.Common.{ℕ, ◌≡◌, Bool, List, ap}
use Rattle.wire_ip.specs.Ip.{Reads, normal}
use Rattle.wire_ip.specs.declared.ip.repr.IpRepr.{IpRepr}
use Rattle.wire_ip.specs.declared.ip.repr.IpRepr.TheVariants.{Ipv4, Ipv6}
use Rattle.wire_ipv4.proofs.Ipv4Normal as ipv4
use Rattle.wire_ipv6.proofs.Ipv6Normal as ipv6

-- the normal form of a normal form is itself
pub normal_normal : (v : IpRepr) → normal (normal v) ≡ normal v
normal_normal (Ipv4 v) = ap Ipv4 (ipv4.normal_normal v)
normal_normal (Ipv6 v) = ap Ipv6 (ipv6.normal_normal v)

-- a parsed value is in normal form
pub normal_read : (bytes : List ℕ) (verified : Bool) (v : IpRepr) → Reads bytes verified v → normal v ≡ v
normal_read bytes verified (Ipv4 v) r = ap Ipv4 (ipv4.normal_read bytes verified v r.header)
normal_read bytes verified (Ipv6 v) r = ap Ipv6 (ipv6.normal_read bytes v r.header)
