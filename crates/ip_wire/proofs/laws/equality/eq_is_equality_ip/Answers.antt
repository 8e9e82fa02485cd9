use Rattle.std.proofs.Common.{Bool, true, false, ap, sym, true≢false}
use Rattle.std.proofs.lemmas.Bool.Decides.{Decides-like}
use Rattle.ip_wire.specs.Types.{IpRepr, Ipv4, Ipv4Repr, Ipv6}
use Rattle.wire_ipv6.specs.declared.Ipv6Repr.{Ipv6Repr}
use Rattle.ip_wire.proofs.laws.equality.eq_is_equality_ip.Goals as goal

-- the header of one version, and `spare` at the other
abbrev ipv4 : Ipv4Repr → IpRepr → Ipv4Repr
ipv4 spare (Ipv4 v) = v
ipv4 spare (Ipv6 v) = spare

abbrev ipv6 : Ipv6Repr → IpRepr → Ipv6Repr
ipv6 spare (Ipv4 v) = spare
ipv6 spare (Ipv6 v) = v

abbrev is_ipv4 : IpRepr → Bool
is_ipv4 (Ipv4 v) = true
is_ipv4 (Ipv6 v) = false

pub returns : goal.returns
returns c (Ipv4 v) (Ipv4 w) = Decides-like _ (ap Ipv4) (ap (ipv4 v)) (c.eq_is_equality_headers.ensures.ipv4 v w)
returns c (Ipv4 v) (Ipv6 w) = (λ e. absurd (true≢false (sym e)), λ is. absurd (true≢false (ap is_ipv4 is)))
returns c (Ipv6 v) (Ipv4 w) = (λ e. absurd (true≢false (sym e)), λ is. absurd (true≢false (sym (ap is_ipv4 is))))
returns c (Ipv6 v) (Ipv6 w) = Decides-like _ (ap Ipv6) (ap (ipv6 v)) (c.eq_is_equality_headers.ensures.ipv6 v w)
