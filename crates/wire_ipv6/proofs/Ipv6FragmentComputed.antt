-- The computed value of a fragment header is the value that it parses as.
use Rattle.std.proofs.Common.{ℕ, ◌≡◌, ◌↔◌, List, Some, refl, arith}
use Rattle.std.proofs.lemmas.Bool.Decides.{nat_tests}
use Rattle.net_base.specs.Field.{field}
use Rattle.net_base.proofs.Readings.{flag_test}
use Rattle.wire_ipv6.specs.Ipv6Fragment.{Reads, header_of, ipv6_fragment_of}
use Rattle.wire_ipv6.specs.declared.ipv6fragment.repr.Ipv6FragmentRepr.{Ipv6FragmentRepr}

Reads-is : (bytes : List ℕ) (v : Ipv6FragmentRepr) → Reads bytes v → v ≡ header_of bytes
Reads-is bytes v r =
    let more = flag_test v.more_frags (field bytes 15 1) r.more_frags in
    rw (← r.frag_offset, ← more, ← r.ident) refl

-- bytes parse as a value exactly if it is the computed one
pub ipv6_fragment_of_Reads : (bytes : List ℕ) (v : Ipv6FragmentRepr) → (ipv6_fragment_of bytes ≡ Some v) ↔ Reads bytes v
unfolding ipv6_fragment_of
ipv6_fragment_of_Reads bytes v = (λ e. grind (arith, nat_tests), λ r. let is = Reads-is bytes v r in grind (arith, nat_tests))
