-- `new_checked` accepts bytes that are long enough for a header. Assumes `Logic`.
use Prim.Native.Nat.{◌≤◌}
use lib.ListN.{length}
use Rattle.net_base.proofs.Checks.{error, makes_checked}
use Rattle.wire_ipv6.proofs.Ipv6FragmentViewed.{view}
use Rattle.wire_ipv6.proofs.ipv6fragment.header_mut.check.Symbol as check
use Rattle.wire_ipv6.proofs.ipv6fragment.header_mut.check.Met.{met}
use Rattle.wire_ipv6.specs.contracts.ipv6fragment.header_mut.Ipv6FragmentHeaderMut.new_checked.Key as key
use Rattle.wire_ipv6.proofs.ipv6fragment.header_mut.Ipv6FragmentHeaderMut.new_checked.Statement.{statement}
use Rattle.wire_ipv6.proofs.ipv6fragment.header_mut.Ipv6FragmentHeaderMut.new_checked.Code as code

pub new_checked_spec : {M : Type 1} → statement M
new_checked_spec 𝓤 𝓛 𝓜 𝓡 wired =
    makes_checked view error (λ bytes. 6 ≤ length bytes) 𝓛 𝓜 𝓡 check.name (met 𝓤 𝓛 𝓜 𝓡 (code.calls-wire_ipv6::ipv6fragment::header_mut::check 𝓡.env wired))
    key.name (code.unfolded 𝓤 𝓛.H 𝓜 𝓡 wired)
