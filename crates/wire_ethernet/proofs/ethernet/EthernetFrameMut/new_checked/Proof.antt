-- `new_checked` takes bytes that hold a header. Assumes `Logic`.
use Prim.Native.Nat.{◌≤◌}
use lib.ListN.{length}
use Rattle.net_base.proofs.Checks.{error, makes_checked}
use Rattle.wire_ethernet.proofs.EthernetViewed.{view}
use Rattle.wire_ethernet.proofs.ethernet.check.Symbol as check
use Rattle.wire_ethernet.proofs.ethernet.check.Met.{met}
use Rattle.wire_ethernet.specs.contracts.ethernet.EthernetFrameMut.new_checked.Key as key
use Rattle.wire_ethernet.proofs.ethernet.EthernetFrameMut.new_checked.Statement.{statement}
use Rattle.wire_ethernet.proofs.ethernet.EthernetFrameMut.new_checked.Code as code

pub new_checked_spec : {M : Type 1} → statement M
new_checked_spec 𝓤 𝓛 𝓜 𝓡 wired =
    makes_checked view error (λ bytes. 14 ≤ length bytes) 𝓛 𝓜 𝓡 check.name (met 𝓤 𝓛 𝓜 𝓡 (code.calls-wire_ethernet::ethernet::check 𝓡.env wired))
    key.name (code.unfolded 𝓤 𝓛.H 𝓜 𝓡 wired)
