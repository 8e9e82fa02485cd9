use Rattle.std.proofs.Common.{ℕ, List, ◌↔◌, length}
use Rattle.app_host.specs.Ipv6Chain.{LeadsTo}
use Rattle.app_host.proofs.ipv6_chain.upper_layer.Given as goal

-- the headers that are left lead to what all of them lead to
abbrev pub invariant-loop-rest : goal.invariant-loop-rest
invariant-loop-rest l =
    (protocol : ℕ) (message : List ℕ) → LeadsTo protocol message l.next_header l.payload ↔ LeadsTo protocol message l.number l.rest

abbrev pub decreases-loop-rest : goal.decreases-loop-rest
decreases-loop-rest l = length l.rest
