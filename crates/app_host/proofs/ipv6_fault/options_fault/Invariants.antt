use Rattle.std.proofs.Common.{ℕ, ◌≡◌, ◌≤◌, ◌+◌, ◌-◌, length}
use Rattle.app_host.specs.Ipv6Fault.{options_fault}
use Rattle.app_host.proofs.ipv6_fault.options_fault.Given as goal

-- the options that are left have the fault of all of them
abbrev pub invariant-loop-start : goal.invariant-loop-start
invariant-loop-start l =
    (n : ℕ) × (l.end ≤ n + l.start) × (options_fault n l.payload l.start l.end ≡ options_fault (length l.payload) l.payload l.first l.end)

abbrev pub decreases-loop-start : goal.decreases-loop-start
decreases-loop-start l = l.end - l.start
