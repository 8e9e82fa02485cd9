use Rattle.std.proofs.Common.{ℕ, ◌≡◌, ◌≤◌, ◌<◌, ◌+◌, ◌-◌, length}
use Rattle.app_host.specs.Ipv6Fault.{fault_of, headers_fault}
use Rattle.app_host.proofs.ipv6_fault.first_fault.Given as goal

-- the headers that are left have the fault of all of them
abbrev pub invariant-loop-fault : goal.invariant-loop-fault
invariant-loop-fault l = record {
  within : l.start ≤ length l.payload;
  left : (n : ℕ) × (length l.payload < n + l.start) × (headers_fault n l.payload l.number l.pointer l.start ≡ fault_of l.next_header l.payload);
}

abbrev pub decreases-loop-fault : goal.decreases-loop-fault
decreases-loop-fault l = length l.payload - l.start
