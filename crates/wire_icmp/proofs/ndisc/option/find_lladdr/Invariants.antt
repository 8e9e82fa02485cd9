use Rattle.std.proofs.Common.{◌≡◌, length}
use Rattle.wire_icmp.specs.NdOption.{lladdr_of}
use Rattle.wire_icmp.proofs.Options.{from_here}
use Rattle.wire_icmp.proofs.ndisc.option.find_lladdr.Given as goal

-- the options that the walk has passed make no difference but for the address found in them
abbrev pub invariant-loop-rest : goal.invariant-loop-rest
invariant-loop-rest l = lladdr_of l.kind l.options ≡ from_here l.lladdr l.kind l.rest

abbrev pub decreases-loop-rest : goal.decreases-loop-rest
decreases-loop-rest l = length l.rest
