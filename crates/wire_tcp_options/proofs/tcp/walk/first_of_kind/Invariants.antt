use Rattle.std.proofs.Common.{◌≡◌, List, None, length}
use Rattle.wire_tcp_options.proofs.Walks.{Marks}
use Rattle.wire_tcp_options.specs.TcpWalk.{Mark, first_of}
use Rattle.wire_tcp_options.proofs.tcp.walk.first_of_kind.Given as goal

-- no mark that the walk has passed is an item of the kind
abbrev pub invariant-loop-rest : goal.invariant-loop-rest
invariant-loop-rest l = (marks : List Mark) × Marks l.options marks l.rest × (first_of l.kind marks ≡ None)

abbrev pub decreases-loop-rest : goal.decreases-loop-rest
decreases-loop-rest l = length l.rest
