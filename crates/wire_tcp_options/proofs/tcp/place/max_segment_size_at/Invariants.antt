use Rattle.std.proofs.Common.{◌≡◌, List, length}
use Rattle.wire_tcp_options.proofs.OptionLists.{Items}
use Rattle.wire_tcp_options.specs.TcpItems.{Item}
use Rattle.wire_tcp_options.specs.TcpPlace.{segment_size_at}
use Rattle.wire_tcp_options.proofs.tcp.place.max_segment_size_at.Given as goal

-- the index is that of the items that the walk has passed
abbrev pub invariant-loop-rest : goal.invariant-loop-rest
invariant-loop-rest l = (items : List Item) × Items l.options items l.rest × (l.at ≡ segment_size_at items)

abbrev pub decreases-loop-rest : goal.decreases-loop-rest
decreases-loop-rest l = length l.rest
