use Rattle.std.proofs.Common.{◌≡◌, ◌%◌, List, length}
use Rattle.wire_tcp_options.proofs.OptionLists.{Items}
use Rattle.wire_tcp_options.specs.TcpItems.{Item}
use Rattle.wire_tcp_options.specs.TcpSummary.{summary_in, summary_of}
use Rattle.wire_tcp_options.proofs.tcp.summary.summarize.Given as goal

-- the values are those of the items that the walk has passed
abbrev pub invariant-loop-rest : goal.invariant-loop-rest
invariant-loop-rest l =
    (items : List Item) × Items l.options items l.rest × (summary_in l.values ≡ summary_of items) × (length l.values.sack_blocks.now % 8 ≡ 0)

abbrev pub decreases-loop-rest : goal.decreases-loop-rest
decreases-loop-rest l = length l.rest
