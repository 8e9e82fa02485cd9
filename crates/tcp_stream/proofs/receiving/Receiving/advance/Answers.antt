use Rattle.std.proofs.Common.{arith, ◌≤◌}
use Rattle.tcp_stream.specs.Ranges.{top}
use Rattle.tcp_stream.proofs.Spans.{top_none}
use Rattle.tcp_stream.proofs.receiving.Receiving.advance.Goals as goal

pub returns-then-self-eq0-clause-reach : goal.returns-then-self-eq0-clause-reach
returns-then-self-eq0-clause-reach c =
    let none : top c.args.self.now.ranges ≤ 0 = top_none c.args.self.now.ranges (c.is_empty.ensures.yes c.if-is_empty.true) in
    omega arith
