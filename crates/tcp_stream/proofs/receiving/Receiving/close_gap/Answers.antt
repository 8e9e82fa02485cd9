use Rattle.std.proofs.Common.{arith, ap, ◌≡◌, ◌+◌}
use Rattle.tcp_stream.specs.declared.receiving.Receiving.{Receiving}
use Rattle.tcp_stream.proofs.Spans.{top_shift, top_taken}
use Rattle.tcp_stream.proofs.receiving.Receiving.close_gap.Goals as goal

pub returns-then-self-to-clause-reach : goal.returns-then-self-to-clause-reach
returns-then-self-to-clause-reach c =
    let most = top_taken c.args.self.now.ranges c.args.n c.gap-to.result c.gap-to.ensures.before in
    let len : c.end.new.self.len ≡ c.args.self.now.len + c.gap-to.result = ap (λ (d : Receiving). d.len) c.end.ensures.same in
    omega (arith, c.end.ensures.top)

pub returns-clause-reach : goal.returns-clause-reach
returns-clause-reach c =
    let most = top_taken c.args.self.now.ranges c.args.n c.gap-to.result c.gap-to.ensures.before in
    let shift = top_shift c.args.self.now.ranges c.advance.new.self c.gap-to.result c.advance.ensures.known in
    omega arith
