use Rattle.std.proofs.Common.{◌∙◌, ◌||◌, ap, Bool}
use Rattle.tcp_stream.specs.Ranges.{has, covers}
use Rattle.tcp_stream.proofs.Spans.{pushed, shifted, exchanged}
use Rattle.tcp_stream.proofs.ranges.Ranges.push_after.Goals as goal

pub returns-in-Some-clause-known : goal.returns-in-Some-clause-known
returns-in-Some-clause-known c = λ n.
    let old = c.args.self.now in
    let left = c.in-Some.left in
    pushed old c.push.new.self left c.push.ensures.first c.push.ensures.second c.push.ensures.third c.push.ensures.fourth c.push.ensures.fifth c.push.ensures.sixth c.push.ensures.seventh c.push.ensures.eighth c.requires.room n ∙ exchanged (covers left n) (has old n)
    ∙ ap (λ (x : Bool). has old n || x) (shifted left c.args.range c.args.taken n c.in-Some.ensures.0 c.in-Some.ensures.1)
