use Rattle.std.proofs.Common.{◌∙◌, ◌||◌, sym, ap, Bool}
use Rattle.tcp_stream.specs.Ranges.{has, covers}
use Rattle.tcp_stream.proofs.Spans.{pushed, or_swap, or_assoc, exchanged}
use Rattle.tcp_stream.proofs.ranges.Ranges.join.Goals as goal

pub returns-then-b-a-clause-known : goal.returns-then-b-a-clause-known
returns-then-b-a-clause-known c = λ n.
    let old = c.args.self.now in
    ap (λ (x : Bool). x || covers c.args.b n) (pushed old c.push.new.self c.args.a c.push.ensures.first c.push.ensures.second c.push.ensures.third c.push.ensures.fourth c.push.ensures.fifth c.push.ensures.sixth c.push.ensures.seventh c.push.ensures.eighth c.requires.room n)
    ∙ or_assoc (covers c.args.a n) (has old n) (covers c.args.b n) ∙ sym (or_swap (has old n) (covers c.args.a n) (covers c.args.b n))

pub returns-then-a-b-clause-known : goal.returns-then-a-b-clause-known
returns-then-a-b-clause-known c = λ n.
    let old = c.args.self.now in
    ap (λ (x : Bool). x || covers c.args.a n) (pushed old c.push-then-a-b.new.self c.args.b c.push-then-a-b.ensures.first c.push-then-a-b.ensures.second c.push-then-a-b.ensures.third c.push-then-a-b.ensures.fourth c.push-then-a-b.ensures.fifth c.push-then-a-b.ensures.sixth c.push-then-a-b.ensures.seventh c.push-then-a-b.ensures.eighth c.requires.room n)
    ∙ or_assoc (covers c.args.b n) (has old n) (covers c.args.a n) ∙ sym (or_swap (has old n) (covers c.args.b n) (covers c.args.a n)) ∙ ap (λ (x : Bool). has old n || x) (exchanged (covers c.args.b n) (covers c.args.a n))
