use Rattle.std.proofs.Common.{arith, inl, inr}
use Rattle.tcp_stream.proofs.Pending.{rest_drop}
use Rattle.tcp_stream.proofs.sending.Sending.let_go_bytes.Goals as goal

pub returns-else-count-self-clause-rest : goal.returns-else-count-self-clause-rest
returns-else-count-self-clause-rest c = λ buffer size.
    rest_drop c.args.self.now.start c.wrapped-self.result c.args.count c.args.self.now.len buffer c.args.self.now.has_fin (omega arith) (omega (arith, c.wrapped-self.ensures.inside)) (elim c.wrapped-self.ensures.same [ inl is ↦ inl is | inr is ↦ inr (omega arith) ])
    (omega arith) (omega arith)
