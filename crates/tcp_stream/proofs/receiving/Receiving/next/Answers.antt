use Rattle.tcp_stream.proofs.Standing.{answers}
use Rattle.tcp_stream.proofs.receiving.Receiving.next.Goals as goal

pub returns-then-self-clause-legal : goal.returns-then-self-clause-legal
returns-then-self-clause-legal c = λ w consumed buffer stands. answers w consumed c.args.self.now buffer c.if-self.true stands
