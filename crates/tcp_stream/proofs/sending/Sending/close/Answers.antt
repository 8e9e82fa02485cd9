use Rattle.tcp_stream.proofs.Pending.{close_waits}
use Rattle.tcp_stream.proofs.sending.Sending.close.Goals as goal

pub returns-then-not-self-clause-waits : goal.returns-then-not-self-clause-waits
returns-then-not-self-clause-waits c = λ w buffer waits. close_waits w c.args.self.now buffer c.if-not-self.true waits
