use Rattle.std.proofs.Common.{arith, refl}
use Rattle.tcp_stream.proofs.Standing.{opens}
use Rattle.tcp_stream.proofs.receiving.Receiving.on_syn.Goals as goal

pub returns-then-not-self-clause-opens : goal.returns-then-not-self-clause-opens
returns-then-not-self-clause-opens c = λ w consumed buffer which rest shut it stands. opens w which c.args.number rest consumed c.args.self.now _ buffer it stands shut (omega arith) refl
