use Rattle.tcp_stream.specs.Network.{run, start}
use Rattle.tcp_stream.proofs.Pending.{eq_test}
use Rattle.tcp_stream.proofs.Standing.{end_delivers}
use Rattle.tcp_stream.proofs.receiving.Receiving.is_ended.Goals as goal

pub returns-then-self-clause-whole : goal.returns-then-self-clause-whole
returns-then-self-clause-whole c = λ initial events consumed buffer is_last stands. end_delivers (run events (start initial)) consumed c.args.self.now buffer c.if-self.true (eq_test _ _ is_last) stands
