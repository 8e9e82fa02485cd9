use Rattle.wire_tcp_options.proofs.One.{one_answer}
use Rattle.wire_tcp_options.proofs.laws.one_walk_answer.Goals as goal

pub returns : goal.returns
returns c = record {
  permitted = λ kind value default a b. one_answer c.args.bytes.now kind value default a b;
  ranges = λ kind value default a b. one_answer c.args.bytes.now kind value default a b;
}
