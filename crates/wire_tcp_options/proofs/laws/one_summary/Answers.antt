use Rattle.wire_tcp_options.proofs.One.{one_summary}
use Rattle.wire_tcp_options.proofs.laws.one_summary.Goals as goal

pub returns : goal.returns
returns c = record {
  one = one_summary c.args.bytes.now c.args.a c.args.b;
  not_both = λ h none. none h.0 h.1 h.2;
}
