use Rattle.std.proofs.Common.{◌≡◌, length, arith}
use Rattle.app_fragment.proofs.reassembly.clear.Goals as goal
use Rattle.app_fragment.proofs.Agreeing.{none_held, no_ends}

pub returns : goal.returns
returns c = λ buffer. record {
  holds = none_held buffer c.loop-block.received (λ i lt. let keep : length c.loop-block.received ≡ length c.args.received.now = c.loop-block.auto.received in c.loop-block.invariant i (omega arith));
  reached = no_ends;
}
