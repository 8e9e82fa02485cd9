use Rattle.std.proofs.Common.{arith, inr}
use Rattle.app_fragment.proofs.partials.place_of.Goals as goal

pub returns : goal.returns
returns c = inr (record {
  inside = c.loop-i.invariant.inside;
  none = λ j low. c.loop-i.invariant.none j (omega arith);
  least = λ j low. c.loop-i.invariant.least j (omega arith);
  first = c.loop-i.invariant.first;
})
