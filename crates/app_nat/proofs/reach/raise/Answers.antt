use Rattle.std.proofs.Common.{◌+◌, ap}
use Rattle.app_nat.proofs.Reaches.{raises-next}
use Rattle.app_nat.proofs.reach.raise.Goals as goal

pub loop-index-preserved : goal.loop-index-preserved
loop-index-preserved c =
    raises-next c.args.nat.now c.args.mappings.now c.loop-index.mappings c.raise_by.new.mappings c.args.now c.args.protocol (c.from.result + c.loop-index.index) c.loop-index.index
    (ap (λ x. x + c.loop-index.index) c.from.ensures) c.loop-index.invariant c.raise_by.ensures
