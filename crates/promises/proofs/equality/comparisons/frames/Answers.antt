use Rattle.promises.proofs.Equal.{also}
use Rattle.promises.proofs.equality.comparisons.frames.Goals as goal

pub returns : goal.returns
returns c f g = also (c.eq_is_equality.ensures.ethernet f.header g.header) (c.payloads.ensures f.carried g.carried)
