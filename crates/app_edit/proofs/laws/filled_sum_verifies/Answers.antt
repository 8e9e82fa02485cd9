use Rattle.app_edit.proofs.Kept.{found, in-frame}
use Rattle.app_edit.proofs.Sent.{filled-verifies}
use Rattle.app_edit.proofs.laws.filled_sum_verifies.Goals as goal

pub returns : goal.returns
returns c p s is one =
    filled-verifies p.version s c.args.frame.now (in-frame p s c.args.frame.now (found c.of.result c.args.frame.now p c.of.ensures.value c.of.ensures.holds is) one)
