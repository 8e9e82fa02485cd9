use Rattle.promises.proofs.RouterOnce.{one_error}
use Rattle.promises.proofs.once.routes.error_once.Goals as goal

pub returns : goal.returns
returns c = one_error c.args.ours.now c.args.frame.now c.args.problem c.error.result c.error-2.result c.error.ensures.error c.error-2.ensures.error
