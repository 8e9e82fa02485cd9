use Rattle.std.proofs.Common.{◌∙◌}
use Rattle.app_edit.proofs.Direct.{direct}
use Rattle.app_edit.proofs.places.direct_places.Goals as goal

pub returns-clause-value : goal.returns-clause-value
returns-clause-value c = c.begun_places.ensures.value ∙ direct c.args.frame.now c.args.number c.args.end c.requires.direct
