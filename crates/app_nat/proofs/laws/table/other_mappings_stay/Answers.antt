use Rattle.app_nat.proofs.Meaning.{others}
use Rattle.app_nat.proofs.laws.table.other_mappings_stay.Goals as goal

pub returns : goal.returns
returns c = others c.args.nat.now c.args.mappings.now c.open.new.mappings c.args.now c.args.event c.args.inside.now c.args.remote.now c.open.result c.open.ensures.opened c.open.ensures.unchanged
