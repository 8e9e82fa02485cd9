use Rattle.app_nat.proofs.Reaches.{shrinks-by, shrunk-table}
use Rattle.app_nat.proofs.reach.shrink_reach.Goals as goal

pub returns-clause-shrinks : goal.returns-clause-shrinks
returns-clause-shrinks c =
    shrinks-by c.args.nat.now c.args.mappings.now c.clear.new.mappings c.raise.new.mappings c.raise-2.new.mappings c.raise-3.new.mappings c.args.now
    c.clear.ensures.mappings c.clear.ensures.reach c.raise.ensures c.raise-2.ensures c.raise-3.ensures

pub returns-clause-keeps : goal.returns-clause-keeps
returns-clause-keeps c =
    shrunk-table c.args.nat.now c.args.mappings.now c.raise-3.new.mappings c.args.now
    (shrinks-by c.args.nat.now c.args.mappings.now c.clear.new.mappings c.raise.new.mappings c.raise-2.new.mappings c.raise-3.new.mappings c.args.now
    c.clear.ensures.mappings c.clear.ensures.reach c.raise.ensures c.raise-2.ensures c.raise-3.ensures)
