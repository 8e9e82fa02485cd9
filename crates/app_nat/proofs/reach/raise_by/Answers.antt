use Rattle.app_nat.proofs.Reaches.{raises-by}
use Rattle.app_nat.proofs.reach.raise_by.Goals as goal

pub returns-then-port-from : goal.returns-then-port-from
returns-then-port-from c =
    raises-by c.args.nat.now c.args.mappings.now c.note.new.mappings c.args.now c.args.protocol c.args.port _ c.inside-inside.result c.requires
    (simp c.place.ensures at c.inside-inside.ensures) (simp c.place.ensures at c.if-now-mapping.true) c.note.ensures.noted
