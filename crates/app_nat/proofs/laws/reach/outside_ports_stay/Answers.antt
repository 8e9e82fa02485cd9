use Rattle.app_nat.proofs.Reaches.{ports-stay}
use Rattle.app_nat.proofs.laws.reach.outside_ports_stay.Goals as goal

pub returns : goal.returns
returns c = λ table.
    ports-stay c.args.nat.now c.args.mappings.now c.shrink_reach.new.mappings c.args.now c.args.protocol c.args.inside.now c.port_of-before.result c.port_of.result
    c.shrink_reach.ensures.shrinks table c.port_of-before.ensures.found c.port_of-before.ensures.none c.port_of.ensures.found c.port_of.ensures.none
