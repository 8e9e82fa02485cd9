use Rattle.std.proofs.Common.{rules}
use Rattle.app_fragment.specs.Partials.{table}
use Rattle.app_fragment.proofs.TwoCalls.{two-fragments}
use Rattle.app_fragment.proofs.laws.partials.two_fragments_make_a_packet.Goals as goal

pub returns : goal.returns
returns c = λ key len.
    two-fragments (table c.args.partials.now c.args.memory.now) (table c.reassemble-begun.new.partials c.reassemble-begun.new.memory)
    (table c.reassemble-completed.new.partials c.reassemble-completed.new.memory) c.args.now c.args.later len key c.args.link.now c.args.link.now c.args.first.now c.args.second.now
    c.args.out.now c.reassemble-begun.new.out c.reassemble-completed.new.out c.reassemble-begun.result c.reassemble-completed.result c.reassemble-begun.ensures c.reassemble-completed.ensures
    (search rules)
