use Rattle.std.proofs.Common.{rules}
use Rattle.c_routing.proofs.Reassembling.{expires}
use Rattle.c_routing.proofs.Tables.{parts, stays-beyond}
use Rattle.c_routing.proofs.reassembly.expire_packet.Goals as goal

pub returns-clause-expires : goal.returns-clause-expires
returns-clause-expires c =
    expires c.args.partials.now c.expire.new.partials c.args.memory.now c.in_bounds.result.now c.args.out.now c.expire.new.out c.usable-count.result c.usable-cap.result c.args.now
    c.unwrap_or.result c.expire.result c.usable-count.ensures.value (search rules) c.usable-cap.ensures.value (search rules) c.in_bounds.ensures.value c.unwrap_or.ensures c.expire.ensures

pub returns-clause-partials_beyond : goal.returns-clause-partials_beyond
returns-clause-partials_beyond c = stays-beyond c.args.partials.now c.expire.new.partials _ c.usable-count.result
    (parts c.args.partials.now c.expire.new.partials c.usable-count.result c.usable-count.ensures.value (search rules))

pub returns-clause-out_beyond : goal.returns-clause-out_beyond
returns-clause-out_beyond c = stays-beyond c.args.out.now c.expire.new.out _ c.usable-cap.result
    (parts c.args.out.now c.expire.new.out c.usable-cap.result c.usable-cap.ensures.value (search rules))
