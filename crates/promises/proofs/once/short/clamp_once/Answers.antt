use Rattle.promises.proofs.ShortOnce.{clamp_returned, clamp_segment}
use Rattle.promises.proofs.once.short.clamp_once.Goals as goal

pub returns-clause-returned : goal.returns-clause-returned
returns-clause-returned c = clamp_returned c.args.segment.now c.args.other.now c.args.limit c.clamp.result c.clamp-2.result c.requires c.clamp.ensures.when c.clamp-2.ensures.when

pub returns-clause-segment : goal.returns-clause-segment
returns-clause-segment c = clamp_segment c.args.segment.now c.args.other.now c.clamp.new.segment c.clamp-2.new.segment c.args.limit c.clamp.result c.clamp-2.result c.requires c.clamp.ensures.when c.clamp-2.ensures.when
    c.clamp.ensures.bytes c.clamp-2.ensures.bytes
