use Rattle.std.proofs.Common.{rules}
use Rattle.app_fragment.proofs.Slots.{added}
use Rattle.app_fragment.proofs.partials.add.Goals as goal

pub returns : goal.returns
returns c =
    added c.args.now c.args.key.now c.args.link.now c.args.packet.now c.args.out.now c.insert.new.out c.insert.result c.args.partial.now c.prepare.new.partial c.insert.new.partial c.args.part.now
    c.split_at_mut-received.result.0.now c.split_at_mut-received.result.1.now c.prepare.new.received c.insert.new.received c.insert.new.buffer c.block_count-blocks.result
    c.block_count-blocks.ensures.value c.block_count-blocks.ensures.within c.split_at_mut-received.ensures.front c.split_at_mut-received.ensures.back (search rules) (search rules)
    c.prepare.ensures c.insert.ensures
