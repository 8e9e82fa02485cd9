use Rattle.std.proofs.Common.{sym, subst}
use Rattle.ip_wire.specs.Prefix.{IsMasked}
use Rattle.promises.proofs.Blocks.{masked_in_block}
use Rattle.promises.proofs.calls.blocks.block_by_mask.Goals as goal

pub returns : goal.returns
returns c =
    let n = c.args.prefix_len in
    let a = c.args.a.now in
    let b = c.args.b.now in
    let first : IsMasked n a c.from_octets-first.result = subst (IsMasked n a) (sym c.from_octets-first.ensures) c.mask.ensures in
    let second : IsMasked n b c.from_octets-second.result = subst (IsMasked n b) (sym c.from_octets-second.ensures) c.mask-2.ensures in
    masked_in_block n a b c.from_octets-first.result c.from_octets-second.result c.new-block.result c.contains_addr.result c.new-block.ensures c.contains_addr.ensures first second c.one_masked_address.ensures
