use Rattle.promises.proofs.Blocks.{no_block}
use Rattle.promises.proofs.calls.blocks.netmask_then_block.Goals as goal

pub returns-clause-none : goal.returns-clause-none
returns-clause-none c = λ none. no_block c.from_netmask.result c.args.block.now.prefix_len c.address.result c.netmask.result none c.netmask.ensures c.from_netmask.ensures
