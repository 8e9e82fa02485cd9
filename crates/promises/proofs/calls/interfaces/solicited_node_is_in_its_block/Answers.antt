use Rattle.std.proofs.Common.{sym, subst, arith, drop}
use Rattle.ip_wire.specs.Block.{IsIn}
use Rattle.ip_wire.specs.Class.{ipv6_solicited_node}
use Rattle.promises.proofs.Blocks.{agree_front}
use Rattle.promises.proofs.calls.interfaces.solicited_node_is_in_its_block.Goals as goal

pub returns : goal.returns
returns c = c.is_solicited_node_multicast.ensures.1
    (subst (IsIn ipv6_solicited_node) (sym c.solicited_node.ensures) (agree_front 13 ipv6_solicited_node.address (drop 13 c.args.address.now) (omega arith)))
