use Rattle.wire_addr.proofs.One.{one_scope}
use Rattle.wire_addr.proofs.laws.one_scope.Goals as goal

pub returns : goal.returns
returns c =
    one_scope c.args.address c.args.a c.args.b _ _ _ _ c.is_multicast-multicast.ensures c.is_link_local-link_local.ensures c.is_unique_local-unique_local.ensures c.is_global_unicast-global.ensures
