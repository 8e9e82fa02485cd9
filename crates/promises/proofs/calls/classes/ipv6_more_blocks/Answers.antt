use Rattle.std.proofs.Common.{[], ◌∷◌, ◌∙◌, List, ℕ, ap}
use Rattle.ip_wire.specs.Block.{Block}
use Rattle.ip_wire.specs.Class.{ipv6_global_unicast, ipv6_link_local, ipv6_solicited_node}
use Rattle.promises.proofs.Agree.{same_block}
use Rattle.promises.proofs.calls.classes.ipv6_more_blocks.Goals as goal

abbrev at : ℕ → List ℕ → Block
at n octets = record { address = octets; prefix_len = n }

pub returns : goal.returns
returns c =
    let address = c.args.address.now in
    let link_local = same_block ipv6_link_local c.new-link_local.result address c.is_link_local.result c.contains_addr.result (c.new-link_local.ensures ∙ ap (at 64) c.new.ensures) c.is_link_local.ensures c.contains_addr.ensures in
    let global = same_block ipv6_global_unicast c.new-global_unicast.result address c.is_global_unicast.result c.contains_addr-2.result (c.new-global_unicast.ensures ∙ ap (at 3) c.new-2.ensures) c.is_global_unicast.ensures c.contains_addr-2.ensures in
    let solicited = same_block ipv6_solicited_node c.new-solicited_node.result address c.is_solicited_node_multicast.result c.contains_addr-3.result (c.new-solicited_node.ensures ∙ ap (at 104) c.new-3.ensures) c.is_solicited_node_multicast.ensures c.contains_addr-3.ensures in
    λ i. link_local i ∷ global i ∷ solicited i ∷ []
