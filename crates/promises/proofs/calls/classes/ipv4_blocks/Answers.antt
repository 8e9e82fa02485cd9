use Rattle.std.proofs.Common.{[], ◌∷◌, ◌∙◌, List, ℕ, ap}
use Rattle.ip_wire.specs.Block.{Block}
use Rattle.ip_wire.specs.Class.{ipv4_link_local, ipv4_loopback, ipv4_multicast}
use Rattle.promises.proofs.Agree.{same_block}
use Rattle.promises.proofs.calls.classes.ipv4_blocks.Goals as goal

abbrev at : ℕ → List ℕ → Block
at n octets = record { address = octets; prefix_len = n }

pub returns : goal.returns
returns c =
    let address = c.args.address.now in
    let multicast = same_block ipv4_multicast c.new-multicast.result address c.is_multicast.result c.contains_addr.result (c.new-multicast.ensures ∙ ap (at 4) c.new.ensures) c.is_multicast.ensures c.contains_addr.ensures in
    let loopback = same_block ipv4_loopback c.new-loopback.result address c.is_loopback.result c.contains_addr-2.result (c.new-loopback.ensures ∙ ap (at 8) c.new-2.ensures) c.is_loopback.ensures c.contains_addr-2.ensures in
    let link_local = same_block ipv4_link_local c.new-link_local.result address c.is_link_local.result c.contains_addr-3.result (c.new-link_local.ensures ∙ ap (at 16) c.new-3.ensures) c.is_link_local.ensures c.contains_addr-3.ensures in
    λ i. multicast i ∷ loopback i ∷ link_local i ∷ []
