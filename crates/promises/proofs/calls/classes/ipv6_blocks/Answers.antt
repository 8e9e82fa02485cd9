use Rattle.std.proofs.Common.{[], ◌∷◌, ◌∙◌, List, ℕ, ap}
use Rattle.ip_wire.specs.Block.{Block}
use Rattle.ip_wire.specs.Class.{ipv6_multicast, ipv6_unique_local}
use Rattle.promises.proofs.Agree.{same_block}
use Rattle.promises.proofs.calls.classes.ipv6_blocks.Goals as goal

abbrev at : ℕ → List ℕ → Block
at n octets = record { address = octets; prefix_len = n }

pub returns : goal.returns
returns c =
    let address = c.args.address.now in
    let multicast = same_block ipv6_multicast c.new-multicast.result address c.is_multicast.result c.contains_addr.result (c.new-multicast.ensures ∙ ap (at 8) c.new.ensures) c.is_multicast.ensures c.contains_addr.ensures in
    let unique_local = same_block ipv6_unique_local c.new-unique_local.result address c.is_unique_local.result c.contains_addr-2.result (c.new-unique_local.ensures ∙ ap (at 7) c.new-2.ensures) c.is_unique_local.ensures c.contains_addr-2.ensures in
    λ i. multicast i ∷ unique_local i ∷ []
