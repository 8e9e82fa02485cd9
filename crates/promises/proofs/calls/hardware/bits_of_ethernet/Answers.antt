use Rattle.std.proofs.Common.{[], ◌∷◌, slice_index_or}
use Rattle.promises.proofs.Agree.{lowest_bit, second_bit}
use Rattle.promises.proofs.calls.hardware.bits_of_ethernet.Goals as goal

pub returns : goal.returns
returns c =
    let first = slice_index_or c.args.address.0 0 0 in
    let group = lowest_bit first c.is_multicast.result c.is_multicast.ensures in
    let local = second_bit first c.is_local.result c.is_local.ensures in
    λ i. group i ∷ local i ∷ []
