use Rattle.std.proofs.Common.{◌≡◌, arith, append-nil, drop, length-drop, refl, take}
use Rattle.std.proofs.lemmas.List.{take_all}
use Rattle.wire_addr.proofs.ipv6_address.Ipv6Address.solicited_node.Goals as goal

pub returns : goal.returns
returns c =
    let address = c.self.inside.0 in
    let last : take 3 (drop 13 address) ≡ drop 13 address = take_all 3 (drop 13 address) (omega (arith, length-drop 13 address, c.self.told)) in
    rw (← c.self.view_is, c.from_octets.ensures, c.octets-octets.ensures, c.address.ensures.value, c.copy_from_slice.ensures.after, append-nil (take 3 (drop 13 address)), last) refl
