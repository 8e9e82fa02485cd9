use Rattle.std.proofs.Common.{◌≤◌}
use Rattle.std.proofs.lemmas.Bool.{leb-true, le-leb}
use Rattle.wire_addr.proofs.Cidrs.{IsWithin-prefix_len, address-IsWithin}
use Rattle.wire_addr.specs.IpAddress.{IsAddress, bits_of}
use Rattle.wire_addr.specs.IpCidr.{IsIn, block_address, block_prefix_len}
use Rattle.wire_addr.proofs.ip_cidr.IpCidr.contains_subnet.Goals as goal

pub returns-then-contains_addr : goal.returns-then-contains_addr
returns-then-contains_addr c =
    let inner = c.args.subnet.now in
    let outer = c.args.self.now in
    let member : IsIn outer (block_address inner) = rw (← c.address.ensures.value) (c.contains_addr.ensures.0 c.if-contains_addr.true) in
    let is : IsAddress (block_address inner) = rw (← c.address.ensures.value) c.address.ensures.octets in
    let bound : block_prefix_len outer ≤ bits_of (block_address outer) = rw (← c.prefix_len.ensures.value) c.prefix_len.ensures.within in
    rw (c.prefix_len.ensures.value, c.prefix_len-then-contains_addr.ensures.value)
    (λ t. address-IsWithin inner outer member (leb-true _ _ t), λ within. le-leb _ _ (IsWithin-prefix_len inner outer is bound within))
