use Rattle.std.proofs.Common.{◌≤◌}
use Rattle.std.proofs.lemmas.Bool.{leb-true, le-leb}
use Rattle.ip_wire.proofs.Cidrs.{IsWithin-address, IsWithin-prefix_len, address-IsWithin}
use Rattle.ip_wire.specs.IpAddress.{IsAddress, bits_of}
use Rattle.ip_wire.specs.IpCidr.{block_address, block_prefix_len}
use Rattle.promises.proofs.calls.blocks.subnet_by_prefix.Goals as goal

pub returns : goal.returns
returns c =
    let inner = c.args.subnet.now in
    let outer = c.args.block.now in
    let is : IsAddress (block_address inner) = rw (← c.address.ensures.value) c.address.ensures.octets in
    let bound : block_prefix_len outer ≤ bits_of (block_address outer) = rw (← c.prefix_len.ensures.value) c.prefix_len.ensures.within in
    rw (c.prefix_len.ensures.value, c.prefix_len-2.ensures.value) (
      λ t.
          let within = c.contains_subnet.ensures.0 t in
          (c.contains_addr.ensures.1 (rw c.address.ensures.value (IsWithin-address inner outer is within)), le-leb _ _ (IsWithin-prefix_len inner outer is bound within)),
      λ (member, longer). c.contains_subnet.ensures.1 (address-IsWithin inner outer (rw c.address.ensures.value at c.contains_addr.ensures.0 member) (leb-true _ _ longer)),
    )
