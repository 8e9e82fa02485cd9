use Rattle.std.proofs.Common.{◌≡◌, subst}
use Rattle.wire_addr.specs.IpAddress.{version_of}
use Rattle.wire_udp.specs.UdpFields.{address_after, address_before}
use Rattle.wire_udp.specs.declared.laws.UdpUpdate.{UdpUpdate}
use Rattle.wire_udp.proofs.laws.update_writes_two_fields_udp.Goals as goal

pub update_address-requires-clause-family : goal.update_address-requires-clause-family
update_address-requires-clause-family c =
    let address = c.in-Address.old in
    subst (λ (u : UdpUpdate). version_of (address_before u address) ≡ version_of (address_after u address)) c.in-Address.is (c.requires.family address)
