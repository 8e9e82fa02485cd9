use Rattle.std.proofs.Common.{◌≡◌, ◌∙◌, Some, false, true, refl, sym}
use Rattle.ip_wire.specs.Field.{field}
use Rattle.ip_wire.specs.Ipv6.{ipv6_of, payload_of}
use Rattle.ip_wire.specs.Protocol.{protocol_of}
use Rattle.ip_wire.specs.declared.EthernetProtocol.TheVariants as ethertype
use Rattle.ip_wire.specs.declared.IpAddress.TheVariants as address
use Rattle.c_read.proofs.StoredChain.{extended-none}
use Rattle.c_read.proofs.StoredFrame.{with_carried-ipv6}
use Rattle.c_read.proofs.Transports.{other-kept, transport-plain}
use Rattle.c_read.specs.FrameFields.{is_ipv6_transport, with_ipv6_header, with_transport_by}
use Rattle.wire_extensions.specs.Extension.{is_extension}
use Rattle.c_read.proofs.frame_fields.store_ipv6.Goals as goal

pub returns-then-is_ipv6_transport-clause-value : goal.returns-then-is_ipv6_transport-clause-value
returns-then-is_ipv6_transport-clause-value c =
    let f = c.args.fields.now in
    let bytes = c.args.bytes.now in
    let w = c.in-Ok.header in
    let read : ipv6_of bytes ≡ Some w = rw c.new_unchecked-packet.ensures at c.in-Ok.ensures.value in
    let next = with_ipv6_header f bytes w in
    let payload = payload_of bytes in
    let inner : c.payload-payload.result.now ≡ payload = rw c.new_unchecked-packet.ensures at c.payload-payload.ensures in
    let header : c.store_ipv6_header.new.fields ≡ next = rw (c.new_unchecked-packet.ensures, inner) at c.store_ipv6_header.ensures in
    let usual : is_ipv6_transport (field bytes 48 8) ≡ true = rw header at (sym c.if-is_ipv6_transport.ensures) in
    let made : c.store_transport.new.fields ≡ with_transport_by next (protocol_of (field bytes 48 8)) (address.Ipv6 w.src_addr) (address.Ipv6 w.dst_addr) payload =
    rw (header, inner) at c.store_transport.ensures.value
    in
    made ∙ sym (extended-none next (address.Ipv6 w.src_addr) (address.Ipv6 w.dst_addr) payload (transport-plain (field bytes 48 8) usual))
    ∙ sym (with_carried-ipv6 f ethertype.Ipv6 bytes w refl read)

pub returns-else-begins_chain-clause-value : goal.returns-else-begins_chain-clause-value
returns-else-begins_chain-clause-value c =
    let f = c.args.fields.now in
    let bytes = c.args.bytes.now in
    let w = c.in-Ok.header in
    let read : ipv6_of bytes ≡ Some w = rw c.new_unchecked-packet.ensures at c.in-Ok.ensures.value in
    let next = with_ipv6_header f bytes w in
    let payload = payload_of bytes in
    let inner : c.payload-payload.result.now ≡ payload = rw c.new_unchecked-packet.ensures at c.payload-payload.ensures in
    let header : c.store_ipv6_header.new.fields ≡ next = rw (c.new_unchecked-packet.ensures, inner) at c.store_ipv6_header.ensures in
    let unusual : is_ipv6_transport (field bytes 48 8) ≡ false = rw header at (sym c.if-is_ipv6_transport.ensures) in
    let plain : is_extension (field bytes 48 8) ≡ false = rw header at (sym c.if-begins_chain.ensures) in
    header ∙ sym (other-kept next (field bytes 48 8) w.src_addr w.dst_addr payload unusual)
    ∙ sym (extended-none next (address.Ipv6 w.src_addr) (address.Ipv6 w.dst_addr) payload plain) ∙ sym (with_carried-ipv6 f ethertype.Ipv6 bytes w refl read)
