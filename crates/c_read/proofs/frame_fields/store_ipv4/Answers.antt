use Rattle.std.proofs.Common.{◌≡◌, ◌∙◌, Bool, Some, ap, true, false, refl, sym, arith}
use Rattle.ip_wire.specs.Field.{field}
use Rattle.ip_wire.specs.Frame.{ipv4_payload}
use Rattle.ip_wire.specs.Ipv4.{ipv4_of, is_fragment}
use Rattle.ip_wire.specs.Protocol.{protocol_of}
use Rattle.ip_wire.specs.Types.{IpProtocol}
use Rattle.ip_wire.specs.declared.EthernetProtocol.TheVariants as ethertype
use Rattle.ip_wire.specs.declared.IpAddress.TheVariants as address
use Rattle.c_structs.specs.Written.{flag}
use Rattle.c_read.proofs.StoredFrame.{with_carried-ipv4}
use Rattle.c_read.specs.FrameFields.{with_ipv4_header, with_transport_by}
use Rattle.c_read.proofs.frame_fields.store_ipv4.Goals as goal

not-flagged : (b : Bool) → flag b ≡ 0 → b ≡ false
not-flagged true e = absurd (omega (arith, e))
not-flagged false e = refl

pub returns-then-fields-eq0-clause-value : goal.returns-then-fields-eq0-clause-value
returns-then-fields-eq0-clause-value c =
    let f = c.args.fields.now in
    let bytes = c.args.bytes.now in
    let w = c.in-Ok.header in
    let read : ipv4_of false bytes ≡ Some w = rw (c.new_unchecked-packet.ensures, c.ignored.ensures) at c.in-Ok.ensures.value in
    let named : w.next_header ≡ protocol_of (field bytes 72 8) = rw c.new_unchecked-packet.ensures at ((c.in-Ok.ensures.reads w).0 refl).next_header in
    let next = with_ipv4_header f bytes w in
    let payload = ipv4_payload bytes in
    let inner : c.payload-payload.result.now ≡ payload = rw c.new_unchecked-packet.ensures at c.payload-payload.ensures in
    let header : c.store_ipv4_header.new.fields ≡ next = rw (c.new_unchecked-packet.ensures, inner) at c.store_ipv4_header.ensures in
    let whole : is_fragment bytes ≡ false = not-flagged (is_fragment bytes) (rw header at c.if-fields-eq0.true) in
    let made : c.store_transport.new.fields ≡ with_transport_by next (protocol_of (field bytes 72 8)) (address.Ipv4 w.src_addr) (address.Ipv4 w.dst_addr) payload =
    rw (header, inner) at c.store_transport.ensures.value
    in
    made ∙ ap (λ (p : IpProtocol). with_transport_by next p (address.Ipv4 w.src_addr) (address.Ipv4 w.dst_addr) payload) (sym named)
    ∙ sym (with_carried-ipv4 f ethertype.Ipv4 bytes w refl read whole)
