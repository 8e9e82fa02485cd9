use Rattle.std.proofs.Common.{[], ◌≡◌, ◌++◌, ◌∙◌, refl, sym, ap, ap₂, rules, subst}
use Rattle.ip_wire.proofs.Back.{back-packet, dst_addr-with, src_addr-with}
use Rattle.ip_wire.specs.Frame.{ReadsFrame, datagram, message, other, segment}
use Rattle.ip_wire.specs.FrameValue.{carried_bytes, normal_carried_of, transport_len}
use Rattle.ip_wire.specs.declared.frame.carried.Carried.TheVariants as carried
use Rattle.ip_wire.specs.declared.frame.transport.Transport.TheVariants as transport
use Rattle.net_base.specs.Checksum.{computes}
use Rattle.wire_arp.specs.Arp as arp
use Rattle.wire_ethernet.specs.Ethernet as ethernet
use Rattle.wire_ip.specs.Ip.{with_payload_len}
use Rattle.wire_tcp.specs.TcpRepr as tcp
use Rattle.wire_udp.specs.Udp as udp
use Rattle.ip_wire.proofs.laws.back.frame_composes.Goals as goal

pub returns-in-Arp : goal.returns-in-Arp
returns-in-Arp c =
    let header = c.args.header in
    let v = c.in-Arp.value in
    let written : ethernet.bytes_of header ++ arp.bytes_of v ++ c.args.padding.now ≡ ethernet.bytes_of header ++ carried_bytes c.args.sent c.args.carried.now ++ c.args.padding.now =
    ap (λ x. ethernet.bytes_of header ++ carried_bytes c.args.sent x ++ c.args.padding.now) (sym c.in-Arp.is)
    in (
      message (arp.normal v),
      ap normal_carried_of c.in-Arp.is,
      subst (λ bytes. ReadsFrame c.args.received bytes (ethernet.normal header) (message (arp.normal v))) written c.frame_composes_arp.ensures,
    )

pub returns-in-Udp : goal.returns-in-Udp
returns-in-Udp c =
    let v = c.in-Packet.packet in
    let u = c.in-Udp.value in
    let payload = c.in-Udp.payload in
    let w = c.set_payload_len.new.self in
    let n = transport_len (transport.Udp u payload) in
    let filled : w ≡ with_payload_len v n = search rules in
    let bytes = ap₂ (λ src dst. udp.bytes_of u payload.now src dst (computes c.args.sent.udp)) (src_addr-with v w n filled) (dst_addr-with v w n filled) in
    back-packet c.args.sent c.args.received c.args.header c.args.carried.now v (transport.Udp u payload) w (datagram u payload.now) _ c.args.padding.now
    (c.in-Packet.is ∙ ap (carried.Packet v) c.in-Udp.is) filled refl bytes c.frame_composes_udp.ensures

pub returns-in-Tcp : goal.returns-in-Tcp
returns-in-Tcp c =
    let v = c.in-Packet.packet in
    let u = c.in-Tcp.value in
    let w = c.set_payload_len-in-Tcp.new.self in
    let n = transport_len (transport.Tcp u) in
    let filled : w ≡ with_payload_len v n = search rules in
    let bytes = ap₂ (λ src dst. tcp.bytes_of (tcp.header_of u) u.payload.now src dst (computes c.args.sent.tcp) []) (src_addr-with v w n filled) (dst_addr-with v w n filled) in
    back-packet c.args.sent c.args.received c.args.header c.args.carried.now v (transport.Tcp u) w (segment (tcp.normal (tcp.header_of u)) u.payload.now) _ c.args.padding.now
    (c.in-Packet.is ∙ ap (carried.Packet v) c.in-Tcp.is) filled refl bytes c.frame_composes_tcp.ensures

pub returns-in-Other : goal.returns-in-Other
returns-in-Other c =
    let v = c.in-Packet.packet in
    let payload = c.in-Other.payload in
    let w = c.set_payload_len-in-Other.new.self in
    let n = transport_len (transport.Other payload) in
    let filled : w ≡ with_payload_len v n = search rules in
    back-packet c.args.sent c.args.received c.args.header c.args.carried.now v (transport.Other payload) w (other payload.now) _ c.args.padding.now
    (c.in-Packet.is ∙ ap (carried.Packet v) c.in-Other.is) filled refl refl c.frame_composes_other.ensures
