use Rattle.std.proofs.Common.{◌∙◌, ◌++◌, append-nil, subst, sym}
use Rattle.ip_wire.specs.Ethernet as ethernet
use Rattle.ip_wire.specs.Frame.{ReadsFrame, datagram, packet}
use Rattle.ip_wire.specs.Ip as ip
use Rattle.ip_wire.specs.Udp as udp
use Rattle.ip_wire.specs.Checksum.{computes}
use Rattle.promises.proofs.views.emit_then_parse_udp_frame.Goals as goal

pub returns : goal.returns
returns c =
    let v = c.args.inner.now in
    let sent = c.args.sent.now in
    let header = ethernet.normal c.args.header.now in
    let payload = c.args.payload.now in
    let carried = packet (ip.normal v) (datagram c.args.value.now payload) in
    let bytes = udp.bytes_of c.args.value.now payload (ip.src_addr_of v) (ip.dst_addr_of v) (computes sent.udp) in
    let inner = ip.bytes_of v (computes sent.ipv4) ++ bytes in
    let link = ethernet.bytes_of c.args.header.now in
    let whole = append-nil (link ++ inner) ∙ sym c.emit_udp_frame.ensures in
    (c.parse.ensures.reads header carried).1 (subst (λ bytes. ReadsFrame c.args.received.now bytes header carried) whole c.frame_composes_udp.ensures)
