use Rattle.std.proofs.Common.{◌≡◌, ◌∙◌, ◌+◌, ◌≤◌, Some, arith, length, subst, sym, true}
use Rattle.c_write.specs.Frames.{ip_header}
use Rattle.c_icmp.proofs.Packets.{packet-filled, length-icmp}
use Rattle.c_icmp.specs.Frames.{protocol_number}
use Rattle.c_icmp.specs.Messages.{icmp_bytes}
use Rattle.c_icmp.proofs.emit.emit_icmp_packet.Goals as goal

pub returns-in-Some : goal.returns-in-Some
returns-in-Some c =
    let f = c.args.headers.now in
    let payload = c.args.payload.now in
    let old = c.args.out.now in
    let start = c.header_len-start.result in
    let version = f.src.addr.version in
    let packet = icmp_bytes f.icmp f.src.addr f.dst.addr payload true in
    let found : ip_header f (protocol_number version) (8 + length payload) ≡ Some c.in_ok-ip_header.ip_header =
    subst (λ n. ip_header f n (8 + length payload) ≡ Some c.in_ok-ip_header.ip_header) c.protocol_number.ensures (sym c.ip_header.ensures.value ∙ c.in_ok-ip_header.was) in
    let room : start ≤ length old = omega (arith, c.if-out-end.false) in
    packet-filled f (protocol_number version) (8 + length payload) packet c.in_ok-ip_header.ip_header old c.emit_ip_header.new.out _ c.emit_icmp.new.out start c.in-Some.field-0 c.emit_icmp.result
    found (λ bytes is. length-icmp f.icmp f.src.addr f.dst.addr payload bytes true is) c.emit_ip_header.ensures (c.emit_ip_header.auto.out ∙ c.split_at_mut-front.ensures.front_len) c.split_at_mut-front.ensures.back room
    c.emit_icmp.ensures c.in-Some.is
