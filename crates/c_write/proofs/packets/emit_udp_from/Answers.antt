use Rattle.std.proofs.Common.{◌≡◌, ◌∙◌, ◌+◌, ◌≤◌, Some, length, sym, arith}
use Rattle.ip_wire.specs.Ip.{header_len_of}
use Rattle.c_write.proofs.Framed.{filled-front, udp-whole}
use Rattle.c_write.specs.Frames.{ip_header, udp_packet}
use Rattle.c_write.proofs.packets.emit_udp_from.Goals as goal

pub returns : goal.returns
returns c =
    let f = c.args.fields.now in
    let v = c.in_ok-ip_header.ip_header in
    let payload = c.args.payload.now in
    let old = c.args.out.now in
    let start = header_len_of v + 8 in
    let fits : length payload ≤ 65527 = omega (arith, c.if-payload-gt-UDP_MAX_PAYLOAD_LEN.false) in
    let found : ip_header f 17 (8 + length payload) ≡ Some v = sym c.ip_header.ensures.value ∙ c.in_ok-ip_header.was in
    let room : start + length payload ≤ length old = omega (arith, c.header_len-start.ensures, c.if-out-end.false) in
    let same : length c.write_udp.new.out ≡ length old = c.write_udp.auto.out in
    rw c.header_len-start.ensures (filled-front (udp_packet f payload) _ old c.write_udp.new.out (start + length payload) (udp-whole f payload v c.requires.dst_port fits found) room same c.write_udp.ensures)
