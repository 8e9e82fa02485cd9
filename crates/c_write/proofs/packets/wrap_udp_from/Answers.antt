use Rattle.std.proofs.Common.{◌≡◌, ◌∙◌, ◌+◌, ◌≤◌, Some, ap, length, slice_range, sym, arith}
use Rattle.std.specs.Option.{option_and_then}
use Rattle.ip_wire.specs.Ip.{header_len_of}
use Rattle.c_write.proofs.Framed.{filled-front, length-there, part-there, udp-whole}
use Rattle.c_write.specs.Frames.{ip_header, part, udp_packet, udp_packet_around}
use Rattle.c_write.proofs.packets.wrap_udp_from.Goals as goal

pub returns : goal.returns
returns c =
    let f = c.args.fields.now in
    let v = c.in_ok-ip_header.ip_header in
    let n = c.args.payload_len in
    let old = c.args.out.now in
    let start = header_len_of v + 8 in
    let payload = slice_range old start (start + n) in
    let room : start + n ≤ length old = omega (arith, c.header_len.ensures, c.if-out-end.false) in
    let size : length payload ≡ n = length-there old start n room in
    let fits : length payload ≤ 65527 = omega (arith, size, c.if-payload_len-gt-UDP_MAX_PAYLOAD_LEN.false) in
    let found : ip_header f 17 (8 + n) ≡ Some v = sym c.ip_header.ensures.value ∙ c.in_ok-ip_header.was in
    let framed = udp-whole f payload v c.requires.dst_port fits (ap (λ k. ip_header f 17 (8 + k)) size ∙ found) in
    let around = ap (λ q. option_and_then (λ v. option_and_then (udp_packet f) (part old (header_len_of v + 8) n)) q) found
    ∙ ap (λ q. option_and_then (udp_packet f) q) (part-there old start n room) ∙ framed in
    let same : length c.wrap_udp.new.out ≡ length old = c.wrap_udp.auto.out in
    rw c.header_len.ensures (filled-front (udp_packet_around f n old) _ old c.wrap_udp.new.out (start + n) around room same c.wrap_udp.ensures)
