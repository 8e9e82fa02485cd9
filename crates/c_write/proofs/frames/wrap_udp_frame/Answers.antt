use Rattle.std.proofs.Common.{◌≡◌, ◌≤◌, drop, length, refl, rules}
use Rattle.c_write.proofs.Framed.{framed-some}
use Rattle.c_write.specs.Frames.{udp_packet_around}
use Rattle.c_write.proofs.frames.wrap_udp_frame.Goals as goal

pub returns : goal.returns
returns c =
    let f = c.args.fields.now in
    let old = c.args.out.now in
    let rest : c.in_ok-out.packet.now ≡ drop 14 old = search rules in
    let room : 14 ≤ length old = search rules in
    let size : length c.emit_link.new.out ≡ 14 = search rules in
    rw c.emit_link.ensures.len (framed-some f (udp_packet_around f c.args.payload_len (drop 14 old)) old (drop 14 old) c.wrap_udp_packet.new.out c.emit_link.new.out c.in_ok-len.len c.emit_link.ensures.header
    size room refl (rw (rest, c.in_ok-len.was) at c.wrap_udp_packet.ensures))
