use Rattle.std.proofs.Common.{◌≡◌, ◌∙◌, ◌+◌, ◌≤◌, ◌&&◌, ◌++◌, Some, ap, arith, drop, length, refl, rules, subst, sym, true}
use Rattle.std.proofs.lemmas.Grind.{common_steps}
use Rattle.std.specs.Option.{option_and_then}
use Rattle.ip_wire.specs.Checksum.{computes}
use Rattle.wire_icmp.specs.Ndisc.{bytes_of}
use Rattle.c_write.proofs.Framed.{same-Some}
use Rattle.c_write.specs.Frames.{ip_header, ip_packet}
use Rattle.c_write.specs.Headers.{header_bytes, only_if}
use Rattle.c_structs.specs.Written.{Fills}
use Rattle.c_structs.specs.declared.types.FrameFields.{FrameFields}
use Rattle.c_icmp.proofs.Packets.{packet-filled}
use Rattle.c_icmp.specs.Neighbours.{has_ipv6, is_accepted, ndisc_ip, ndisc_value}
use Rattle.c_icmp.proofs.neighbours.emit_ndisc_packet.Goals as goal

pub returns-in-Some : goal.returns-in-Some
returns-in-Some c =
    let f = c.args.frame.now in
    let n = c.args.ndisc.now in
    let g : FrameFields = record f { ip = ndisc_ip } in
    let old = c.args.out.now in
    let start = c.header_len-start.result in
    let rest = c.split_at_mut-front.result.1.now in
    let m = c.in-Some.field-0 in
    let bytes = bytes_of (ndisc_value n) f.src.addr.octets f.dst.addr.octets true in
    let (count, fits, holds) = c.in-Some.ensures in
    let caps : computes c.default.result.icmpv6 ≡ true = search rules in
    let written : c.try_emit.new.out ≡ bytes ++ drop m rest = rw (c.value-value.ensures, caps, c.ipv6-src.ensures, c.ipv6-dst.ensures) at holds in
    let same : length c.try_emit.new.out ≡ length rest = c.try_emit.auto.out in
    let size : length bytes ≡ m = grind (arith, common_steps, fits, same, written) in
    let total : c.buffer_len-len.result ≡ m = c.buffer_len-len.ensures ∙ sym count in
    let found : ip_header g 58 c.buffer_len-len.result ≡ Some c.in_ok-ip_header.ip_header =
    rw c.ndisc_ip-headers.ensures at (sym c.ip_header.ensures.value ∙ c.in_ok-ip_header.was) in
    let front : c.emit_ip_header.new.out ≡ header_bytes ndisc_ip true c.in_ok-ip_header.ip_header = rw c.ndisc_ip-headers.ensures at c.emit_ip_header.ensures in
    let room : start ≤ length old = omega (arith, c.if-out-end.false) in
    let test : has_ipv6 f n && is_accepted f n ≡ true = search rules in
    let filled = packet-filled g 58 c.buffer_len-len.result (Some bytes) c.in_ok-ip_header.ip_header old c.emit_ip_header.new.out rest c.try_emit.new.out start m (Some m) found
    (λ b is. ap length (sym (same-Some bytes b is)) ∙ size ∙ sym total) front (c.emit_ip_header.auto.out ∙ c.split_at_mut-front.ensures.front_len) c.split_at_mut-front.ensures.back room
    (sym size, fits, written) refl in
    subst (λ b. Fills (option_and_then (ip_packet g 58) (only_if b bytes)) old (c.emit_ip_header.new.out ++ c.try_emit.new.out) (Some (start + c.buffer_len-len.result))) (sym test) filled
