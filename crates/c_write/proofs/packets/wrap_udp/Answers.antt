use Rattle.std.proofs.Common.{◌≡◌, ◌+◌, drop, true}
use Rattle.ip_wire.specs.Ip.{dst_addr_of, header_len_of, src_addr_of}
use Rattle.ip_wire.specs.Udp.{bytes_of}
use Rattle.c_write.proofs.Framed.{after-headers}
use Rattle.c_write.specs.Headers.{header_bytes, ports_of}
use Rattle.c_write.proofs.packets.wrap_udp.Goals as goal

pub returns : goal.returns
returns c =
    let f = c.args.fields.now in
    let v = c.args.ip_header.now in
    let old = c.args.out.now in
    let following : c.split_at_mut-header.result.1.now ≡ drop (header_len_of v) old = rw c.header_len.ensures at c.split_at_mut-header.ensures.back in
    after-headers (λ payload. bytes_of (ports_of f.src f.dst) payload (src_addr_of v) (dst_addr_of v) true) (header_bytes f.ip true v) old c.emit_ip_header.new.out _ c.wrap.new.out
    (header_len_of v) 8 c.args.payload_len c.emit_ip_header.ensures following (rw (c.src_addr-src_addr.ensures, c.dst_addr-dst_addr.ensures) at c.wrap.ensures)
