use Rattle.std.proofs.Common.{◌≡◌, ◌+◌, drop, true}
use Rattle.ip_wire.specs.Ip.{dst_addr_of, header_len_of, src_addr_of}
use Rattle.c_write.proofs.Framed.{after-headers}
use Rattle.c_write.specs.Headers.{header_bytes, segment_bytes, tcp_value}
use Rattle.c_write.proofs.packets.wrap_tcp.Goals as goal

pub returns : goal.returns
returns c =
    let f = c.args.fields.now in
    let v = c.args.ip_header.now in
    let u = tcp_value f.tcp c.args.options.now f.src.port f.dst.port in
    let old = c.args.out.now in
    let following : c.split_at_mut-header.result.1.now ≡ drop (header_len_of v) old = rw c.header_len.ensures at c.split_at_mut-header.ensures.back in
    after-headers (λ payload. segment_bytes f.tcp u payload (src_addr_of v) (dst_addr_of v) true) (header_bytes f.ip true v) old c.emit_ip_header.new.out _ c.wrap_segment.new.out
    (header_len_of v) c.args.header_len c.args.payload_len c.emit_ip_header.ensures following (rw (c.src_addr-src_addr.ensures, c.dst_addr-dst_addr.ensures) at c.wrap_segment.ensures)
