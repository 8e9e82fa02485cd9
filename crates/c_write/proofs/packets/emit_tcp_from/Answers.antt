use Rattle.std.proofs.Common.{◌≡◌, ◌∙◌, ◌+◌, ◌&&◌, ◌<◌, ◌≤◌, ◌++◌, None, Some, length, length-append, refl, rules, subst, sym, true, arith}
use Rattle.ip_wire.specs.Ip.{dst_addr_of, header_len_of, src_addr_of}
use Rattle.ip_wire.specs.TcpRepr as tcp
use Rattle.c_write.proofs.Filled.{placed}
use Rattle.c_write.proofs.Framed.{filled-front, ip_header-value, length-segment, tcp-whole, tcp-unwritten}
use Rattle.c_write.specs.Frames.{ip_header, tcp_packet}
use Rattle.c_write.specs.Headers.{ends_of, has_port, header_bytes, segment_bytes, tcp_value}
use Rattle.c_structs.specs.Written.{Fills}
use Rattle.c_write.proofs.packets.emit_tcp_from.Goals as goal

pub wrap_tcp-requires-clause-expressible : goal.wrap_tcp-requires-clause-expressible
wrap_tcp-requires-clause-expressible c =
    (ip_header-value c.args.fields.now 6 _ c.in_ok-ip_header.ip_header (sym c.ip_header.ensures.value ∙ c.in_ok-ip_header.was)).0

pub returns : goal.returns
returns c =
    let f = c.args.fields.now in
    let v = c.in_ok-ip_header.ip_header in
    let u = tcp_value f.tcp c.args.options.now f.src.port f.dst.port in
    let is : c.in_ok-header_len.header_len ≡ tcp.header_len_of u = c.in_ok-header_len.ensures.1 in
    let payload = c.args.payload.now in
    let old = c.args.out.now in
    let start = header_len_of v + tcp.header_len_of u in
    let found : ip_header f 6 (tcp.header_len_of u + length payload) ≡ Some v = rw is at (sym c.ip_header.ensures.value ∙ c.in_ok-ip_header.was) in
    let room : start + length payload ≤ length old = omega (arith, c.header_len.ensures, is, c.if-out-end.false) in
    let full = rw (c.header_len.ensures, is) at c.write_at.ensures in
    let whole = placed (λ payload. header_bytes f.ip true v ++ segment_bytes f.tcp u payload (src_addr_of v) (dst_addr_of v) true) payload old
    c.write_at.new.bytes c.wrap_tcp.new.out start room full (rw is at c.wrap_tcp.ensures) in
    let same : length c.wrap_tcp.new.out ≡ length old = omega (arith, c.wrap_tcp.auto.out, c.write_at.auto.bytes) in
    rw (c.header_len.ensures, is)
    (filled-front (tcp_packet f c.args.options.now payload) _ old c.wrap_tcp.new.out (start + length payload)
    (tcp-whole f c.args.options.now payload u v c.requires.src_port c.requires.dst_port (rw is at c.in_ok-header_len.ensures.0) refl found) room same whole)

pub returns-in_err-ip_header : goal.returns-in_err-ip_header
returns-in_err-ip_header c =
    let f = c.args.fields.now in
    let o = c.args.options.now in
    let u = tcp_value f.tcp c.args.options.now f.src.port f.dst.port in
    let is : c.in_ok-header_len.header_len ≡ tcp.header_len_of u = c.in_ok-header_len.ensures.1 in
    let payload = c.args.payload.now in
    let none : ip_header f 6 (tcp.header_len_of u + length payload) ≡ None = rw is at (sym c.ip_header.ensures.value ∙ c.in_err-ip_header.was) in
    let frame : tcp_packet f o payload ≡ None = tcp-unwritten f o payload u (ends_of (has_port f.src && has_port f.dst) f.src f.dst) (rw is at c.in_ok-header_len.ensures.0) refl none in
    let answer : c.from_residual-in_err-ip_header.result ≡ None = search rules in
    subst (λ q. Fills q c.args.out.now c.args.out.now c.from_residual-in_err-ip_header.result) (sym frame) (answer, refl)

pub returns-then-out-end : goal.returns-then-out-end
returns-then-out-end c =
    let f = c.args.fields.now in
    let v = c.in_ok-ip_header.ip_header in
    let u = tcp_value f.tcp c.args.options.now f.src.port f.dst.port in
    let is : c.in_ok-header_len.header_len ≡ tcp.header_len_of u = c.in_ok-header_len.ensures.1 in
    let payload = c.args.payload.now in
    let old = c.args.out.now in
    let segment = segment_bytes f.tcp u payload (src_addr_of v) (dst_addr_of v) true in
    let found : ip_header f 6 (tcp.header_len_of u + length payload) ≡ Some v = rw is at (sym c.ip_header.ensures.value ∙ c.in_ok-ip_header.was) in
    let size = length-segment f.tcp u payload (src_addr_of v) (dst_addr_of v) true in
    let whole = length-append (header_bytes f.ip true v) segment in
    let short : length old < length (header_bytes f.ip true v ++ segment) = omega (arith, whole, size, c.header_len.ensures, c.in_ok-ip_header.ensures.len, is, c.if-out-end.true) in
    let frame = tcp-whole f c.args.options.now payload u v c.requires.src_port c.requires.dst_port (rw is at c.in_ok-header_len.ensures.0) refl found in
    subst (λ q. Fills q old old None) (sym frame) (short, refl)
