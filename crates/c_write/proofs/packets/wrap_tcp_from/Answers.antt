use Rattle.std.proofs.Common.{◌≡◌, ◌∙◌, ◌+◌, ◌<◌, ◌≤◌, None, Some, ap, false, length, nat_le, refl, rules, slice_range, subst, sym, arith}
use Rattle.std.proofs.lemmas.Bool.Decides.{nat_tests}
use Rattle.std.specs.Option.{option_and_then}
use Rattle.ip_wire.specs.Ip.{header_len_of}
use Rattle.ip_wire.specs.TcpRepr as tcp
use Rattle.c_write.proofs.Framed.{filled-front, ip_header-value, length-there, part-there, tcp-whole}
use Rattle.c_write.specs.Frames.{ip_header, part, tcp_packet, tcp_packet_around}
use Rattle.c_write.specs.Headers.{only_if, segment_header_len, tcp_value}
use Rattle.c_structs.specs.Written.{Fills}
use Rattle.c_write.proofs.packets.wrap_tcp_from.Goals as goal

pub wrap_tcp-requires-clause-expressible : goal.wrap_tcp-requires-clause-expressible
wrap_tcp-requires-clause-expressible c =
    (ip_header-value c.args.fields.now 6 _ c.in_ok-ip_header.ip_header (sym c.ip_header.ensures.value ∙ c.in_ok-ip_header.was)).0

pub returns : goal.returns
returns c =
    let f = c.args.fields.now in
    let o = c.args.options.now in
    let v = c.in_ok-ip_header.ip_header in
    let u = tcp_value f.tcp c.args.options.now f.src.port f.dst.port in
    let is : c.in_ok-header_len.header_len ≡ tcp.header_len_of u = c.in_ok-header_len.ensures.1 in
    let n = c.args.payload_len in
    let old = c.args.out.now in
    let start = header_len_of v + tcp.header_len_of u in
    let payload = slice_range old start (start + n) in
    let room : start + n ≤ length old = omega (arith, c.header_len.ensures, is, c.if-out-end.false) in
    let size : length payload ≡ n = length-there old start n room in
    let found : ip_header f 6 (tcp.header_len_of u + n) ≡ Some v = rw is at (sym c.ip_header.ensures.value ∙ c.in_ok-ip_header.was) in
    let len : segment_header_len f.tcp o n ≡ Some (tcp.header_len_of u) = (rw is at c.in_ok-header_len.ensures.0) in
    let framed = tcp-whole f o payload u v c.requires.src_port c.requires.dst_port (ap (λ k. segment_header_len f.tcp o k) size ∙ len) refl
    (ap (λ k. ip_header f 6 (tcp.header_len_of u + k)) size ∙ found) in
    let around = ap (λ q. option_and_then (λ len. option_and_then (λ v. option_and_then (tcp_packet f o) (part old (header_len_of v + len) n)) (ip_header f 6 (len + n))) q) len
    ∙ ap (λ q. option_and_then (λ v. option_and_then (tcp_packet f o) (part old (header_len_of v + tcp.header_len_of u) n)) q) found
    ∙ ap (λ q. option_and_then (tcp_packet f o) q) (part-there old start n room) ∙ framed in
    let same : length c.wrap_tcp.new.out ≡ length old = c.wrap_tcp.auto.out in
    rw (c.header_len.ensures, is)
    (filled-front (tcp_packet_around f o n old) _ old c.wrap_tcp.new.out (start + n) around room same (rw is at c.wrap_tcp.ensures))

pub returns-in_err-ip_header : goal.returns-in_err-ip_header
returns-in_err-ip_header c =
    let f = c.args.fields.now in
    let o = c.args.options.now in
    let u = tcp_value f.tcp c.args.options.now f.src.port f.dst.port in
    let is : c.in_ok-header_len.header_len ≡ tcp.header_len_of u = c.in_ok-header_len.ensures.1 in
    let n = c.args.payload_len in
    let old = c.args.out.now in
    let none : ip_header f 6 (tcp.header_len_of u + n) ≡ None = rw is at (sym c.ip_header.ensures.value ∙ c.in_err-ip_header.was) in
    let frame : tcp_packet_around f o n old ≡ None =
    ap (λ q. option_and_then (λ len. option_and_then (λ v. option_and_then (tcp_packet f o) (part old (header_len_of v + len) n)) (ip_header f 6 (len + n))) q) (rw is at c.in_ok-header_len.ensures.0)
    ∙ ap (λ q. option_and_then (λ v. option_and_then (tcp_packet f o) (part old (header_len_of v + tcp.header_len_of u) n)) q) none in
    let answer : c.from_residual-in_err-ip_header.result ≡ None = search rules in
    subst (λ q. Fills q old old c.from_residual-in_err-ip_header.result) (sym frame) (answer, refl)

pub returns-then-out-end : goal.returns-then-out-end
returns-then-out-end c =
    let f = c.args.fields.now in
    let o = c.args.options.now in
    let v = c.in_ok-ip_header.ip_header in
    let u = tcp_value f.tcp c.args.options.now f.src.port f.dst.port in
    let is : c.in_ok-header_len.header_len ≡ tcp.header_len_of u = c.in_ok-header_len.ensures.1 in
    let n = c.args.payload_len in
    let old = c.args.out.now in
    let start = header_len_of v + tcp.header_len_of u in
    let short : length old < start + n = omega (arith, c.header_len.ensures, is, c.if-out-end.true) in
    let absent : nat_le (start + n) (length old) ≡ false = grind (arith, nat_tests, short) in
    let found : ip_header f 6 (tcp.header_len_of u + n) ≡ Some v = rw is at (sym c.ip_header.ensures.value ∙ c.in_ok-ip_header.was) in
    let frame : tcp_packet_around f o n old ≡ None =
    ap (λ q. option_and_then (λ len. option_and_then (λ v. option_and_then (tcp_packet f o) (part old (header_len_of v + len) n)) (ip_header f 6 (len + n))) q) (rw is at c.in_ok-header_len.ensures.0)
    ∙ ap (λ q. option_and_then (λ v. option_and_then (tcp_packet f o) (part old (header_len_of v + tcp.header_len_of u) n)) q) found
    ∙ ap (λ b. option_and_then (tcp_packet f o) (only_if b (slice_range old start (start + n)))) absent in
    subst (λ q. Fills q old old None) (sym frame) (refl, refl)
