use Rattle.std.proofs.Common.{◌≡◌, ◌∙◌, ◌+◌, ◌≤◌, None, Some, length, refl, subst, sym, arith}
use Rattle.c_write.proofs.Filled.{placed}
use Rattle.c_write.proofs.Framed.{length-segment, tcp-segment}
use Rattle.c_structs.specs.Addresses.{pair_of}
use Rattle.c_write.specs.Headers.{segment_bytes, tcp_value}
use Rattle.c_structs.specs.Written.{Fills}
use Rattle.c_write.proofs.emit.emit_segment.Goals as goal

pub returns-then-out-len : goal.returns-then-out-len
returns-then-out-len c =
    let h = c.args.header.now in
    let o = c.args.options.now in
    let u = tcp_value h o c.args.src.now.port c.args.dst.now.port in
    let a = c.in_ok-src_addr.src_addr in
    let b = c.in_ok-src_addr.dst_addr in
    let payload = c.args.payload.now in
    let made = c.in_ok-header_len.ensures in
    let pair : pair_of c.args.src.now.addr c.args.dst.now.addr ≡ Some (a, b) = sym c.pair.ensures.value ∙ c.in_ok-src_addr.was in
    let bytes = tcp-segment h o c.args.src.now c.args.dst.now payload c.args.computed u a b c.requires.src_port c.requires.dst_port pair (rw made.1 at made.0) refl in
    let size = length-segment h u payload a b c.args.computed in
    subst (λ x. Fills x c.args.out.now c.args.out.now None) (sym bytes) (omega (arith, size, made.1, c.if-out-len.true), refl)

pub returns : goal.returns
returns c =
    let h = c.args.header.now in
    let o = c.args.options.now in
    let u = tcp_value h o c.args.src.now.port c.args.dst.now.port in
    let a = c.in_ok-src_addr.src_addr in
    let b = c.in_ok-src_addr.dst_addr in
    let payload = c.args.payload.now in
    let old = c.args.out.now in
    let header_len = c.in_ok-header_len.header_len in
    let len = header_len + length payload in
    let made = c.in_ok-header_len.ensures in
    let pair : pair_of c.args.src.now.addr c.args.dst.now.addr ≡ Some (a, b) = sym c.pair.ensures.value ∙ c.in_ok-src_addr.was in
    let bytes = tcp-segment h o c.args.src.now c.args.dst.now payload c.args.computed u a b c.requires.src_port c.requires.dst_port pair (rw made.1 at made.0) refl in
    let size = length-segment h u payload a b c.args.computed in
    let room : len ≤ length old = omega (arith, c.if-out-len.false) in
    let whole = placed (λ payload. segment_bytes h u payload a b c.args.computed) payload old c.write_at.new.bytes c.wrap_segment.new.out header_len room c.write_at.ensures c.wrap_segment.ensures in
    subst (λ x. Fills x old c.wrap_segment.new.out (Some len)) (sym bytes) (omega (arith, size, made.1), room, whole)
