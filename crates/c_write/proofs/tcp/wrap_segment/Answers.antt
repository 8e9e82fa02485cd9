use Rattle.std.proofs.Common.{◌≡◌, ◌∙◌, ◌+◌, ◌++◌, arith, drop, if◌then◌else◌, rules, slice_range, sym}
use Rattle.ip_wire.specs.Tcp.{with_checksum}
use Rattle.ip_wire.specs.TcpRepr.{option_bytes}
use Rattle.wire_tcp.proofs.TcpEmitted.{length-option_bytes}
use Rattle.c_write.proofs.TcpFronts.{following-here, front-written, options-there, rest-here, segment-parts}
use Rattle.c_write.specs.Headers.{front_bytes, options_value, segment_with_flags, tcp_value}
use Rattle.c_write.proofs.tcp.wrap_segment.Goals as goal

pub returns : goal.returns
returns c =
    let h = c.args.header.now in
    let o = c.args.options.now in
    let p = c.args.ports.0 in
    let q = c.args.ports.1 in
    let old = c.args.out.now in
    let n = c.args.payload_len in
    let size = c.args.header_len in
    let payload = slice_range old size (size + n) in
    let options = option_bytes (options_value o) in
    let o1 = c.emit_options.new.out in
    let long = length-option_bytes (options_value o) ∙ sym c.requires.value in
    let there = options-there old o1 options size (omega (arith, c.requires.room, long)) c.emit_options.ensures in
    let rest : slice_range o1 20 (size + n) ≡ options ++ payload = rest-here old o1 options size n long there in
    let made = rw rest at c.front-words.ensures in
    front-written (λ bytes. if c.args.computed then with_checksum c.args.src_addr c.args.dst_addr bytes else bytes) (front_bytes h p q size) _ (options ++ payload)
    (segment_with_flags h (tcp_value h o p q) payload) (drop (size + n) old) o1 c.write_front.new.out made
    (segment-parts h o p q size payload c.requires.value c.requires.most (search rules) (search rules))
    (following-here old o1 options size n there) c.write_front.ensures
