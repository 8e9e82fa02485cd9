use Rattle.std.proofs.Common.{◌∙◌, arith}
use Rattle.wire_tcp.specs.TcpRepr.{header_of}
use Rattle.wire_tcp.proofs.TcpEmitted.{options_after, written_len}
use Rattle.wire_tcp.proofs.tcp.repr.TcpRepr.emit_options.Goals as goal

pub emit_sack-acknowledged-requires : goal.emit_sack-acknowledged-requires
emit_sack-acknowledged-requires c =
    let all = written_len (header_of c.args.self.now) in
    let a = c.emit_segment_size-sized.ensures in
    let b = c.emit_window_scale-scaled.ensures in
    omega (arith, all, a.end, b.end, a.written.same_length, b.written.same_length, c.requires.room, c.requires.value)

pub emit_timestamp-stamped-requires : goal.emit_timestamp-stamped-requires
emit_timestamp-stamped-requires c =
    let all = written_len (header_of c.args.self.now) in
    let a = c.emit_segment_size-sized.ensures in
    let b = c.emit_window_scale-scaled.ensures in
    let s = c.emit_sack-acknowledged.ensures in
    omega (arith, all, a.end, b.end, s.end, a.written.same_length, b.written.same_length, s.written.same_length, c.requires.room, c.requires.value)

pub write_zeros-requires-clause-begins : goal.write_zeros-requires-clause-begins
write_zeros-requires-clause-begins c =
    let all = written_len (header_of c.args.self.now) in
    let a = c.emit_segment_size-sized.ensures in
    let b = c.emit_window_scale-scaled.ensures in
    let s = c.emit_sack-acknowledged.ensures in
    let t = c.emit_timestamp-stamped.ensures in
    omega (arith, all, a.end, b.end, s.end, t.end, c.requires.value)

pub returns : goal.returns
returns c =
    let all = written_len (header_of c.args.self.now) in
    let a = c.emit_segment_size-sized.ensures in
    let b = c.emit_window_scale-scaled.ensures in
    let s = c.emit_sack-acknowledged.ensures in
    let t = c.emit_timestamp-stamped.ensures in
    let z = c.write_zeros.ensures in
    record {
      same_borrow = z.same_borrow ∙ t.written.same_borrow ∙ s.written.same_borrow ∙ b.written.same_borrow ∙ a.written.same_borrow;
      same_length = z.same_length ∙ t.written.same_length ∙ s.written.same_length ∙ b.written.same_length ∙ a.written.same_length;
      holds = options_after (header_of c.args.self.now) c.args.packet.now.buffer.now _ _ _ _ _ _ _ _ _ c.args.header_len c.requires.value (omega (arith, c.requires.room, c.requires.value, all))
          a.end a.written.holds b.end b.written.holds s.end s.written.holds t.end t.written.holds z.holds;
    }
