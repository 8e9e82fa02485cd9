use Rattle.std.proofs.Common.{arith}
use Rattle.wire_tcp.proofs.TcpEmitted.{options_after, written_len}
use Rattle.c_write.specs.Headers.{options_value}
use Rattle.c_write.proofs.tcp_bytes.emit_options.Goals as goal

pub emit_sack-acknowledged-requires-clause-room : goal.emit_sack-acknowledged-requires-clause-room
emit_sack-acknowledged-requires-clause-room c =
    let all = written_len (options_value c.args.options.now) in
    let a = c.emit_segment_size-sized in
    let b = c.emit_window_scale-scaled in
    omega (arith, all, a.ensures.end, b.ensures.end, a.auto.out, b.auto.out, c.requires.room, c.requires.value)

pub emit_timestamp-stamped-requires : goal.emit_timestamp-stamped-requires
emit_timestamp-stamped-requires c =
    let all = written_len (options_value c.args.options.now) in
    let a = c.emit_segment_size-sized in
    let b = c.emit_window_scale-scaled in
    let s = c.emit_sack-acknowledged in
    omega (arith, all, a.ensures.end, b.ensures.end, s.ensures.end, a.auto.out, b.auto.out, s.auto.out, c.requires.room, c.requires.value)

pub write_zeros-requires-clause-begins : goal.write_zeros-requires-clause-begins
write_zeros-requires-clause-begins c =
    let all = written_len (options_value c.args.options.now) in
    omega (
      arith,
      all,
      c.emit_segment_size-sized.ensures.end,
      c.emit_window_scale-scaled.ensures.end,
      c.emit_sack-acknowledged.ensures.end,
      c.emit_timestamp-stamped.ensures.end,
      c.requires.value,
    )

pub returns : goal.returns
returns c =
    let v = options_value c.args.options.now in
    let all = written_len v in
    let a = c.emit_segment_size-sized.ensures in
    let b = c.emit_window_scale-scaled.ensures in
    let s = c.emit_sack-acknowledged.ensures in
    let t = c.emit_timestamp-stamped.ensures in
    options_after v c.args.out.now _ _ _ _ _ _ _ _ _ c.args.header_len c.requires.value (omega (arith, c.requires.room, c.requires.value, all))
    a.end a.written b.end b.written s.end s.written t.end t.written c.write_zeros.ensures
