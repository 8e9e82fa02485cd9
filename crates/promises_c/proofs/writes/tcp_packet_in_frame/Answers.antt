use Rattle.std.proofs.Common.{◌≡◌, ◌∙◌, SFits, length, rules, sym, w64}
use Rattle.std.proofs.lemmas.Int.{to_z-of_z}
use Rattle.c_write.specs.Failures.{tcp_frame_failure}
use Rattle.c_write.specs.Frames.{tcp_packet}
use Rattle.promises_c.proofs.PacketsInFrames.{InFrame, in-frame}
use Rattle.promises_c.proofs.writes.tcp_packet_in_frame.Goals as goal

pub returns : goal.returns
returns c =
    let f = c.args.headers.now in
    let old = c.args.packet.now in
    let src : length f.ethernet.src ≡ 6 = search rules in
    let dst : length f.ethernet.dst ≡ 6 = search rules in
    let both : InFrame c.lk_emit_tcp_packet.new.out c.lk_emit_tcp_frame.new.out c.lk_emit_tcp_packet.result c.lk_emit_tcp_frame.result =
    in-frame f (tcp_packet f c.args.options.now c.args.payload.now) (tcp_frame_failure f c.args.options.now (length c.args.payload.now)) old c.lk_emit_tcp_packet.new.out c.args.frame.now c.lk_emit_tcp_frame.new.out _ _ src dst c.requires.room c.requires.most c.requires.rest
    c.lk_emit_tcp_packet.ensures c.lk_emit_tcp_frame.ensures in
    let fits : SFits w64 c.lk_emit_tcp_packet.result = search rules in
    let fits_too : SFits w64 c.lk_emit_tcp_frame.result = search rules in
    let packet_len = to_z-of_z w64 c.lk_emit_tcp_packet.result fits in
    let frame_len = to_z-of_z w64 c.lk_emit_tcp_frame.result fits_too in
    record {
      written = both.written;
      returned = λ n some. frame_len ∙ both.returned n (sym packet_len ∙ some);
      failed = λ n none. frame_len ∙ both.failed n (sym packet_len ∙ none);
    }
