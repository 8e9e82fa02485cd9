use Rattle.std.proofs.Common.{◌≡◌, [], append-nil, arith, drop, rules}
use Rattle.std.proofs.lemmas.List.{drop_all}
use Rattle.ip_wire.specs.Frame.{all_checked}
use Rattle.ip_wire.specs.FrameValue.{frame_bytes, frame_len}
use Rattle.ip_frames.proofs.block.emit.Goals as goal

pub returns : goal.returns
returns c =
    let frame = c.args.frame.now in
    let none : drop (frame_len frame) c.args.buffer.now ≡ [] = drop_all (frame_len frame) c.args.buffer.now (omega (arith, c.requires.room)) in
    let caps : c.default.result ≡ all_checked = search rules in
    rw (none, caps, append-nil (frame_bytes all_checked frame)) at c.emit.ensures
