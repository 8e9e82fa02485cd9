use Rattle.std.proofs.Common.{◌≡◌, ◌+◌, ◌++◌, ◌∙◌, ap, ap₂, arith, drop, length, length-append, length-drop, rules, sym}
use Rattle.ip_wire.specs.Frame.{all_checked, rebuilt}
use Rattle.ip_wire.specs.FrameValue.{Finds, frame_bytes, frame_len}
use Rattle.promises.proofs.frames.rebuild.Goals as goal

pub returns-clause-len : goal.returns-clause-len
returns-clause-len c =
    let value = c.in-Ok.value in
    let old = c.args.out.now in
    let caps : c.default-caps.result ≡ all_checked = search rules in
    let found : Finds all_checked c.args.frame.now value = rw caps at c.in-Ok.ensures.value in
    let bytes : length (frame_bytes all_checked value) ≡ length (rebuilt c.args.frame.now) = ap length (c.frame_rebuilds.ensures found) in
    let written : c.emit.new.buffer ≡ frame_bytes all_checked value ++ drop (frame_len value) old = rw caps at c.emit.ensures in
    let lengths : length c.emit.new.buffer ≡ length (frame_bytes all_checked value) + length (drop (frame_len value) old) =
    ap length written ∙ length-append (frame_bytes all_checked value) (drop (frame_len value) old)
    in
    let same : length c.emit.new.buffer ≡ length old = search rules in
    omega (arith, length-drop (frame_len value) old, c.in-Ok.ensures.no_longer, c.buffer_len.ensures, c.requires.room)

pub returns-clause-bytes : goal.returns-clause-bytes
returns-clause-bytes c =
    let caps : c.default-caps.result ≡ all_checked = search rules in
    let found : Finds all_checked c.args.frame.now c.in-Ok.value = rw caps at c.in-Ok.ensures.value in
    let bytes : frame_bytes all_checked c.in-Ok.value ≡ rebuilt c.args.frame.now = c.frame_rebuilds.ensures found in
    let written : c.emit.new.buffer ≡ frame_bytes all_checked c.in-Ok.value ++ drop (frame_len c.in-Ok.value) c.args.out.now = rw caps at c.emit.ensures in
    written ∙ ap₂ (λ b n. b ++ drop n c.args.out.now) bytes (sym c.buffer_len.ensures)
