use Rattle.std.proofs.Common.{◌≡◌, ◌∙◌, ap, arith, drop, length, slice_range, sym}
use Rattle.std.proofs.lemmas.Grind.{common_steps}
use Rattle.c_read.proofs.InFrame.{frame-packet}
use Rattle.c_read.specs.FrameFields.{packet_fields_of}
use Rattle.c_read.specs.Stored.{in_frame}
use Rattle.c_read.proofs.laws.frame_has_packet.Goals as goal

pub returns : goal.returns
returns c v r is =
    let frame = c.args.frame.now in
    let slice : slice_range frame 14 (length frame) ≡ drop 14 frame = grind (arith, common_steps) in
    let packet : c.read_packet.new.fields ≡ packet_fields_of (drop 14 frame) = c.read_packet.ensures.value ∙ ap packet_fields_of slice in
    c.read_frame.ensures.value ∙ frame-packet frame v r is ∙ ap (in_frame v) (sym packet)
