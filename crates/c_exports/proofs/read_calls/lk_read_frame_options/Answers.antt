use Rattle.std.proofs.Common.{◌∙◌, ap}
use Rattle.c_exports.proofs.FrameOptions.{used-whole}
use Rattle.c_read.specs.FrameFields.{fields_of}
use Rattle.c_exports.proofs.read_calls.lk_read_frame_options.Goals as goal

pub read_frame_options-requires : goal.read_frame_options-requires
read_frame_options-requires c tcp =
    let fields = c.lk_read_frame-reason.ensures.fields in fields ∙ ap fields_of (used-whole c.args.bytes.now c.lk_read_frame-reason.new.frame fields tcp)

pub returns-clause-options : goal.returns-clause-options
returns-clause-options c = record {
  stored = λ tcp. rw (used-whole c.args.bytes.now c.lk_read_frame-reason.new.frame c.lk_read_frame-reason.ensures.fields tcp) (c.read_frame_options.ensures.stored tcp);
  none = c.read_frame_options.ensures.none;
}
