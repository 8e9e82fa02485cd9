use Rattle.std.proofs.Common.{◌∙◌, ap, length, sym}
use Rattle.c_read.proofs.FieldsOf.{all-captured, fields_of-is}
use Rattle.c_read.specs.FrameFields.{with_captured}
use Rattle.c_read.proofs.frame_fields.read_frame.Goals as goal

pub returns-clause-value : goal.returns-clause-value
returns-clause-value c =
    let bytes = c.args.bytes.now in
    all-captured (length bytes) c.store_frame_headers.new.fields c.store_frame_headers.ensures.within
    ∙ ap (with_captured (length bytes)) c.store_frame_headers.ensures.value ∙ sym (fields_of-is bytes)
