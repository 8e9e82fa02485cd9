use Rattle.std.proofs.Common.{◌∙◌, ap, length, sym}
use Rattle.c_read.proofs.FieldsOf.{all-captured, packet_fields_of-is}
use Rattle.c_read.specs.FrameFields.{with_captured}
use Rattle.c_read.proofs.frame_fields.read_packet.Goals as goal

pub returns-clause-value : goal.returns-clause-value
returns-clause-value c =
    let bytes = c.args.bytes.now in
    all-captured (length bytes) c.store_packet_headers.new.fields c.store_packet_headers.ensures.within
    ∙ ap (with_captured (length bytes)) c.store_packet_headers.ensures.value ∙ sym (packet_fields_of-is bytes)
