use Rattle.std.proofs.Common.{◌∙◌, ◌≤◌, ◌<◌, ap, sym, rules, drop, length}
use Rattle.ip_wire.specs.Ethernet.{frame_bytes, header_of}
use Rattle.c_structs.specs.Nothing.{nothing_of}
use Rattle.c_read.specs.FrameFields.{with_frame}
use Rattle.c_read.proofs.FieldsOf.{frame_headers-long, frame_headers-short}
use Rattle.c_read.proofs.frame_fields.store_frame_headers.Goals as goal

pub returns-then-is_ok-clause-value : goal.returns-then-is_ok-clause-value
returns-then-is_ok-clause-value c =
    let frame = c.args.bytes.now in
    let viewed : 14 ≤ length (frame_bytes c.new_unchecked-frame.result) = search rules in
    let whole : 14 ≤ length frame = rw c.new_unchecked-frame.ensures at viewed in
    let bytes = frame_bytes c.new_unchecked-frame.result in
    c.store_frame.ensures.value ∙ ap (λ f. with_frame f (header_of bytes) (drop 14 bytes)) c.nothing.ensures
    ∙ ap (λ slice. with_frame (nothing_of (length frame)) (header_of slice.now) (drop 14 slice.now)) c.new_unchecked-frame.ensures
    ∙ sym (frame_headers-long frame whole)

pub returns-else-is_ok-clause-value : goal.returns-else-is_ok-clause-value
returns-else-is_ok-clause-value c =
    let frame = c.args.bytes.now in
    let few : length (frame_bytes c.new_unchecked-frame.result) < 14 = search rules in
    let short : length frame < 14 = rw c.new_unchecked-frame.ensures at few in
    c.nothing.ensures ∙ sym (frame_headers-short frame short)
