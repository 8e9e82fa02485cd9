use Rattle.std.proofs.Common.{◌≡◌, ◌∙◌, ◌≤◌, Some, length, refl, sym, arith}
use Rattle.ip_wire.specs.Arp.{arp_of, value_of}
use Rattle.c_read.specs.FrameFields.{with_arp, with_message}
use Rattle.c_read.proofs.frame_fields.store_arp.Goals as goal

pub store_message-requires-clause-whole : goal.store_message-requires-clause-whole
store_message-requires-clause-whole c = rw c.new_unchecked.ensures at ((c.in-Ok.ensures.reads c.in-Ok.field-0).0 refl).whole

pub returns-in-Ok-clause-value : goal.returns-in-Ok-clause-value
returns-in-Ok-clause-value c =
    let f = c.args.fields.now in
    let bytes = c.args.bytes.now in
    let message = c.in-Ok.field-0 in
    let read : arp_of bytes ≡ Some message = rw c.new_unchecked.ensures at c.in-Ok.ensures.value in
    let fields : message ≡ value_of bytes = rw c.new_unchecked.ensures at ((c.in-Ok.ensures.reads message).0 refl).fields in
    let stored : with_arp f bytes ≡ with_message f (value_of bytes) = rw (read, fields) refl in
    c.store_message.ensures.value ∙ sym stored

pub returns-in-Ok-clause-within : goal.returns-in-Ok-clause-within
returns-in-Ok-clause-within c =
    let whole : 28 ≤ length c.args.bytes.now = rw c.new_unchecked.ensures at ((c.in-Ok.ensures.reads c.in-Ok.field-0).0 refl).whole in
    let offset = c.store_message.ensures.offset in
    let len = c.store_message.ensures.len in
    omega (arith, whole, offset, len)
