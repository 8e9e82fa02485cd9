use Rattle.std.proofs.Common.{ℕ, ◌∙◌, ◌≤◌, ◌<◌, ap, sym, rules, length}
use Rattle.c_structs.specs.declared.codes.Reason.TheVariants as reason
use Rattle.c_read.specs.FrameFields.{rejected, with_packet}
use Rattle.c_read.proofs.FieldsOf.{packet_headers-none, packet_headers-some}
use Rattle.c_read.proofs.frame_fields.store_packet_headers.Goals as goal

pub returns-then-not-is_empty-clause-value : goal.returns-then-not-is_empty-clause-value
returns-then-not-is_empty-clause-value c =
    let bytes = c.args.bytes.now in
    let some : 1 ≤ length bytes = search rules in
    c.store_packet.ensures.value ∙ ap (λ (n : ℕ). with_packet (record c.nothing.result { reason = n }) bytes) c.code-fields.ensures
    ∙ ap (λ f. with_packet (rejected f reason.Read) bytes) c.nothing.ensures ∙ sym (packet_headers-some bytes some)

pub returns-else-not-is_empty-clause-value : goal.returns-else-not-is_empty-clause-value
returns-else-not-is_empty-clause-value c =
    let bytes = c.args.bytes.now in
    let none : length bytes < 1 = search rules in
    c.nothing.ensures ∙ sym (packet_headers-none bytes none)
