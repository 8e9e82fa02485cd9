use Rattle.std.proofs.Common.{ℕ, ◌∙◌, ◌≤◌, ◌<◌, ◌-◌, ap, arith, length, rules, sym}
use Rattle.c_structs.specs.declared.codes.Reason.TheVariants as reason
use Rattle.c_read.proofs.CapturedOf.{captured_packet_headers-long, captured_packet_headers-short, taken}
use Rattle.c_read.specs.Captured.{captured_packet_headers, cut_header, cut_packet}
use Rattle.c_read.specs.FrameFields.{bare_of, rejected}
use Rattle.c_read.proofs.captured.store_captured_packet_headers.Goals as goal

pub returns-then-is_empty-clause-value : goal.returns-then-is_empty-clause-value
returns-then-is_empty-clause-value c =
    let bytes = c.args.captured.now in
    let len = c.args.len in
    let part : length bytes < len = c.requires.part in
    let few : length bytes < 1 = search rules in
    c.reject_cut.ensures ∙ ap (λ (n : ℕ). cut_header (record c.nothing.result { reason = n }) 1) c.code-fields.ensures
    ∙ ap (λ f. cut_header (rejected f reason.Read) 1) c.nothing.ensures
    ∙ sym (taken captured_packet_headers (λ (n : ℕ). cut_header (bare_of n) 1) bytes len part (captured_packet_headers-short bytes (len - length bytes) (omega (arith, part)) few))

pub returns-else-is_empty-clause-value : goal.returns-else-is_empty-clause-value
returns-else-is_empty-clause-value c =
    let bytes = c.args.captured.now in
    let len = c.args.len in
    let part : length bytes < len = c.requires.part in
    let some : 1 ≤ length bytes = search rules in
    c.store_cut_packet.ensures.value ∙ ap (λ (n : ℕ). cut_packet (record c.nothing.result { reason = n }) bytes) c.code-fields.ensures
    ∙ ap (λ f. cut_packet (rejected f reason.Read) bytes) c.nothing.ensures
    ∙ sym (taken captured_packet_headers (λ (n : ℕ). cut_packet (bare_of n) bytes) bytes len part (captured_packet_headers-long bytes (len - length bytes) (omega (arith, part)) some))
