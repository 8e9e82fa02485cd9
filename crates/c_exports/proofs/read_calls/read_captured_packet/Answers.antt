use Rattle.std.proofs.Common.{ℕ, ◌≡◌, ◌≤◌, ◌∙◌, ◌-◌, List, ap, arith, length, sym, take}
use Rattle.c_read.proofs.CapturedOf.{captured_packet_of-whole}
use Rattle.std.proofs.lemmas.Grind.{common_steps}
use Rattle.c_structs.proofs.Filled.{within-is}
use Rattle.c_read.specs.FrameFields.{packet_fields_of}
use Rattle.c_read.proofs.CutFrame.{read-packet-cut}
use Rattle.c_read.specs.Captured.{captured_packet_of}
use Rattle.c_structs.specs.Written.{max_len, within}
use Rattle.c_exports.proofs.read_calls.read_captured_packet.Goals as goal

-- a part of what is not too long
same : (bytes : List ℕ) (len : ℕ) → length bytes ≤ max_len → within (take len bytes) ≡ take len bytes
same bytes len fits = within-is (take len bytes) (grind (arith, common_steps, fits))

pub returns-then-len-captured-clause-whole : goal.returns-then-len-captured-clause-whole
returns-then-len-captured-clause-whole c _ =
    c.lk_read_packet.ensures.fields ∙ ap packet_fields_of (same c.args.captured.now c.args.len c.requires)

pub returns-then-len-captured-clause-fields : goal.returns-then-len-captured-clause-fields
returns-then-len-captured-clause-fields c =
    let bytes = c.args.captured.now in
    let len = c.args.len in
    let none : len - length bytes ≡ 0 = omega (arith, c.if-len-captured.true) in
    c.lk_read_packet.ensures.fields ∙ ap packet_fields_of (same c.args.captured.now c.args.len c.requires)
    ∙ sym (captured_packet_of-whole (take len bytes)) ∙ ap (captured_packet_of (take len bytes)) (sym none)

pub returns-then-len-captured-clause-cut : goal.returns-then-len-captured-clause-cut
returns-then-len-captured-clause-cut c rest sum = read-packet-cut c.args.captured.now rest c.args.len _ (returns-then-len-captured-clause-fields c) sum

pub returns-clause-whole : goal.returns-clause-whole
returns-clause-whole c fits = absurd (omega (arith, c.if-len-captured.false, fits))
