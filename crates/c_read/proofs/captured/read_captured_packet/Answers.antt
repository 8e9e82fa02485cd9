use Rattle.std.proofs.Common.{◌≡◌, ◌∙◌, ◌<◌, ◌-◌, List, ℕ, ap, arith, length, sym, take}
use Rattle.std.proofs.lemmas.Grind.{common_steps}
use Rattle.c_read.proofs.CapturedOf.{captured_packet_of-is}
use Rattle.c_read.proofs.CutFrame.{read-packet-cut}
use Rattle.c_read.specs.Captured.{captured_packet_headers}
use Rattle.c_read.specs.FrameFields.{with_captured}
use Rattle.c_read.proofs.captured.read_captured_packet.Goals as goal

pub returns-clause-value : goal.returns-clause-value
returns-clause-value c =
    let bytes = c.args.captured.now in
    let len = c.args.len in
    let part : length bytes < len = c.requires.part in
    let all : take len bytes ≡ bytes = grind (arith, common_steps, part) in
    c.store_captured.ensures ∙ ap (with_captured (length bytes)) c.store_captured_packet_headers.ensures.value
    ∙ ap (λ (l : List ℕ). with_captured (length l) (captured_packet_headers (take len bytes) (len - length bytes))) (sym all)
    ∙ sym (captured_packet_of-is (take len bytes) (len - length bytes))

pub returns-clause-cut : goal.returns-clause-cut
returns-clause-cut c rest sum = read-packet-cut c.args.captured.now rest c.args.len _ (returns-clause-value c) sum
