use Rattle.std.proofs.Common.{◌≡◌, ◌++◌, ◌∙◌, ap, arith, drop, rules, subst}
use Rattle.std.proofs.lemmas.Grind.{common_steps}
use Rattle.std.specs.Prelude.{string_bytes}
use Rattle.ip_frames.proofs.ReadLines.{frame_lines-read, frame_lines-unread}
use Rattle.ip_frames.specs.Output.{again_line, ended, payload_lines}
use Rattle.ip_wire.specs.Ethernet.{frame_text}
use Rattle.ip_wire.specs.Frame.{all_checked, rebuilt}
use Rattle.ip_wire.specs.FrameValue.{Finds}
use Rattle.ip_frames.proofs.block.with_frame.Goals as goal

pub push_payload-requires : goal.push_payload-requires
push_payload-requires c =
    let caps : c.default.result ≡ all_checked = search rules in
    let found : Finds all_checked c.args.bytes.now c.in-Ok.frame = subst (λ caps. Finds caps c.args.bytes.now c.in-Ok.frame) caps c.in-Ok.ensures.value in
    let payload : c.payload.result.now ≡ drop 14 c.args.bytes.now = c.payload.ensures ∙ ap (λ slice. drop 14 slice.now) c.new_unchecked-view.ensures in
    rw payload found.carried

pub rebuild-requires-clause-found : goal.rebuild-requires-clause-found
rebuild-requires-clause-found c =
    let caps : c.default.result ≡ all_checked = search rules in
    subst (λ caps. Finds caps c.args.bytes.now c.in-Ok.frame) caps c.in-Ok.ensures.value

pub returns-in_ok-rebuild-in-Ok : goal.returns-in_ok-rebuild-in-Ok
returns-in_ok-rebuild-in-Ok c =
    let frame = c.args.bytes.now in
    let v = c.in-Ok.frame.header in
    let payload : c.payload.result.now ≡ drop 14 frame = c.payload.ensures ∙ ap (λ slice. drop 14 slice.now) c.new_unchecked-view.ensures in
    let again : c.as_slice.result.now ≡ rebuilt frame = c.as_slice.ensures.value ∙ c.in_ok-rebuild-in-Ok.ensures in
    let lines : payload_lines v.ethertype c.payload.result.now ≡ payload_lines v.ethertype (drop 14 frame) = ap (payload_lines v.ethertype) payload in
    let above : string_bytes c.push_payload.new.text ≡ string_bytes c.args.text ++ ended (frame_text frame) ++ payload_lines v.ethertype (drop 14 frame) = rw (← lines) (grind (arith, common_steps)) in
    let whole : string_bytes c.push_payload.new.text ++ again_line c.as_slice.result.now
    ≡ string_bytes c.args.text ++ (ended (frame_text frame) ++ (payload_lines v.ethertype (drop 14 frame) ++ again_line c.as_slice.result.now)) = rw above (grind (arith, common_steps)) in
    rw (frame_lines-read frame v c.in-Ok.ensures.value.header, ← again, ← whole) c.with_again.ensures

pub returns-in-Err : goal.returns-in-Err
returns-in-Err c = rw (frame_lines-unread c.args.bytes.now (λ whole. let apart = c.in-Err.ensures.ok.1 whole in cc)) (grind (arith, common_steps))
