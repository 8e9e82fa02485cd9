use Rattle.std.proofs.Common.{ℕ, ◌≡◌, ◌≤◌, ◌-◌, ◌++◌, ◌∙◌, List, arith, ap, drop, length, length-drop, rules, subst, sym, take}
use Rattle.std.proofs.lemmas.List.{take_all}
use Rattle.ip_wire.proofs.Sent.{rest_stays}
use Rattle.ip_wire.specs.Frame.{all_checked}
use Rattle.ip_wire.specs.FrameValue.{ReadsNormalOf, frame_len}
use Rattle.ip_wire.specs.declared.Frame.{Frame}
use Rattle.app_short.proofs.write_frame.write_udp.Goals as goal

-- the frame in the buffer and what follows it are the whole buffer
whole : (f : Frame) (bytes padding old new : List ℕ) (n : ℕ) → (n ≡ frame_len f) × (n ≤ length old) × (new ≡ bytes ++ drop n old) → length new ≡ length old
    → padding ≡ drop n new → ReadsNormalOf all_checked (bytes ++ padding) f → ReadsNormalOf all_checked new f
whole f bytes padding old new n (len, fits, is) same following reads =
    subst (λ b. ReadsNormalOf all_checked b f) (ap (λ l. bytes ++ l) (following ∙ rest_stays bytes old new n is same fits) ∙ sym is) reads

pub returns-in_ok-len-in-Ok-clause-reads_back : goal.returns-in_ok-len-in-Ok-clause-reads_back
returns-in_ok-len-in-Ok-clause-reads_back c =
    let old = c.args.buffer.now in
    let new = c.try_emit.new.out in
    let n = c.in_ok-len-in-Ok.len in
    let caps : c.default.result ≡ all_checked = search rules in
    let sent : c.default-in-Ok.result ≡ all_checked = search rules in
    let received : c.default-in-Ok-2.result ≡ all_checked = search rules in
    let same : length new ≡ length old = search rules in
    let all : take (length new - n) (drop n new) ≡ drop n new = take_all (length new - n) (drop n new) (omega (arith, length-drop n new)) in
    subst (ReadsNormalOf all_checked new) c.in-Ok.ensures.value
    (whole c.in-Ok.frame _ _ old new n (rw caps at c.in_ok-len-in-Ok.ensures) same all (rw (sent, received) at c.frame_reads_back.ensures))
