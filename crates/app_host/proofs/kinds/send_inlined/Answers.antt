use Rattle.std.proofs.Common.{◌≡◌, ◌-◌, arith, drop, length, length-drop, rules, take}
use Rattle.std.proofs.lemmas.List.{take_all}
use Rattle.ip_wire.proofs.Sent.{is_sent}
use Rattle.ip_wire.specs.Frame.{all_checked}
use Rattle.app_host.proofs.kinds.send_inlined.Goals as goal

pub returns : goal.returns
returns c =
    let old = c.args.out.now in
    let new = c.try_emit.new.out in
    let n = c.in_ok-len.len in
    let caps : c.default-caps.result ≡ all_checked = search rules in
    let same : length new ≡ length old = search rules in
    let all : take (length new - n) (drop n new) ≡ drop n new = take_all (length new - n) (drop n new) (omega (arith, length-drop n new)) in
    is_sent c.args.frame.now _ old new n c.requires (rw caps at c.in_ok-len.ensures) same all (rw caps at c.frame_reads_back.ensures)
