use Rattle.std.proofs.Common.{◌∙◌, ap, ℕ, ◌*◌, ◌/◌, Bool, min, max}
use Rattle.std.specs.Prelude.{if◌then◌else◌}
use Rattle.app_congestion.specs.Congestion.{Sender}
use Rattle.app_congestion.specs.declared.rto.Rto.{Rto}
use Rattle.app_socket.proofs.laws.losses.a_time_out_slows.Goals as goal

pub returns-clause-cwnd : goal.returns-clause-cwnd
returns-clause-cwnd c =
    let r = c.step.ensures.resends tt c.requires.opened c.requires.patient in
    ap (λ (s : Sender). s.cwnd) (r.slows c.requires.window c.requires.flight c.requires.waits c.requires.due c.requires.probed)

pub returns-clause-ssthresh : goal.returns-clause-ssthresh
returns-clause-ssthresh c =
    let r = c.step.ensures.resends tt c.requires.opened c.requires.patient in
    let s = c.args.socket.now.flow.congestion in
    let half : ℕ = min 1073741824 (max (c.args.socket.now.connection.sending.flight / 2) (2 * s.mss)) in
    ap (λ (s : Sender). s.ssthresh) (r.slows c.requires.window c.requires.flight c.requires.waits c.requires.due c.requires.probed) ∙ ap (λ (b : Bool). if b then s.ssthresh else half) c.requires.fresh

pub returns-clause-timeout : goal.returns-clause-timeout
returns-clause-timeout c =
    let r = c.step.ensures.resends tt c.requires.opened c.requires.patient in
    (r.backs_off c.requires.flight c.requires.waits c.requires.due c.requires.probed).timeout

pub returns-clause-rests : goal.returns-clause-rests
returns-clause-rests c = λ early.
    let r = c.step.ensures.resends tt c.requires.opened c.requires.patient in
    let q = c.step-2.ensures.resends tt early.opened early.patient in
    let slows = r.slows c.requires.window c.requires.flight c.requires.waits c.requires.due c.requires.probed in
    let calm = q.calm early.clock early.rests in (
      ap (λ (x : Rto). x.timeout) (q.still early.clock early.rests) ∙ (r.backs_off c.requires.flight c.requires.waits c.requires.due c.requires.probed).timeout,
      q.stays (r.probed c.requires.waits c.requires.due),
      calm.0 ∙ ap (λ (s : Sender). s.phase) slows,
      calm.1 ∙ ap (λ (s : Sender). s.duplicates) slows,
    )
