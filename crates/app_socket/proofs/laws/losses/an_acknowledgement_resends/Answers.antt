use Rattle.std.proofs.Common.{◌≡◌, inl, inr, sym, ◌∙◌, ap, subst, ℕ, ◌+◌, ◌<◌, nat_lt, arith}
use Rattle.std.specs.Prelude.{Option, Some, None, if◌then◌else◌}
use Rattle.tcp_stream.specs.Waits.{unsent_of}
use Rattle.app_socket.specs.Probes.{timer_of}
use Rattle.app_socket.specs.Resends.{IsArmed}
use Rattle.app_socket.specs.Times.{later}
use Rattle.app_socket.proofs.Lost.{armed_anew, goes_first}
use Rattle.app_socket.proofs.Rounds.{none_rejected}
use Rattle.app_socket.proofs.laws.losses.an_acknowledgement_resends.Goals as goal

pub returns-clause-duplicate : goal.returns-clause-duplicate
returns-clause-duplicate c = λ early none is outside past few.
    let old = c.args.socket.now in
    let mid = c.step.new.self in
    let new = c.step-given.new.self in
    let l = c.step.ensures.learns c.requires.opened early.opened (none_rejected _ _ _ c.requires.taken) in
    let r = c.step-given.ensures.resends tt early.opened early.patient in
    elim (l.counted none is c.requires.synced outside past few) [
      | inl again ↦ inl (goes_first mid.connection.sending new.connection.sending c.args.outgoing.now c.step-given.result (r.again early.waits again))
      | inr more ↦ inr (subst (λ (n : ℕ). (old.flow.congestion.duplicates < n) × (n < 3)) (sym (r.calm early.clock early.rests).1) more)
    ]

pub returns-clause-partial : goal.returns-clause-partial
returns-clause-partial c = λ early some needed is rescued.
    let l = c.step.ensures.learns c.requires.opened early.opened (none_rejected _ _ _ c.requires.taken) in
    let r = c.step-given.ensures.resends tt early.opened early.patient in
    goes_first c.step.new.self.connection.sending c.step-given.new.self.connection.sending c.args.outgoing.now c.step-given.result (r.again early.waits (l.partial needed some is rescued))

pub returns-clause-off : goal.returns-clause-off
returns-clause-off c = λ opened some flight unsent.
    let mid = c.step.new.self in
    let l = c.step.ensures.learns c.requires.opened opened (none_rejected _ _ _ c.requires.taken) in
    let zero : mid.connection.sending.flight + unsent_of mid.connection.sending ≡ 0 = omega (arith, flight, unsent) in
    let at : Option ℕ = Some (later c.args.times.0 (timer_of mid.flow)) in
    l.restarts some ∙ ap (λ (n : ℕ). if nat_lt 0 n then at else None) zero

pub returns-clause-runs : goal.returns-clause-runs
returns-clause-runs c = λ opened none at is le.
    let l = c.step.ensures.learns c.requires.opened opened (none_rejected _ _ _ c.requires.taken) in
    armed_anew c.step.new.self.timers.resend_at c.args.times.0 (l.keeps none None (subst (λ (o : Option ℕ). IsArmed None o c.args.times.0) (sym is) (inr le)))
