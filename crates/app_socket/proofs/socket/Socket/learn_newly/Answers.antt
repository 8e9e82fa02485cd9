use Rattle.std.proofs.Common.{◌≡◌, ◌∙◌, ◌⊎◌, ap, inl, inr, refl, subst, ℕ, ◌+◌, ◌<◌, ◌≤◌, Bool, true, false, arith}
use Rattle.std.specs.Prelude.{Some, None, if◌then◌else◌}
use Rattle.app_socket.specs.declared.timers.Timers.{Timers}
use Rattle.app_socket.specs.Probes.{timer_of}
use Rattle.app_socket.specs.Times.{later}
use Rattle.app_socket.specs.Undo.{is_spurious}
use Rattle.app_socket.proofs.socket.Socket.learn_newly.Goals as goal

either : (b : Bool) → (b ≡ true) ⊎ (b ≡ false)
either true = inl refl
either false = inr refl

pub returns-clause-sound : goal.returns-clause-sound
returns-clause-sound c = λ sound.
    let old = c.args.self.now in
    let flight = old.connection.sending.flight in
    let new = c.on_ack.new.self in
    let of : c.flight-flight.result ≡ flight = c.flight-flight.ensures in
    let cursor : new.cursor ≤ flight = elim (either (is_spurious old.flow c.round_trip-round_trip.result c.args.now)) [
      | inl needless ↦ omega (arith, of, (c.on_ack.ensures.undoes needless).cursor)
      | inr needed ↦ omega (arith, c.on_ack.ensures.cursor needed, sound.cursor)
    ] in
    record {
      cursor = cursor;
      sacked = λ n is.
          let before : n + c.args.newly < flight + c.args.newly = sound.sacked (n + c.args.newly) (subst (λ (b : Bool). b ≡ true) (c.on_ack.ensures.known n) is) in
          omega (arith, before);
    }

pub returns-clause-restarts : goal.returns-clause-restarts
returns-clause-restarts c = λ size fits.
    let now = c.args.now in
    let waits = c.waits-waits.result in
    ap (λ (t : Timers). t.resend_at) c.restart.ensures
    ∙ (ap (λ (n : ℕ). if waits then Some (later now n) else None) c.timer.ensures.value
    ∙ ap (λ (b : Bool). if b then Some (later now (timer_of c.on_ack.new.self)) else None) (c.waits-waits.ensures.value size fits))
