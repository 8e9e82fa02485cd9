use Rattle.std.proofs.Common.{◌≡◌, ◌⊎◌, inl, inr, ◌∙◌, refl, sym, ap, subst, ℕ, ◌+◌, ◌≤◌, ◌<◌, Bool, true, false, min, arith}
use Rattle.std.specs.Prelude.{Option, Some, None, IfSome, MatchOption}
use Rattle.app_congestion.specs.Congestion.{is_in_recovery, sender_of}
use Rattle.app_congestion.specs.Scoreboard.{IsHole}
use Rattle.app_socket.specs.declared.flow.Flow.{Flow}
use Rattle.app_socket.specs.declared.flow.Piece.{Piece}
use Rattle.app_socket.specs.declared.flow.Queue.{Queue}
use Rattle.app_socket.specs.declared.socket.Socket.{Socket}
use Rattle.app_socket.specs.declared.timers.Timers.{Timers}
use Rattle.app_socket.specs.Probes.{is_probing}
use Rattle.app_socket.specs.Resends.{IsHeld, IsSound, TimesOut, is_due, queue_of}
use Rattle.app_socket.proofs.socket.Socket.piece.Goals as goal

pub returns-in-Some-clause-times_out : goal.returns-in-Some-clause-times_out
returns-in-Some-clause-times_out c = λ size fits some due probed.
    let same = c.run_timer.ensures.due size fits some due in
    let P : Socket → Type 0 = λ (x : Socket). is_due x.timers.resend_at c.args.now ≡ true → x.flow.is_probed ≡ true → TimesOut x.flow c.expire.new.self.flow c.queue-queue.result c.args.now in
    let out : TimesOut c.args.self.now.flow c.expire.new.self.flow c.queue-queue.result c.args.now = subst P same c.expire.ensures.times_out due probed in
    subst (λ (q : Queue). TimesOut c.args.self.now.flow c.expire.new.self.flow q c.args.now) (c.queue-queue.ensures.value size fits) out

pub returns-clause-armed : goal.returns-clause-armed
returns-clause-armed c = λ size fits some. c.expire.ensures.armed c.args.self.now.timers.resend_at (c.run_timer.ensures.armed size fits some)

pub returns-clause-expires : goal.returns-clause-expires
returns-clause-expires c = λ size fits some due probed.
    let same = c.run_timer.ensures.due size fits some due in
    let P : Socket → Type 0 = λ (x : Socket). is_due x.timers.resend_at c.args.now ≡ true → x.flow.is_probed ≡ true → ⊥ in
    absurd (subst P same c.in_default.ensures.some due probed)

pub returns-clause-times_out : goal.returns-clause-times_out
returns-clause-times_out c = λ size fits some due probed.
    let same = c.run_timer.ensures.due size fits some due in
    let P : Socket → Type 0 = λ (x : Socket). is_due x.timers.resend_at c.args.now ≡ true → x.flow.is_probed ≡ true → ⊥ in
    absurd (subst P same c.in_default.ensures.some due probed)

-- a loss probe leaves congestion control
pub returns-in-Some-clause-free : goal.returns-in-Some-clause-free
returns-in-Some-clause-free c = λ size fits some due probing.
    let same = c.run_timer.ensures.due size fits some due in
    let P : Socket → Type 0 = λ (x : Socket). is_due x.timers.resend_at c.args.now ≡ true → is_probing x.flow ≡ true → c.expire.new.self.flow.congestion ≡ x.flow.congestion in
    subst P same c.expire.ensures.free due probing

pub returns-clause-free : goal.returns-clause-free
returns-clause-free c = λ size fits some due probing.
    let same = c.run_timer.ensures.due size fits some due in
    let P : Socket → Type 0 = λ (x : Socket). is_due x.timers.resend_at c.args.now ≡ true → is_probing x.flow ≡ true → c.expire.new.self.flow.congestion ≡ x.flow.congestion in
    ap (λ (f : Flow). f.congestion) c.next.ensures.same ∙ subst P same c.expire.ensures.free due probing

pub returns-clause-probed : goal.returns-clause-probed
returns-clause-probed c = λ size fits some due.
    let same = c.run_timer.ensures.due size fits some due in
    let P : Socket → Type 0 = λ (x : Socket). is_due x.timers.resend_at c.args.now ≡ true → c.expire.new.self.flow.is_probed ≡ true in
    ap (λ (f : Flow). f.is_probed) c.next.ensures.same ∙ subst P same c.expire.ensures.probed due

pub returns-clause-held : goal.returns-clause-held
returns-clause-held c = λ size fits none.
    let same : c.queue-queue.result ≡ queue_of c.expire.new.self =
    c.queue-queue.ensures.value size fits ∙ sym (ap queue_of c.run_timer.ensures.same) ∙ sym (ap queue_of c.expire.ensures.same)
    in
    subst (λ (q : Queue). IsHeld c.next.new.self q) same (c.next.ensures.held none)

either : (b : Bool) → (b ≡ true) ⊎ (b ≡ false)
either true = inl refl
either false = inr refl

-- the place of the first segment
place_first : (o : Option Piece) (flight count : ℕ) → 0 < count → MatchOption o ⊥ (λ p. p.offset ≡ 0) → IfSome o (λ p. (p.offset ≤ flight) × (p.offset < count))
place_first None flight count some first = absurd first
place_first (Some p) flight count some first = (omega arith, omega arith)

-- the place of another one
place_next : (o : Option Piece) (flight count old unsent : ℕ) → old ≡ flight → flight + unsent ≡ count → IfSome o (λ p. (p.offset ≤ old) × (p.offset < old + unsent))
    → IfSome o (λ p. (p.offset ≤ flight) × (p.offset < count))
place_next None flight count old unsent same all place = tt
place_next (Some p) flight count old unsent same all place = (omega (arith, place.0), omega (arith, place.1))

pub returns-in-Some-clause-sound : goal.returns-in-Some-clause-sound
returns-in-Some-clause-sound c = λ flight sound. c.expire.ensures.sound flight (c.run_timer.ensures.sound flight sound)

pub returns-clause-sound : goal.returns-clause-sound
returns-clause-sound c = λ flight sound.
    let later = c.expire.ensures.sound flight (c.run_timer.ensures.sound flight sound) in
    subst (λ (f : Flow). IsSound f flight) (sym c.next.ensures.same) (record { cursor = later.cursor; sacked = later.sacked })

pub returns-clause-place : goal.returns-clause-place
returns-clause-place c = λ size fits some few sound.
    let s = c.args.self.now.connection.sending in
    let later = c.expire.ensures.sound s.flight (c.run_timer.ensures.sound s.flight sound) in
    let q = c.queue-queue.result in
    let same : q.flight ≡ s.flight = c.queue-queue.ensures.flight in
    let unsent = ap (λ (q : Queue). q.unsent) (c.queue-queue.ensures.value size fits) in
    elim (either c.expire.new.self.flow.resend) [
      | inl first ↦ place_first c.next.result s.flight _ some (c.next.ensures.first first)
      | inr other ↦ place_next c.next.result s.flight _ q.flight q.unsent same (omega (arith, unsent)) (c.next.ensures.place (subst (λ (n : ℕ). IsSound c.expire.new.self.flow n) (sym same) later) other)
    ]

-- the peer's patience while the timer runs
runs_on : (o : Option ℕ) (old new last : Socket) → new.timers.ends_at ≡ last.timers.ends_at → IfSome o (λ at. last.timers ≡ old.timers) → IfSome o (λ at. new.timers.ends_at ≡ old.timers.ends_at)
runs_on None old new last same runs = tt
runs_on (Some at) old new last same runs = same ∙ ap (λ (t : Timers). t.ends_at) runs

pub returns-in-Some-clause-patience : goal.returns-in-Some-clause-patience
returns-in-Some-clause-patience c = λ size fits some.
    let old = c.args.self.now in
    let new = c.expire.new.self in
    runs_on old.timers.resend_at old new c.run_timer.new.self (ap (λ (x : Socket). x.timers.ends_at) c.expire.ensures.same) (c.run_timer.ensures.runs size fits some)

pub returns-clause-patience : goal.returns-clause-patience
returns-clause-patience c = λ size fits some.
    let old = c.args.self.now in
    let new = c.expire.new.self in
    runs_on old.timers.resend_at old new c.run_timer.new.self (ap (λ (x : Socket). x.timers.ends_at) c.expire.ensures.same) (c.run_timer.ensures.runs size fits some)

pub returns-clause-hole : goal.returns-clause-hole
returns-clause-hole c = λ size offset count fits small due resend calm is text less.
    let old = c.args.self.now in
    let mid = c.run_timer.new.self in
    let new = c.expire.new.self in
    let same : new ≡ mid = (c.in_default.ensures.rests (c.run_timer.ensures.rests small due)).0 in
    let flow : mid.flow ≡ record old.flow { congestion = mid.flow.congestion } = ap (λ (x : Socket). x.flow) c.run_timer.ensures.same in
    let Hole : Flow → Type 0 = λ (f : Flow). IsHole f.scoreboard f.rescued offset count in
    c.next.ensures.hole offset count (ap (λ (x : Socket). x.flow.resend) same ∙ ap (λ (f : Flow). f.resend) flow ∙ resend)
    (ap (λ (x : Socket). is_in_recovery x.flow.congestion.phase) same ∙ ap is_in_recovery c.run_timer.ensures.phase ∙ calm) (subst Hole (sym (ap (λ (x : Socket). x.flow) same ∙ flow)) is)
    (subst (λ (n : ℕ). 0 < n) (sym (ap (λ (q : Queue). q.mss) (c.queue-queue.ensures.value size fits))) text)
    (subst (λ (n : ℕ). offset < min n new.flow.congestion.cwnd) (sym c.queue-queue.ensures.window) (subst (λ (f : Flow). offset < min old.connection.wnd f.congestion.cwnd) c.next.ensures.same less))

pub returns-in-Some-clause-idle : goal.returns-in-Some-clause-idle
returns-in-Some-clause-idle c = λ size fits some none small.
    let due = ap (λ (at : Option ℕ). is_due at c.args.now) none in
    let same = (c.in-Some.ensures.rests (c.run_timer.ensures.rests small due)).0 in
    let before = c.run_timer.ensures.idle size fits some none in
    record {
      idle = λ is. ap (λ (x : Socket). sender_of x.flow.congestion) same ∙ before.idle is;
      busy = λ is. ap (λ (x : Socket). x.flow.congestion) same ∙ before.busy is;
    }

pub returns-clause-idle : goal.returns-clause-idle
returns-clause-idle c = λ size fits some none small.
    let due = ap (λ (at : Option ℕ). is_due at c.args.now) none in
    let same = (c.in_default.ensures.rests (c.run_timer.ensures.rests small due)).0 in
    let before = c.run_timer.ensures.idle size fits some none in
    let flow = ap (λ (f : Flow). f.congestion) c.next.ensures.same in
    record {
      idle = λ is. ap sender_of flow ∙ ap (λ (x : Socket). sender_of x.flow.congestion) same ∙ before.idle is;
      busy = λ is. flow ∙ ap (λ (x : Socket). x.flow.congestion) same ∙ before.busy is;
    }
