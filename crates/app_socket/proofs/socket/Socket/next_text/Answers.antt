use Rattle.std.proofs.Common.{ap, ◌≡◌, inl, inr, ◌∙◌, refl, sym, subst, ℕ, ◌+◌, ◌%◌, ◌<◌, ◌≤◌, true, min, arith}
use Rattle.std.specs.Prelude.{None, Option, Some, IfSome, MatchOption, option_map}
use Rattle.app_connection.proofs.Going.{goes_at, stand_as}
use Rattle.app_socket.specs.declared.socket.Socket.{Socket}
use Rattle.app_socket.proofs.Opened.{patience_on}
use Rattle.app_socket.proofs.socket.Socket.next_text.Goals as goal
use Rattle.std.proofs.lemmas.Bool.{cases_lt}
use Rattle.tcp_stream.specs.Waits.{count_of}
use Rattle.app_congestion.specs.declared.rto.Rto.{Rto}
use Rattle.app_congestion.specs.Congestion.{sender_of}
use Rattle.app_connection.specs.declared.connection.Connection.{Connection}
use Rattle.app_connection.specs.declared.segment.Segment.{Segment}
use Rattle.app_connection.specs.declared.state.Phase.TheVariants.{Open}
use Rattle.app_connection.specs.Endpoints.{len_of}
use Rattle.app_connection.specs.Promises.{GoesFrom}
use Rattle.app_connection.specs.States.{has_peer, state_from}
use Rattle.app_connection.specs.Worlds.{said}
use Rattle.app_socket.specs.declared.flow.Flow.{Flow}
use Rattle.app_socket.specs.Resends.{BacksOff, IsArmed, IsSound, SendsFirst, SendsNone}
use Rattle.app_socket.specs.Times.{later}

pub returns-in_default-clause-goes : goal.returns-in_default-clause-goes
returns-in_default-clause-goes c = λ there back consumed buffer stand.
    let old = c.args.self.now.connection in
    let new = c.piece.new.self.connection in
    goes_at there back consumed new c.args.outgoing.now buffer None (stand_as there back consumed old new c.args.outgoing.now buffer (ap (λ (x : Socket). x.connection) c.piece.ensures.same) stand) tt

pub returns-clause-goes : goal.returns-clause-goes
returns-clause-goes c =
    subst (λ (x : Connection). GoesFrom x c.cut.new.self.connection c.args.outgoing.now (option_map said c.cut.result)) (ap (λ (x : Socket). x.connection) c.piece.ensures.same) c.cut.ensures.goes

-- a connection that is the same
only_same : (c d : Connection) → d ≡ c → d ≡ record c { sending = record c.sending { flight = d.sending.flight } }
only_same c d is = subst (λ (x : Connection). x ≡ record c { sending = record c.sending { flight = x.sending.flight } }) (sym is) refl

pub returns-in_default-clause-resends : goal.returns-in_default-clause-resends
returns-in_default-clause-resends c = λ opened has.
    let old = c.args.self.now in
    let new = c.piece.new.self in
    let fits = c.requires.out in
    let same : new.connection ≡ old.connection = ap (λ (x : Socket). x.connection) c.piece.ensures.same in
    record {
      expires = λ some due probed. c.in_default.ensures.expires _ fits some due probed;
      backs_off = λ flight some due probed. absurd (c.in_default.ensures.expires _ fits some due probed);
      slows = λ window flight some due probed. absurd (c.in_default.ensures.expires _ fits some due probed);
      saves = λ window flight some due probed. absurd (c.in_default.ensures.expires _ fits some due probed);
      free = λ some due probing. c.piece.ensures.free _ fits some due probing;
      probed = λ some due. c.piece.ensures.probed _ fits some due;
      still = λ small due. c.piece.ensures.rto small due;
      calm = c.piece.ensures.calm;
      idle = c.piece.ensures.idle _ fits;
      again = λ some first. c.in_default.ensures.again first;
      hole = λ offset count few sound small due resend calm is text less. c.in_default.ensures.hole _ offset count fits small due resend calm is text less;
      armed = λ some. c.piece.ensures.armed _ fits some;
      held = λ few some sound none. c.in_default.ensures.held _ fits refl;
      sound = λ few sound. subst (λ (n : ℕ). IsSound new.flow n) (sym (ap (λ (x : Connection). x.sending.flight) same)) (c.piece.ensures.sound old.connection.sending.flight sound);
      stays = c.piece.ensures.stays;
      patience = c.piece.ensures.patience _ fits;
      lasts = c.piece.ensures.lasts;
      agreed = ap (λ (x : Socket). x.agreed) c.piece.ensures.same;
      quiet = λ none. same;
      only = only_same old.connection new.connection same;
    }

pub returns-clause-short : goal.returns-clause-short
returns-clause-short c = λ opened. c.cut.ensures.short (ap (λ (x : Socket). x.connection.phase) c.piece.ensures.same ∙ opened) _ _ c.in-Some.ensures.within

-- a segment with items goes
goes_some : (o : Option Segment) → MatchOption o ⊥ (λ s. 0 < len_of s) → SendsNone o → ⊥
goes_some None some none = some
goes_some (Some s) some none = omega (arith, some, none)

-- the number of a segment that goes
hole_at : (o : Option Segment) (n m : ℕ) → n ≡ m → MatchOption o ⊥ (λ s. 0 < len_of s) → IfSome o (λ s. s.number ≡ n) → MatchOption o ⊥ (λ s. s.number ≡ m)
hole_at None n m same some number = some
hole_at (Some s) n m same some number = number ∙ same

-- where no items went nothing is in flight that was not before
quiet_as : (o : Option Segment) (old new : Connection) → IfSome o (λ s. 0 < len_of s) → (o ≡ None → new ≡ old) → SendsNone o → new ≡ old
quiet_as None old new some still none = still refl
quiet_as (Some s) old new some still none = absurd (omega (arith, some, none))

pub returns-clause-resends : goal.returns-clause-resends
returns-clause-resends c = λ opened has.
    let old = c.args.self.now in
    let mid = c.piece.new.self in
    let new = c.cut.new.self in
    let p = c.in-Some.piece in
    let outgoing = c.args.outgoing.now in
    let fits = c.requires.out in
    let same : mid.connection ≡ old.connection = ap (λ (x : Socket). x.connection) c.piece.ensures.same in
    let First : Connection → Type 0 = λ (x : Connection). x.phase ≡ Open → has_peer (state_from x) ≡ true → 0 < p.count → p.offset ≡ 0 → 0 < count_of x.sending → SendsFirst x.sending new.connection.sending outgoing c.cut.result in
    let first = subst First same c.cut.ensures.first opened has c.in-Some.ensures.within.some in
    let Sends : Connection → Type 0 = λ (x : Connection). x.phase ≡ Open → has_peer (state_from x) ≡ true → 0 < p.count → p.offset ≤ x.sending.flight → p.offset < count_of x.sending → MatchOption c.cut.result ⊥ (λ s. 0 < len_of s) in
    let sends = subst Sends same c.cut.ensures.some opened has c.in-Some.ensures.within.some in
    let Sound : Connection → Type 0 = λ (x : Connection). x.phase ≡ Open → p.offset ≤ x.sending.flight → p.offset < count_of x.sending → IsSound mid.flow x.sending.flight → IsSound new.flow new.connection.sending.flight in
    let stays = subst Sound same c.cut.ensures.sound opened in
    record {
      expires = λ some due probed. first (c.in-Some.ensures.expires _ fits some due probed) some;
      backs_off = λ flight some due probed.
          subst (λ (r : Rto). BacksOff old.flow.rto r) (sym (ap (λ (f : Flow). f.rto) c.cut.ensures.flow)) ((c.piece.ensures.times_out _ fits some due probed).backs_off flight);
      slows = λ window flight some due probed. ap (λ (f : Flow). sender_of f.congestion) c.cut.ensures.flow ∙ (c.piece.ensures.times_out _ fits some due probed).slows flight window;
      saves = λ window flight some due probed. ap (λ (f : Flow). f.undo) c.cut.ensures.flow ∙ (c.piece.ensures.times_out _ fits some due probed).saves flight window;
      free = λ some due probing. ap (λ (f : Flow). f.congestion) c.cut.ensures.flow ∙ c.piece.ensures.free _ fits some due probing;
      probed = λ some due. ap (λ (f : Flow). f.is_probed) c.cut.ensures.flow ∙ c.piece.ensures.probed _ fits some due;
      still = λ small due. ap (λ (f : Flow). f.rto) c.cut.ensures.flow ∙ c.piece.ensures.rto small due;
      calm = λ small due.
          let before = c.piece.ensures.calm small due in
          (ap (λ (f : Flow). f.congestion.phase) c.cut.ensures.flow ∙ before.0, ap (λ (f : Flow). f.congestion.duplicates) c.cut.ensures.flow ∙ before.1);
      idle = λ some none small.
          let before = c.piece.ensures.idle _ fits some none small in
          let flow = ap (λ (f : Flow). f.congestion) c.cut.ensures.flow in
          record { idle = λ is. ap sender_of flow ∙ before.idle is; busy = λ is. flow ∙ before.busy is };
      again = λ some resend. first (c.in-Some.ensures.again resend) some;
      hole = λ offset count few sound small due resend calm is text less.
          let place : p.offset ≡ offset =
          c.in-Some.ensures.hole _ offset count fits small due resend calm is text
          (subst (λ (n : ℕ). offset < min old.connection.wnd n) (ap (λ (f : Flow). f.congestion.cwnd) c.cut.ensures.flow) less)
          in
          let before : offset + count < old.connection.sending.flight = sound.sacked (offset + count) is.next in
          let Number : Connection → Type 0 = λ (x : Connection). x.phase ≡ Open → p.offset ≤ x.sending.flight → p.offset < count_of x.sending → IfSome c.cut.result (λ s. s.number ≡ (x.sending.una + p.offset) % 4294967296) in
          let number = subst Number same c.cut.ensures.number opened (omega arith) (omega arith) in
          hole_at c.cut.result _ _ (ap (λ (n : ℕ). (old.connection.sending.una + n) % 4294967296) place) (sends (omega arith) (omega arith)) number;
      armed = λ some. subst (λ (t : Option ℕ). IsArmed old.timers.resend_at t c.args.now) (sym (ap (λ (x : Socket). x.timers.resend_at) c.cut.ensures.same)) (c.piece.ensures.armed _ fits some);
      held = λ few some sound none. let place = c.in-Some.ensures.place _ fits some few sound in absurd (goes_some c.cut.result (sends place.0 place.1) none);
      sound = λ few sound. elim (cases_lt 0 (count_of old.connection.sending)) [
        | inl some ↦ (let place = c.in-Some.ensures.place _ fits some few sound in stays place.0 place.1 (c.piece.ensures.sound old.connection.sending.flight sound))
        | inr none ↦
            let empty : count_of old.connection.sending ≡ 0 = omega arith in
            let Nothing : Connection → Type 0 = λ (x : Connection). x.phase ≡ Open → count_of x.sending ≡ 0 → c.cut.result ≡ None in
            let still : new ≡ mid = c.cut.ensures.none (subst Nothing same c.cut.ensures.nothing opened empty) in
            subst (λ (x : Socket). IsSound x.flow x.connection.sending.flight) (sym still)
            (subst (λ (x : Connection). IsSound mid.flow x.sending.flight) (sym same) (c.piece.ensures.sound old.connection.sending.flight sound))
      ];
      stays = λ probed. ap (λ (f : Flow). f.is_probed) c.cut.ensures.flow ∙ c.piece.ensures.stays probed;
      patience = λ some. patience_on old.timers.resend_at _ _ _ (ap (λ (x : Socket). x.timers.ends_at) c.cut.ensures.same) (c.piece.ensures.patience _ fits some);
      lasts = subst (λ (n : ℕ). min old.timers.ends_at (later c.args.now 300000) ≤ n) (sym (ap (λ (x : Socket). x.timers.ends_at) c.cut.ensures.same)) c.piece.ensures.lasts;
      agreed = ap (λ (x : Socket). x.agreed) c.cut.ensures.same ∙ ap (λ (x : Socket). x.agreed) c.piece.ensures.same;
      quiet = λ none. quiet_as c.cut.result mid.connection new.connection (subst (λ (x : Connection). x.phase ≡ Open → IfSome c.cut.result (λ s. 0 < len_of s)) same c.cut.ensures.items opened) (λ is. ap (λ (x : Socket). x.connection) (c.cut.ensures.none is)) none ∙ same;
      only = subst (λ (x : Connection). new.connection ≡ record x { sending = record x.sending { flight = new.connection.sending.flight } }) same c.cut.ensures.only;
    }
