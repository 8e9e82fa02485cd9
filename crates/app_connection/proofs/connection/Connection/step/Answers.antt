use Rattle.std.proofs.Common.{◌≡◌, ◌⊎◌, inl, inr, refl, sym, ◌∙◌, subst, ap, ℕ, ◌<◌, List, [], Bool, true, false, length, arith}
use Rattle.std.specs.Prelude.{Option, Some, None, is_some, ◌==◌, ◌&&◌, IfSome, not, option_map, if◌then◌else◌}
use Rattle.tcp_stream.specs.Network.{World}
use Rattle.tcp_stream.specs.Stands.{Stands, room_of}
use Rattle.tcp_stream.specs.declared.receiving.Receiving.{Receiving}
use Rattle.tcp_stream.specs.declared.sending.Sending.{Sending}
use Rattle.app_connection.specs.declared.step.Event.{Event}
use Rattle.app_connection.specs.declared.step.Event.TheVariants as event
use Rattle.app_connection.specs.declared.state.Phase.{Phase}
use Rattle.app_connection.specs.declared.state.Phase.TheVariants as phase
use Rattle.app_connection.specs.declared.connection.Connection.{Connection}
use Rattle.app_connection.specs.declared.segment.Reply.{Reply}
use Rattle.app_connection.specs.declared.segment.Segment.{Segment}
use Rattle.app_connection.specs.declared.state.State.{State}
use Rattle.app_connection.specs.declared.state.State.TheVariants as state
use Rattle.app_connection.specs.Endpoints.{endpoint_in, endpoint_of, control_of, len_of, one, spoken, refused_by, acknowledgement_of, has_items, is_bare}
use Rattle.app_connection.specs.Events.{ComesWithoutReset, IsMove, IsSending, begins, brings_bare, brings_items, is_answered, GetsBy, HearsBy, KeepsNext, TakesBy}
use Rattle.app_connection.specs.SetUp.{Endpoint, In_closed, In_syn_sent, Control, hears}
use Rattle.app_connection.specs.States.{has_peer, state_from}
use Rattle.app_connection.specs.Worlds.{IsAnswered, replied, said}
use Rattle.app_connection.proofs.Stepping.{said_as, steps_abort, steps_arrives, steps_as, steps_close, steps_listen, steps_open, steps_send}
use Rattle.app_connection.proofs.connection.Connection.step.Goals as goal
use Rattle.app_connection.proofs.connection.Connection.step.Goals.{in-Open, in-Arrives, in-Abort}

either : (b : Bool) → (b ≡ true) ⊎ (b ≡ false)
either true = inl refl
either false = inr refl

pub returns-in-Listen-clause-steps : goal.returns-in-Listen-clause-steps
returns-in-Listen-clause-steps c =
    let old = c.args.self.now in
    let new = c.listen.new.self in
    steps_as old new new c.args.outgoing.now c.args.incoming.now c.args.incoming.now c.args.incoming.now event.Listen c.args.event None None refl refl c.in-Listen.is refl
    (steps_listen old new c.args.outgoing.now c.args.incoming.now c.listen.ensures.sending c.listen.ensures.receiving c.listen.ensures.listens c.listen.ensures.stays)

pub returns-in-Send-clause-steps : goal.returns-in-Send-clause-steps
returns-in-Send-clause-steps c =
    let old = c.args.self.now in
    let new = c.send.new.self in
    let e = event.Send c.in-Send.offset c.in-Send.count in
    let o = option_map said c.send.result in
    steps_as old new new c.args.outgoing.now c.args.incoming.now c.args.incoming.now c.args.incoming.now e c.args.event o o refl refl c.in-Send.is refl
    (steps_send old new c.args.outgoing.now c.args.incoming.now c.in-Send.offset c.in-Send.count c.send.result c.send.ensures.alone c.send.ensures.goes)

pub returns-in-Close-clause-steps : goal.returns-in-Close-clause-steps
returns-in-Close-clause-steps c =
    let old = c.args.self.now in
    let new = c.close.new.self in
    steps_as old new new c.args.outgoing.now c.args.incoming.now c.args.incoming.now c.args.incoming.now event.Close c.args.event None None refl refl c.in-Close.is refl
    (steps_close old new c.args.outgoing.now c.args.incoming.now c.close.ensures.same c.close.ensures.phase c.close.ensures.state c.close.ensures.stays c.close.ensures.waits)

pub returns-clause-steps : goal.returns-clause-steps
returns-clause-steps c =
    let old = c.args.self.now in
    let out = c.args.outgoing.now in
    let before = c.args.incoming.now in
    let o = option_map said c.without_text.result in
    let to : o ≡ option_map replied c.match-event.reply = said_as c.without_text.result c.match-event.reply c.without_text.ensures.text c.without_text.ensures.spoken in
    elim c.match-event.branch [
      | in-Open w ↦
          let it = w.open-reply in
          steps_as old it.new.self c.match-event.self out before before c.match-event.incoming (event.Open w.in-Open.iss) c.args.event (option_map replied it.result) o w.self-is w.incoming-is w.in-Open.is
          (to ∙ ap (λ (x : Option Reply). option_map replied x) w.reply-is)
          (steps_open old it.new.self out before w.in-Open.iss it.result it.ensures.opens it.ensures.syn it.ensures.begins it.ensures.stays it.ensures.none)
      | in-Arrives w ↦
          let it = w.on_segment-reply in
          let s = w.in-Arrives.segment in
          steps_as old it.new.self c.match-event.self out before it.new.incoming c.match-event.incoming (event.Arrives s w.in-Arrives.fresh) c.args.event (option_map replied it.result) o w.self-is w.incoming-is w.in-Arrives.is
          (to ∙ ap (λ (x : Option Reply). option_map replied x) w.reply-is)
          (steps_arrives old it.new.self out before it.new.incoming s w.in-Arrives.fresh it.result it.ensures.rests it.ensures.hears it.ensures.goes)
      | in-Abort w ↦
          let it = w.abort-reply in
          steps_as old it.new.self c.match-event.self out before before c.match-event.incoming event.Abort c.args.event (option_map replied it.result) o w.self-is w.incoming-is w.in-Abort.is
          (to ∙ ap (λ (x : Option Reply). option_map replied x) w.reply-is)
          (steps_abort old it.new.self out before it.result it.ensures.endpoint it.ensures.sending it.ensures.receiving it.ensures.reset)
    ]

is_open : (p : Phase) → (p ≡ phase.Open) ⊎ (p ≡ phase.Open → ⊥)
is_open phase.Closed = inr (λ is. absurd (cc))
is_open phase.Listen = inr (λ is. absurd (cc))
is_open phase.SynSent = inr (λ is. absurd (cc))
is_open phase.SynReceived = inr (λ is. absurd (cc))
is_open phase.Open = inl refl

-- an endpoint that is established hears nothing of the set-up
hears_open : (p : Phase) (passive : Bool) (iss irs : ℕ) (c : Control) (window fresh : ℕ) → p ≡ phase.Open → hears (endpoint_in p passive iss irs) c window fresh ≡ endpoint_in p passive iss irs
hears_open phase.Closed passive iss irs c window fresh is = absurd (cc)
hears_open phase.Listen passive iss irs c window fresh is = absurd (cc)
hears_open phase.SynSent passive iss irs c window fresh is = absurd (cc)
hears_open phase.SynReceived passive iss irs c window fresh is = absurd (cc)
hears_open phase.Open passive iss irs c window fresh is = refl

moves_as : (e f : Event) (window : ℕ) (old new other : Endpoint) → e ≡ f → new ≡ other → IsMove f window old other → IsMove e window old new
moves_as e f window old new other is same move =
    subst (λ (x : Event). IsMove x window old new) (sym is) (subst (λ (x : Endpoint). IsMove f window old x) (sym same) move)

pub returns-clause-moves : goal.returns-clause-moves
returns-clause-moves c =
    let old = c.args.self.now in
    let window = room_of old.receiving (length c.args.incoming.now) in
    elim c.match-event.branch [
      | in-Open w ↦
          let new = w.open-reply.new.self in
          let move : (endpoint_of new ≡ endpoint_of old) ⊎ (endpoint_of new ≡ In_syn_sent w.in-Open.iss) = elim (either (has_peer (state_from old))) [
            | inl has ↦ inl (ap endpoint_of (w.open-reply.ensures.stays has))
            | inr none ↦ inr (w.open-reply.ensures.opens none)
          ] in
          moves_as c.args.event (event.Open w.in-Open.iss) window (endpoint_of old) (endpoint_of c.match-event.self) (endpoint_of new) w.in-Open.is (ap endpoint_of w.self-is) move
      | in-Arrives w ↦
          let new = w.on_segment-reply.new.self in
          let s = w.in-Arrives.segment in
          let fresh = w.in-Arrives.fresh in
          let move : (endpoint_of new ≡ hears (endpoint_of old) (control_of s.now) window fresh) ⊎ (endpoint_of new ≡ In_closed) = elim (is_open old.phase) [
            | inl opened ↦ (elim (w.on_segment-reply.ensures.acts opened) [
              | inl same ↦ inl (same ∙ sym (hears_open old.phase old.is_passive old.iss old.irs (control_of s.now) window fresh opened))
              | inr shut ↦ inr shut
            ])
            | inr other ↦ inl (w.on_segment-reply.ensures.set_up other)
          ] in
          moves_as c.args.event (event.Arrives s fresh) window (endpoint_of old) (endpoint_of c.match-event.self) (endpoint_of new) w.in-Arrives.is (ap endpoint_of w.self-is) move
      | in-Abort w ↦
          let new = w.abort-reply.new.self in
          moves_as c.args.event event.Abort window (endpoint_of old) (endpoint_of c.match-event.self) (endpoint_of new) w.in-Abort.is (ap endpoint_of w.self-is) w.abort-reply.ensures.endpoint
    ]

-- what holds of each reply holds of the segment that says it
of_reply : (P : Reply → Type 0) (o : Option Segment) (r : Option Reply) → spoken o ≡ r → IfSome r P → IfSome o (λ s. P (record { number = s.number; ack = s.ack; syn = s.syn; rst = s.rst }))
of_reply P None r is h = tt
of_reply P (Some s) r is h = let said : IfSome (spoken (Some s)) P = subst (λ (x : Option Reply). IfSome x P) (sym is) h in said

if_some : (P Q : Reply → Type 0) (o : Option Reply) → ((r : Reply) → P r → Q r) → IfSome o P → IfSome o Q
if_some P Q None f h = tt
if_some P Q (Some r) f h = f r h

-- no reply
if_none : (P : Reply → Type 0) (o : Option Reply) → o ≡ None → IfSome o P
if_none P o is = subst (λ (x : Option Reply). IfSome x P) (sym is) tt

-- a segment without SYN, text and FIN takes no sequence number
takes_none : (s : Segment) → s.syn ≡ false → (s.payload.now ≡ []) × (s.fin ≡ false) → len_of s ≡ 0
takes_none s syn text = let t : length s.payload.now ≡ 0 = ap length text.0 in omega (arith, t, ap one syn, ap one text.1)

bare_of : (o : Option Segment) → IfSome o (λ s. s.syn ≡ false) → IfSome o (λ s. (s.payload.now ≡ []) × (s.fin ≡ false)) → IfSome o (λ s. len_of s ≡ 0)
bare_of None syn text = tt
bare_of (Some s) syn text = takes_none s syn text

takes_none_if : (P : Segment → Type 0) (o : Option Segment) → IfSome o (λ s. len_of s ≡ 0) → IfSome o (λ s. 0 < len_of s → P s)
takes_none_if P None none = tt
takes_none_if P (Some s) none = λ some. absurd (omega (arith, some, none))

-- an endpoint in CLOSED answers without SYN
refused_by_no_syn : (s : Segment) (ack : Option ℕ) → (refused_by s ack).syn ≡ false
refused_by_no_syn s (Some ack) = refl
refused_by_no_syn s None = refl

refused_no_syn : (s : Segment) (rst : Bool) → IfSome (if rst then None else Some (refused_by s s.ack)) (λ r. r.syn ≡ false)
refused_no_syn s true = tt
refused_no_syn s false = refused_by_no_syn s s.ack

is_shut : (s : State) → (s ≡ state.Closed) ⊎ (s ≡ state.Closed → ⊥)
is_shut state.Closed = inl refl
is_shut state.Listen = inr (λ is. absurd (cc))
is_shut state.SynSent = inr (λ is. absurd (cc))
is_shut state.SynReceived = inr (λ is. absurd (cc))
is_shut state.Established = inr (λ is. absurd (cc))
is_shut state.FinWait1 = inr (λ is. absurd (cc))
is_shut state.FinWait2 = inr (λ is. absurd (cc))
is_shut state.CloseWait = inr (λ is. absurd (cc))
is_shut state.Closing = inr (λ is. absurd (cc))
is_shut state.LastAck = inr (λ is. absurd (cc))
is_shut state.TimeWait = inr (λ is. absurd (cc))

-- an active open of an endpoint with a peer begins nothing
has_of_open : (e : Event) (iss : ℕ) (has : Bool) → e ≡ event.Open iss → begins e has ≡ false → has ≡ true
has_of_open e iss has is none =
    let h : not has ≡ false = subst (λ (x : Event). begins x has ≡ false) is none in
    negated has h
  where
    negated : (b : Bool) → not b ≡ false → b ≡ true
    negated true is = refl
    negated false is = absurd (cc)

pub returns-clause-bare : goal.returns-clause-bare
returns-clause-bare c = λ opened none same.
    let old = c.args.self.now in
    let no_syn : IfSome c.match-event.reply (λ r. r.syn ≡ false) = elim c.match-event.branch [
      | in-Open w ↦ if_none (λ r. r.syn ≡ false) c.match-event.reply (w.reply-is ∙ w.open-reply.ensures.none (has_of_open c.args.event w.in-Open.iss (has_peer (state_from old)) w.in-Open.is same))
      | in-Arrives w ↦
          let new = w.on_segment-reply.new.self in
          let s = w.in-Arrives.segment in
          let h : IfSome w.on_segment-reply.result (λ r. r.syn ≡ false) = elim (is_shut (state_from old)) [
            | inl shut ↦ subst (λ (x : Option Reply). IfSome x (λ r. r.syn ≡ false)) (sym (w.on_segment-reply.ensures.closed shut)) (refused_no_syn s.now s.now.rst)
            | inr other ↦ if_some (λ r. r ≡ acknowledgement_of new) (λ r. r.syn ≡ false) w.on_segment-reply.result (λ r is. ap (λ (x : Reply). x.syn) is) (w.on_segment-reply.ensures.replies opened other)
          ] in
          subst (λ (x : Option Reply). IfSome x (λ r. r.syn ≡ false)) (sym w.reply-is) h
      | in-Abort w ↦ subst (λ (x : Option Reply). IfSome x (λ r. r.syn ≡ false)) (sym w.reply-is) w.abort-reply.ensures.syn
    ] in
    bare_of c.without_text.result (of_reply (λ r. r.syn ≡ false) c.without_text.result c.match-event.reply c.without_text.ensures.spoken no_syn) c.without_text.ensures.text

-- no other event has a segment sent
sends_none : (e f : Event) → e ≡ f → (IsSending f → ⊥) → IsSending e → ⊥
sends_none e f is none sending = none (subst IsSending is sending)

pub returns-clause-sends : goal.returns-clause-sends
returns-clause-sends c = λ opened same.
    let none : IsSending c.args.event → ⊥ = elim c.match-event.branch [
      | in-Open w ↦ sends_none c.args.event (event.Open w.in-Open.iss) w.in-Open.is (λ x. x)
      | in-Arrives w ↦ sends_none c.args.event (event.Arrives w.in-Arrives.segment w.in-Arrives.fresh) w.in-Arrives.is (λ x. x)
      | in-Abort w ↦ sends_none c.args.event event.Abort w.in-Abort.is (λ x. x)
    ] in
    takes_none_if _ c.without_text.result (returns-clause-bare c opened none same)

-- the acknowledgement of a reply is that of the receiving half
abbrev Acknowledges : Receiving → List ℕ → Reply → Type 0
Acknowledges receiving incoming r = (back : World) (consumed : List ℕ) → Stands back consumed receiving incoming → IsAnswered back r

acknowledges_as : (c d : Connection) (old new : List ℕ) (o q : Option Reply) → d ≡ c → new ≡ old → q ≡ o → IfSome o (Acknowledges c.receiving old) → IfSome q (Acknowledges d.receiving new)
acknowledges_as c d old new o q is same equal h =
    subst (λ (x : Option Reply). IfSome x (Acknowledges d.receiving new)) (sym equal)
    (subst (λ (l : List ℕ). IfSome o (Acknowledges d.receiving l)) (sym same) (subst (λ (x : Connection). IfSome o (Acknowledges x.receiving old)) (sym is) h))

-- the SYN of an active open acknowledges nothing
syn_acknowledges : (receiving : Receiving) (incoming : List ℕ) (iss : ℕ) (o : Option Reply) → o ≡ Some (record { number = iss; ack = None; syn = true; rst = false }) → IfSome o (Acknowledges receiving incoming)
syn_acknowledges receiving incoming iss o is =
    let h : Acknowledges receiving incoming (record { number = iss; ack = None; syn = true; rst = false }) = λ back consumed stands. inr tt in
    subst (λ (x : Option Reply). IfSome x (Acknowledges receiving incoming)) (sym is) h

pub returns-clause-answers : goal.returns-clause-answers
returns-clause-answers c = λ opened.
    let old = c.args.self.now in
    let incoming = c.args.incoming.now in
    let acks : IfSome c.match-event.reply (Acknowledges c.match-event.self.receiving c.match-event.incoming) = elim c.match-event.branch [
      | in-Open w ↦
          let new = w.open-reply.new.self in
          let h : IfSome w.open-reply.result (Acknowledges new.receiving incoming) = elim (either (has_peer (state_from old))) [
            | inl has ↦ if_none (Acknowledges new.receiving incoming) w.open-reply.result (w.open-reply.ensures.none has)
            | inr none ↦ syn_acknowledges new.receiving incoming w.in-Open.iss w.open-reply.result (w.open-reply.ensures.syn none)
          ] in
          acknowledges_as new c.match-event.self incoming c.match-event.incoming w.open-reply.result c.match-event.reply w.self-is w.incoming-is w.reply-is h
      | in-Arrives w ↦
          let new = w.on_segment-reply.new in
          acknowledges_as new.self c.match-event.self new.incoming c.match-event.incoming w.on_segment-reply.result c.match-event.reply w.self-is w.incoming-is w.reply-is (w.on_segment-reply.ensures.answers opened)
      | in-Abort w ↦
          let new = w.abort-reply.new.self in
          let h : IfSome w.abort-reply.result (Acknowledges new.receiving incoming) =
          if_some (λ r. r.rst ≡ true) (Acknowledges new.receiving incoming) w.abort-reply.result (λ r rst back consumed stands. inl rst) w.abort-reply.ensures.reset
          in
          acknowledges_as new c.match-event.self incoming c.match-event.incoming w.abort-reply.result c.match-event.reply w.self-is w.incoming-is w.reply-is h
    ] in
    of_reply (Acknowledges c.match-event.self.receiving c.match-event.incoming) c.without_text.result c.match-event.reply c.without_text.ensures.spoken acks

-- both parts of a conjunction
both : (a b : Bool) → (a && b) ≡ true → (a ≡ true) × (b ≡ true)
both true true is = (refl, refl)
both true false is = absurd (cc)
both false b is = absurd (cc)

negated : (b : Bool) → not b ≡ true → b ≡ false
negated false is = refl
negated true is = absurd (cc)

not_zero : (n : ℕ) → not (n == 0) ≡ true → n ≡ 0 → ⊥
not_zero n some none = let h : false ≡ true = subst (λ (x : ℕ). not (x == 0) ≡ true) none some in absurd (cc)

-- the reply to an acknowledgement
reply_of_ack : (ack : Option ℕ) (o : Option Reply) (r : Reply) → is_some ack ≡ true → IfSome ack (λ number. o ≡ Some r) → o ≡ Some r
reply_of_ack None o r is h = absurd (cc)
reply_of_ack (Some number) o r is h = h

pub returns-clause-to_items : goal.returns-clause-to_items
returns-clause-to_items c = λ opened other synced items.
    elim c.match-event.branch [
      | in-Open w ↦ let h : false ≡ true = subst (λ (x : Event). brings_items x ≡ true) w.in-Open.is items in absurd (cc)
      | in-Arrives w ↦
          let s = w.in-Arrives.segment.now in
          let h : has_items s ≡ true = subst (λ (x : Event). brings_items x ≡ true) w.in-Arrives.is items in
          let parts = both (not s.rst) (not (len_of s == 0) && is_some s.ack) h in
          let rest = both (not (len_of s == 0)) (is_some s.ack) parts.1 in
          let reply : w.on_segment-reply.result ≡ Some (acknowledgement_of w.on_segment-reply.new.self) =
          reply_of_ack s.ack w.on_segment-reply.result (acknowledgement_of w.on_segment-reply.new.self) rest.1
          (w.on_segment-reply.ensures.answered opened other synced (negated s.rst parts.0) (not_zero (len_of s) rest.0))
          in
          c.without_text.ensures.spoken ∙ w.reply-is ∙ reply ∙ ap (λ (x : Connection). Some (acknowledgement_of x)) (sym w.self-is)
      | in-Abort w ↦ let h : false ≡ true = subst (λ (x : Event). brings_items x ≡ true) w.in-Abort.is items in absurd (cc)
    ]

pub returns-clause-to_bare : goal.returns-clause-to_bare
returns-clause-to_bare c = λ opened other bare.
    let old = c.args.self.now in
    let window = room_of old.receiving (length c.args.incoming.now) in
    elim c.match-event.branch [
      | in-Open w ↦ let h : false ≡ true = subst (λ (x : Event). brings_bare x ≡ true) w.in-Open.is bare in absurd (cc)
      | in-Arrives w ↦
          let s = w.in-Arrives.segment in
          let h : is_bare s.now ≡ true = subst (λ (x : Event). brings_bare x ≡ true) w.in-Arrives.is bare in
          let reply = w.on_segment-reply.ensures.bare opened other h in
          let same = ap (λ (x : Event). if is_answered x old window then Some (acknowledgement_of old) else None) w.in-Arrives.is in
          c.without_text.ensures.spoken ∙ w.reply-is ∙ reply ∙ sym same
      | in-Abort w ↦ let h : false ≡ true = subst (λ (x : Event). brings_bare x ≡ true) w.in-Abort.is bare in absurd (cc)
    ]

pub returns-clause-still : goal.returns-clause-still
returns-clause-still c = λ opened bare.
    elim c.match-event.branch [
      | in-Open w ↦ let h : false ≡ true = subst (λ (x : Event). brings_bare x ≡ true) w.in-Open.is bare in absurd (cc)
      | in-Arrives w ↦
          let h : is_bare w.in-Arrives.segment.now ≡ true = subst (λ (x : Event). brings_bare x ≡ true) w.in-Arrives.is bare in
          ap (λ (x : Connection). x.receiving) w.self-is ∙ w.on_segment-reply.ensures.still opened h
      | in-Abort w ↦ let h : false ≡ true = subst (λ (x : Event). brings_bare x ≡ true) w.in-Abort.is bare in absurd (cc)
    ]

takes_by : (e f : Event) (old : Connection) (window : ℕ) (new other : Connection) → e ≡ f → new ≡ other → TakesBy f old window other → TakesBy e old window new
takes_by e f old window new other is same takes =
    subst (λ (x : Event). TakesBy x old window new) (sym is) (subst (λ (x : Connection). TakesBy f old window x) (sym same) takes)

pub returns-clause-takes : goal.returns-clause-takes
returns-clause-takes c = λ opened shut synced.
    let old = c.args.self.now in
    let window = room_of old.receiving (length c.args.incoming.now) in
    let new = c.match-event.self in
    elim c.match-event.branch [
      | in-Open w ↦ takes_by c.args.event (event.Open w.in-Open.iss) old window new new w.in-Open.is refl tt
      | in-Arrives w ↦
          takes_by c.args.event (event.Arrives w.in-Arrives.segment w.in-Arrives.fresh) old window new w.on_segment-reply.new.self w.in-Arrives.is w.self-is
          (w.on_segment-reply.ensures.takes opened shut synced)
      | in-Abort w ↦ takes_by c.args.event event.Abort old window new new w.in-Abort.is refl tt
    ]

hears_by : (e f : Event) (old : Connection) (window : ℕ) (new other : Connection) (outgoing : List ℕ) → e ≡ f → new ≡ other → HearsBy f old window other outgoing → HearsBy e old window new outgoing
hears_by e f old window new other outgoing is same hears =
    subst (λ (x : Event). HearsBy x old window new outgoing) (sym is) (subst (λ (x : Connection). HearsBy f old window x outgoing) (sym same) hears)

pub returns-clause-stays : goal.returns-clause-stays
returns-clause-stays c = λ opened unreset.
    elim c.match-event.branch [
      | in-Open w ↦ let h : ⊥ = subst ComesWithoutReset w.in-Open.is unreset in absurd h
      | in-Arrives w ↦ ap endpoint_of w.self-is ∙ w.on_segment-reply.ensures.keeps opened (subst ComesWithoutReset w.in-Arrives.is unreset)
      | in-Abort w ↦ let h : ⊥ = subst ComesWithoutReset w.in-Abort.is unreset in absurd h
    ]

pub returns-clause-hears : goal.returns-clause-hears
returns-clause-hears c = λ opened shut synced.
    let old = c.args.self.now in
    let window = room_of old.receiving (length c.args.incoming.now) in
    let new = c.match-event.self in
    let outgoing = c.args.outgoing.now in
    elim c.match-event.branch [
      | in-Open w ↦ hears_by c.args.event (event.Open w.in-Open.iss) old window new new outgoing w.in-Open.is refl tt
      | in-Arrives w ↦
          hears_by c.args.event (event.Arrives w.in-Arrives.segment w.in-Arrives.fresh) old window new w.on_segment-reply.new.self outgoing w.in-Arrives.is w.self-is
          (w.on_segment-reply.ensures.heard opened shut synced)
      | in-Abort w ↦ hears_by c.args.event event.Abort old window new new outgoing w.in-Abort.is refl tt
    ]

gets_by : (e f : Event) (old : Connection) (room : ℕ) (new other : Receiving) (before after last : List ℕ) → e ≡ f → new ≡ other → last ≡ after → GetsBy f old room other before after → GetsBy e old room new before last
gets_by e f old room new other before after last is same equal gets =
    subst (λ (x : Event). GetsBy x old room new before last) (sym is) (subst (λ (r : Receiving). GetsBy f old room r before last) (sym same) (subst (λ (l : List ℕ). GetsBy f old room other before l) (sym equal) gets))

pub returns-clause-gets : goal.returns-clause-gets
returns-clause-gets c = λ opened shut synced.
    let old = c.args.self.now in
    let before = c.args.incoming.now in
    let room = room_of old.receiving (length before) in
    let new = c.match-event.self in
    let after = c.match-event.incoming in
    elim c.match-event.branch [
      | in-Open w ↦ gets_by c.args.event (event.Open w.in-Open.iss) old room new.receiving new.receiving before after after w.in-Open.is refl refl tt
      | in-Arrives w ↦
          let it = w.on_segment-reply in
          gets_by c.args.event (event.Arrives w.in-Arrives.segment w.in-Arrives.fresh) old room new.receiving it.new.self.receiving before it.new.incoming after w.in-Arrives.is (ap (λ (x : Connection). x.receiving) w.self-is) w.incoming-is
          (it.ensures.gets opened shut synced)
      | in-Abort w ↦ gets_by c.args.event event.Abort old room new.receiving new.receiving before after after w.in-Abort.is refl refl tt
    ]

next_by : (e f : Event) (old : Sending) (new other : Connection) → e ≡ f → new ≡ other → KeepsNext f old other.sending → KeepsNext e old new.sending
next_by e f old new other is same keeps =
    subst (λ (x : Event). KeepsNext x old new.sending) (sym is) (subst (λ (x : Connection). KeepsNext f old x.sending) (sym same) keeps)

pub returns-clause-next : goal.returns-clause-next
returns-clause-next c = λ opened.
    let old = c.args.self.now.sending in
    let new = c.match-event.self in
    elim c.match-event.branch [
      | in-Open w ↦ next_by c.args.event (event.Open w.in-Open.iss) old new new w.in-Open.is refl tt
      | in-Arrives w ↦
          next_by c.args.event (event.Arrives w.in-Arrives.segment w.in-Arrives.fresh) old new w.on_segment-reply.new.self w.in-Arrives.is w.self-is (w.on_segment-reply.ensures.flight opened)
      | in-Abort w ↦ next_by c.args.event event.Abort old new new w.in-Abort.is refl tt
    ]
