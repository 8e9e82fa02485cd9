use Rattle.std.proofs.Common.{◌≡◌, inr, refl, true, false, sym, ◌∙◌, ap, subst, length, Bool, ℕ}
use Rattle.std.specs.Prelude.{not, ◌&&◌, option_map, Option, Some, None}
use Rattle.app_connection.specs.Events.{GetsBy}
use Rattle.app_connection.specs.States.{state_from}
use Rattle.app_connection.specs.declared.connection.Connection.{Connection}
use Rattle.tcp_stream.specs.Stands.{room_of}
use Rattle.app_connection.specs.Worlds.{said}
use Rattle.app_connection.specs.declared.step.Event.TheVariants as move
use Rattle.app_options.specs.declared.agreed.Agreed.{Agreed}
use Rattle.app_options.specs.declared.timestamps.Recent.{Recent}
use Rattle.app_options.specs.Timestamps.{is_old, takes, updated}
use Rattle.app_socket.specs.Segments.{GoesForward, rejects}
use Rattle.app_socket.specs.declared.socket.Socket.{Socket}
use Rattle.app_socket.proofs.Stepping.{choice_false, choice_true, gets_scaled, stale_peer, steps_by, steps_from, steps_scaled, steps_still}
use Rattle.app_connection.specs.declared.segment.Segment.{Segment}
use Rattle.app_socket.specs.Resends.{Learns, scaled_by}
use Rattle.app_socket.specs.Times.{is_open}
use Rattle.app_socket.proofs.socket.Socket.on_arrival.Goals as goal

pub returns-then-is_stale-clause-steps : goal.returns-then-is_stale-clause-steps
returns-then-is_stale-clause-steps c =
    let self = c.args.self.now in
    let s = c.args.segment.now in
    let new = c.on_stale.new.self.connection in
    let stale : rejects self c.args.now s c.args.options.now ≡ true = sym c.is_stale.ensures ∙ c.if-is_stale.true in
    steps_by self.connection new c.args.outgoing.now c.args.incoming.now c.args.incoming.now (move.Send 0 0) _ _ (choice_true _ (move.Send 0 0) (move.Arrives c.args.segment c.args.fresh) stale)
    (steps_still self.connection new c.args.outgoing.now c.args.incoming.now (option_map said c.on_stale.result) (ap (λ (x : Socket). x.connection) c.on_stale.ensures.same)
    (stale_peer (state_from self.connection) (not s.rst && not (takes self.agreed.recent c.args.options.now.timestamp c.args.now)) stale)
    (λ there back consumed stands. c.on_stale.ensures.goes_out there back consumed c.args.incoming.now stands))

pub returns-then-counts-clause-steps : goal.returns-then-counts-clause-steps
returns-then-counts-clause-steps c =
    let self = c.args.self.now in
    let it = c.on_segment-reply in
    let s = c.args.segment in
    let stale : rejects self c.args.now s.now c.args.options.now ≡ false = sym c.is_stale.ensures ∙ c.if-is_stale.false in
    steps_by self.connection it.new.self.connection c.args.outgoing.now c.args.incoming.now it.new.incoming (move.Arrives s c.args.fresh) _ _ (choice_false _ (move.Send 0 0) (move.Arrives s c.args.fresh) stale)
    (steps_from self.connection c.agree.new.self.connection it.new.self.connection c.args.outgoing.now c.args.incoming.now it.new.incoming (move.Arrives s c.args.fresh) _ (sym (ap (λ (x : Socket). x.connection) c.agree.ensures.same))
    (steps_scaled c.agree.new.self.connection it.new.self.connection c.args.outgoing.now c.args.incoming.now it.new.incoming s _ c.scaled-scaled.result.window c.args.fresh _ c.scaled-scaled.ensures.same it.ensures.steps))

pub returns-else-counts-clause-steps : goal.returns-else-counts-clause-steps
returns-else-counts-clause-steps c =
    let self = c.args.self.now in
    let it = c.on_segment-reply in
    let s = c.args.segment in
    let stale : rejects self c.args.now s.now c.args.options.now ≡ false = sym c.is_stale.ensures ∙ c.if-is_stale.false in
    steps_by self.connection it.new.self.connection c.args.outgoing.now c.args.incoming.now it.new.incoming (move.Arrives s c.args.fresh) _ _ (choice_false _ (move.Send 0 0) (move.Arrives s c.args.fresh) stale)
    (steps_from self.connection c.agree.new.self.connection it.new.self.connection c.args.outgoing.now c.args.incoming.now it.new.incoming (move.Arrives s c.args.fresh) _ (sym (ap (λ (x : Socket). x.connection) c.agree.ensures.same))
    (steps_scaled c.agree.new.self.connection it.new.self.connection c.args.outgoing.now c.args.incoming.now it.new.incoming s _ c.scaled-scaled.result.window c.args.fresh _ c.scaled-scaled.ensures.same it.ensures.steps))

pub returns-then-counts-clause-learns : goal.returns-then-counts-clause-learns
returns-then-counts-clause-learns c = λ opened after taken.
    let same = c.agree.ensures.open opened in
    let new = c.on_segment-reply.new.self in
    let size = length c.args.incoming.now in
    let still = subst (λ (x : Socket). is_open (state_from x.connection) ≡ true) (sym same) opened in
    let learns : Learns c.agree.new.self new c.args.outgoing.now size c.args.now (scaled_by c.agree.new.self.agreed c.args.segment.now) c.args.options.now.timestamp =
    subst (λ (s : Segment). Learns c.agree.new.self new c.args.outgoing.now size c.args.now s c.args.options.now.timestamp) c.scaled-scaled.ensures.value (c.on_segment-reply.ensures.learns still after)
    in
    let is : Learns c.args.self.now new c.args.outgoing.now size c.args.now (scaled_by c.args.self.now.agreed c.args.segment.now) c.args.options.now.timestamp =
    subst (λ (x : Socket). Learns x new c.args.outgoing.now size c.args.now (scaled_by x.agreed c.args.segment.now) c.args.options.now.timestamp) same learns
    in
    record { una = is.una; sound = is.sound; hears = is.hears; restarts = is.restarts; keeps = is.keeps; armed = is.armed; lives = is.lives; lasts = is.lasts; near = is.near; partial = is.partial; undoes = is.undoes; counted = is.counted; third = is.third }

pub returns-else-counts-clause-learns : goal.returns-else-counts-clause-learns
returns-else-counts-clause-learns c = λ opened after taken.
    let same = c.agree.ensures.open opened in
    let new = c.on_segment-reply.new.self in
    let size = length c.args.incoming.now in
    let still = subst (λ (x : Socket). is_open (state_from x.connection) ≡ true) (sym same) opened in
    let learns : Learns c.agree.new.self new c.args.outgoing.now size c.args.now (scaled_by c.agree.new.self.agreed c.args.segment.now) c.args.options.now.timestamp =
    subst (λ (s : Segment). Learns c.agree.new.self new c.args.outgoing.now size c.args.now s c.args.options.now.timestamp) c.scaled-scaled.ensures.value (c.on_segment-reply.ensures.learns still after)
    in
    let is : Learns c.args.self.now new c.args.outgoing.now size c.args.now (scaled_by c.args.self.now.agreed c.args.segment.now) c.args.options.now.timestamp =
    subst (λ (x : Socket). Learns x new c.args.outgoing.now size c.args.now (scaled_by x.agreed c.args.segment.now) c.args.options.now.timestamp) same learns
    in
    record { una = is.una; sound = is.sound; hears = is.hears; restarts = is.restarts; keeps = is.keeps; armed = is.armed; lives = is.lives; lasts = is.lasts; near = is.near; partial = is.partial; undoes = is.undoes; counted = is.counted; third = is.third }

pub returns-then-counts-clause-gets : goal.returns-then-counts-clause-gets
returns-then-counts-clause-gets c = λ opened synced taken.
    let self = c.args.self.now in
    let it = c.on_segment-reply in
    let same : c.agree.new.self.connection ≡ self.connection = ap (λ (x : Socket). x.connection) c.agree.ensures.same in
    let Gets : Connection → Type 0 = λ (x : Connection). is_open (state_from x) ≡ true → x.receiving.is_open ≡ true
    → GetsBy (move.Arrives c.args.segment c.args.fresh) x (room_of x.receiving (length c.args.incoming.now)) it.new.self.connection.receiving c.args.incoming.now it.new.incoming in
    let scaled : Gets c.agree.new.self.connection = λ before opens.
    gets_scaled c.agree.new.self.connection (room_of c.agree.new.self.connection.receiving (length c.args.incoming.now)) c.args.fresh it.new.self.connection.receiving c.args.incoming.now it.new.incoming c.args.segment c.scaled-scaled.result c.scaled-scaled.result.window c.scaled-scaled.ensures.same (it.ensures.gets before opens)
    in
    subst Gets same scaled opened synced

pub returns-else-counts-clause-gets : goal.returns-else-counts-clause-gets
returns-else-counts-clause-gets c = λ opened synced taken.
    let self = c.args.self.now in
    let it = c.on_segment-reply in
    let same : c.agree.new.self.connection ≡ self.connection = ap (λ (x : Socket). x.connection) c.agree.ensures.same in
    let Gets : Connection → Type 0 = λ (x : Connection). is_open (state_from x) ≡ true → x.receiving.is_open ≡ true
    → GetsBy (move.Arrives c.args.segment c.args.fresh) x (room_of x.receiving (length c.args.incoming.now)) it.new.self.connection.receiving c.args.incoming.now it.new.incoming in
    let scaled : Gets c.agree.new.self.connection = λ before opens.
    gets_scaled c.agree.new.self.connection (room_of c.agree.new.self.connection.receiving (length c.args.incoming.now)) c.args.fresh it.new.self.connection.receiving c.args.incoming.now it.new.incoming c.args.segment c.scaled-scaled.result c.scaled-scaled.result.window c.scaled-scaled.ensures.same (it.ensures.gets before opens)
    in
    subst Gets same scaled opened synced

is_not : (b : Bool) → not b ≡ true → b ≡ false
is_not true is = absurd (cc)
is_not false is = refl

-- TS.Recent becomes a timestamp that is taken
taken_forward : (recent : Option Recent) (stamp : Option (ℕ × ℕ)) (now : ℕ) → takes recent stamp now ≡ true → GoesForward recent (updated recent stamp now) now
taken_forward None stamp now taken = refl
taken_forward (Some r) None now taken = absurd (cc)
taken_forward (Some r) (Some s) now taken = inr (is_not (is_old r s.0 now) taken)

-- a segment without RST that is not rejected in a synchronized state has a timestamp that is taken
not_rejected : (opened reset taken : Bool) → (opened && (not reset && not taken)) ≡ false → opened ≡ true → reset ≡ false → taken ≡ true
not_rejected true false true is opened unreset = refl
not_rejected true false false is opened unreset = absurd (cc)
not_rejected true true taken is opened unreset = absurd (cc)
not_rejected false reset taken is opened unreset = absurd (cc)

pub returns-then-counts-clause-recent : goal.returns-then-counts-clause-recent
returns-then-counts-clause-recent c = λ opened.
    let self = c.args.self.now in
    let now = c.args.now in
    let stamp = c.args.options.now.timestamp in
    let stale : rejects self now c.args.segment.now c.args.options.now ≡ false = sym c.is_stale.ensures ∙ c.if-is_stale.false in
    let taken : takes self.agreed.recent stamp now ≡ true = not_rejected _ _ _ stale opened (c.is_timestamp_due-counts.ensures c.if-counts.true) in
    let same : c.on_segment-reply.new.self.agreed ≡ self.agreed = c.on_segment-reply.ensures.agreed ∙ ap (λ (x : Socket). x.agreed) (c.agree.ensures.open opened) in
    let recent : c.on_timestamp.new.self.recent ≡ updated self.agreed.recent stamp now =
    ap (λ (a : Agreed). a.recent) c.on_timestamp.ensures ∙ ap (λ (a : Agreed). updated a.recent stamp now) same
    in
    subst (λ (o : Option Recent). GoesForward self.agreed.recent o now) (sym recent) (taken_forward self.agreed.recent stamp now taken)
