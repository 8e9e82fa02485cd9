-- What a step promises, for each event.
use Rattle.std.proofs.Common.{◌≡◌, ◌⊎◌, inl, inr, refl, sym, ◌∙◌, ap, subst, ℕ, List, [], ◌∷◌, Bool, true, false, Bor}
use Rattle.std.specs.Prelude.{Option, Some, None, IfSome, not, option_map}
use Rattle.std.proofs.lemmas.Bool.{false≢true}
use Rattle.tcp_stream.specs.Endpoint.{Item, Syn}
use Rattle.tcp_stream.specs.Network.{World, Close, happens}
use Rattle.tcp_stream.specs.Items.{items_of, syn_of}
use Rattle.tcp_stream.specs.Stands.{Stands}
use Rattle.tcp_stream.specs.Waits.{Waits}
use Rattle.tcp_stream.specs.declared.receiving.Receiving.{Receiving}
use Rattle.tcp_stream.specs.declared.sending.Sending.{Sending}
use Rattle.app_connection.specs.declared.connection.Connection.{Connection}
use Rattle.app_connection.specs.declared.segment.Reply.{Reply}
use Rattle.app_connection.specs.declared.segment.Segment.{Segment}
use Rattle.app_connection.specs.declared.state.Phase.{Phase}
use Rattle.app_connection.specs.declared.state.Phase.TheVariants as phase
use Rattle.app_connection.specs.declared.state.State.{State}
use Rattle.app_connection.specs.declared.state.State.TheVariants as state
use Rattle.app_connection.specs.declared.step.Event.{Event}
use Rattle.app_connection.specs.declared.step.Event.TheVariants as event
use Rattle.app_connection.specs.Endpoints.{endpoint_of, spoken}
use Rattle.app_connection.specs.Events.{called}
use Rattle.app_connection.specs.Sequence.{after}
use Rattle.app_connection.specs.SetUp.{In_closed, In_listen, In_syn_sent}
use Rattle.app_connection.specs.States.{has_peer, may_close, state_at, state_closed, state_from, state_in}
use Rattle.app_connection.specs.Steps.{Hears, IsFresh, Rests, Steps, first}
use Rattle.app_connection.specs.Worlds.{Arrives, Goes, GoesOut, IsOut, Said, Stand, replied, said}
use Rattle.app_connection.proofs.Going.{each_reply, goes_at, if_some, listen_phase, sent_phase, settled_shut, shut_phase, stand_as, stand_still}

-- a segment without text says what its reply says
only_flags : (syn : Bool) (payload : List ℕ) (fin : Bool) → payload ≡ [] → fin ≡ false → items_of syn payload fin ≡ syn_of syn
only_flags syn payload fin text not = ap (λ (l : List ℕ). items_of syn l fin) text ∙ ap (λ (b : Bool). items_of syn [] b) not ∙ whole syn
  where
    whole : (b : Bool) → items_of b [] false ≡ syn_of b
    whole true = refl
    whole false = refl

said_spoken : (o : Option Segment) → IfSome o (λ s. (s.payload.now ≡ []) × (s.fin ≡ false)) → option_map said o ≡ option_map replied (spoken o)
said_spoken None text = refl
said_spoken (Some s) text = ap (λ (l : List Item). Some (record { number = s.number; items = l; ack = s.ack; rst = s.rst })) (only_flags s.syn s.payload.now s.fin text.0 text.1)

pub said_as : (o : Option Segment) (r : Option Reply) → IfSome o (λ s. (s.payload.now ≡ []) × (s.fin ≡ false)) → spoken o ≡ r → option_map said o ≡ option_map replied r
said_as o r text is = said_spoken o text ∙ ap (λ (x : Option Reply). option_map replied x) is

-- the step at equal values
pub steps_as : (old c d : Connection) (outgoing before l m : List ℕ) (e f : Event) (o q : Option Said) → d ≡ c → m ≡ l → f ≡ e → q ≡ o → Steps old c outgoing before l e o → Steps old d outgoing before m f q
steps_as old c d outgoing before l m e f o q is same event equal steps =
    subst (λ (x : Option Said). Steps old d outgoing before m f x) (sym equal)
    (subst (λ (x : Event). Steps old d outgoing before m x o) (sym event)
    (subst (λ (x : List ℕ). Steps old d outgoing before x e o) (sym same) (subst (λ (x : Connection). Steps old x outgoing before l e o) (sym is) steps)))

-- whether there is a peer, by the phase
peer_at : (c : Connection) (p : Phase) (b : Bool) → c.phase ≡ p → ((s : State) → has_peer (state_in p s) ≡ b) → has_peer (state_from c) ≡ b
peer_at c p b is each =
    let s = state_at c.sending.is_closed (not c.sending.has_fin) c.receiving.has_fin c.is_peer_first in
    ap (λ (q : Phase). has_peer (state_in q s)) is ∙ each s

pub shut_peerless : (c : Connection) → c.phase ≡ phase.Closed → has_peer (state_from c) ≡ false
shut_peerless c is = peer_at c phase.Closed false is (λ s. refl)

pub listens_peerless : (c : Connection) → c.phase ≡ phase.Listen → has_peer (state_from c) ≡ false
listens_peerless c is = peer_at c phase.Listen false is (λ s. refl)

pub sent_peer : (c : Connection) → c.phase ≡ phase.SynSent → has_peer (state_from c) ≡ true
sent_peer c is = peer_at c phase.SynSent true is (λ s. refl)

pub received_peer : (c : Connection) → c.phase ≡ phase.SynReceived → has_peer (state_from c) ≡ true
received_peer c is = peer_at c phase.SynReceived true is (λ s. refl)

-- without a peer an endpoint is in CLOSED or LISTEN
shut_or_listens : (s : State) → has_peer s ≡ false → (s ≡ state.Closed) ⊎ (s ≡ state.Listen)
shut_or_listens state.Closed none = inl refl
shut_or_listens state.Listen none = inr refl
shut_or_listens state.SynSent none = absurd (cc)
shut_or_listens state.SynReceived none = absurd (cc)
shut_or_listens state.Established none = absurd (cc)
shut_or_listens state.FinWait1 none = absurd (cc)
shut_or_listens state.FinWait2 none = absurd (cc)
shut_or_listens state.CloseWait none = absurd (cc)
shut_or_listens state.Closing none = absurd (cc)
shut_or_listens state.LastAck none = absurd (cc)
shut_or_listens state.TimeWait none = absurd (cc)

not_closing : (s : State) → has_peer s ≡ false → may_close s ≡ false
not_closing s none = elim (shut_or_listens s none) [ inl is ↦ ap may_close is | inr is ↦ ap may_close is ]

stays_peerless : (s : State) → has_peer s ≡ false → has_peer (state_closed s) ≡ false
stays_peerless s none = elim (shut_or_listens s none) [ inl is ↦ ap (λ (x : State). has_peer (state_closed x)) is | inr is ↦ ap (λ (x : State). has_peer (state_closed x)) is ]

not_shut : (s : State) → has_peer s ≡ true → s ≡ state.Closed → ⊥
not_shut s has is = false≢true (sym (ap has_peer is) ∙ has)

-- an endpoint without a peer that stays as it is does not open
not_opened : (c d : Connection) → d ≡ c → has_peer (state_from c) ≡ false → has_peer (state_from d) ≡ true → ⊥
not_opened c d is none has = false≢true (sym none ∙ ap (λ (x : Connection). has_peer (state_from x)) (sym is) ∙ has)

-- nothing changed, and a RST goes out or nothing
rests_as : (c d : Connection) (before after : List ℕ) (o : Option Said) → d ≡ c → after ≡ before → IfSome o (λ s. s.rst ≡ true) → Rests c d before after o
rests_as c d before after o is same reset = record { sending = ap (λ (x : Connection). x.sending) is; receiving = ap (λ (x : Connection). x.receiving) is; incoming = same; reset = reset }

resets : (o : Option Reply) → IfSome o (λ r. r.rst ≡ true) → IfSome (option_map replied o) (λ s. s.rst ≡ true)
resets o reset = each_reply (λ s. s.rst ≡ true) o reset

none_of : (P : Said → Type 0) (o : Option Segment) → o ≡ None → IfSome (option_map said o) P
none_of P o is = subst (λ (x : Option Segment). IfSome (option_map said x) P) (sym is) tt

no_reply : (P : Said → Type 0) (o : Option Reply) → o ≡ None → IfSome (option_map replied o) P
no_reply P o is = subst (λ (x : Option Reply). IfSome (option_map replied x) P) (sym is) tt

-- LISTEN
pub steps_listen : (old new : Connection) (outgoing incoming : List ℕ) → new.sending ≡ old.sending → new.receiving ≡ old.receiving → (state_from old ≡ state.Closed → endpoint_of new ≡ In_listen)
    → ((state_from old ≡ state.Closed → ⊥) → new ≡ old) → Steps old new outgoing incoming incoming event.Listen None
steps_listen old new outgoing incoming sending receiving listens stays = record {
  rests = λ none still. record { sending = sending; receiving = receiving; incoming = refl; reset = tt };
  opens = λ none has. elim (shut_or_listens (state_from old) none) [
    | inl shut ↦ absurd (false≢true (sym (listens_peerless new (listen_phase new (listens shut))) ∙ has))
    | inr listen ↦ absurd (not_opened old new (stays (λ shut. absurd (let e : state.Listen ≡ state.Closed = sym listen ∙ shut in cc))) none has)
  ];
  active = λ n is none. absurd (cc);
  goes = λ has there back consumed comes stand. goes_at there back consumed new outgoing incoming None (stand_as there back consumed old new outgoing incoming (stays (not_shut (state_from old) has)) stand) tt;
}

-- the next segment
pub steps_send : (old new : Connection) (outgoing incoming : List ℕ) (offset count : ℕ) (o : Option Segment) → (has_peer (state_from old) ≡ false → (o ≡ None) × (new ≡ old))
    → ((there back : World) (consumed buffer : List ℕ) → Stand there back consumed old outgoing buffer → Goes there back consumed new outgoing buffer (option_map said o))
    → Steps old new outgoing incoming incoming (event.Send offset count) (option_map said o)
steps_send old new outgoing incoming offset count o stays goes = record {
  rests = λ none still. rests_as old new incoming incoming (option_map said o) (stays none).1 refl (none_of (λ s. s.rst ≡ true) o (stays none).0);
  opens = λ none has. not_opened old new (stays none).1 none has;
  active = λ n is none. absurd (cc);
  goes = λ has there back consumed comes stand. goes there back consumed incoming stand;
}

-- what is out stays out
out_close : (may : Bool) (there : World) (number : ℕ) (items : List Item) → IsOut there number items → IsOut (called event.Close may there) number items
out_close true there number items out = record { which = out.which; segment = out.segment; there = out.there; same = out.same; brings = out.brings; recent = out.recent }
out_close false there number items out = out

close_waits : (may : Bool) (there : World) (old new : Sending) (outgoing : List ℕ) → (may ≡ true → Waits (happens there Close) new outgoing) → (may ≡ false → new ≡ old)
    → Waits there old outgoing → Waits (called event.Close may there) new outgoing
close_waits true there old new outgoing closes stays waits = closes refl
close_waits false there old new outgoing closes stays waits = subst (λ (x : Sending). Waits there x outgoing) (sym (stays refl)) waits

-- CLOSE
pub steps_close : (old new : Connection) (outgoing incoming : List ℕ) → new ≡ record old { phase = new.phase; sending = new.sending; is_peer_first = new.is_peer_first }
    → ((new.phase ≡ phase.Closed → ⊥) → (new.phase ≡ old.phase) × (new.phase ≡ phase.SynSent → ⊥)) → state_from new ≡ state_closed (state_from old) → (may_close (state_from old) ≡ false → new.sending ≡ old.sending)
    → (may_close (state_from old) ≡ true → (there : World) (outgoing : List ℕ) → Waits there old.sending outgoing → Waits (happens there Close) new.sending outgoing)
    → Steps old new outgoing incoming incoming event.Close None
steps_close old new outgoing incoming same kept closed stays waits = record {
  rests = λ none still. record { sending = stays (not_closing (state_from old) none); receiving = ap (λ (x : Connection). x.receiving) same; incoming = refl; reset = tt };
  opens = λ none has. false≢true (sym (ap has_peer closed ∙ stays_peerless (state_from old) none) ∙ has);
  active = λ n is none. absurd (cc);
  goes = λ has there back consumed comes stand.
      let may = may_close (state_from old) in
      goes_at (called event.Close may there) back consumed new outgoing incoming None
      (record {
        waits = close_waits may there old.sending new.sending outgoing (λ is. waits is there outgoing stand.waits) stays stand.waits;
        stands = subst (λ (r : Receiving). Stands back consumed r incoming) (sym (ap (λ (x : Connection). x.receiving) same)) stand.stands;
        sent = λ is. absurd ((kept (λ shut. absurd (let e : phase.SynSent ≡ phase.Closed = sym is ∙ shut in cc))).1 is);
        received = λ is.
            let known = stand.received (sym (kept (λ shut. absurd (let e : phase.SynReceived ≡ phase.Closed = sym is ∙ shut in cc))).0 ∙ is) in (
              subst (λ (n : ℕ). IsOut (called event.Close may there) n (Syn ∷ [])) (sym (ap (λ (x : Connection). x.iss) same)) (out_close may there old.iss (Syn ∷ []) known.0),
              ap (λ (x : Connection). x.receiving.is_open) same ∙ known.1,
              ap (λ (x : Connection). x.receiving.next) same ∙ known.2 ∙ ap (λ (x : Connection). after x.irs) (sym same),
            );
      })
      tt;
}

-- the active open
pub steps_open : (old new : Connection) (outgoing incoming : List ℕ) (iss : ℕ) (r : Option Reply) → (has_peer (state_from old) ≡ false → endpoint_of new ≡ In_syn_sent iss)
    → (has_peer (state_from old) ≡ false → r ≡ Some (record { number = iss; ack = None; syn = true; rst = false })) → (has_peer (state_from old) ≡ false → (back : World) (buffer : List ℕ) → IsFresh back → Goes (first iss) back [] new outgoing buffer (option_map replied r))
    → (has_peer (state_from old) ≡ true → new ≡ old) → (has_peer (state_from old) ≡ true → r ≡ None) → Steps old new outgoing incoming incoming (event.Open iss) (option_map replied r)
steps_open old new outgoing incoming iss r sent syn begins stays none = record {
  rests = λ peerless still. absurd (false≢true (sym still ∙ sent_peer new (sent_phase new iss (sent peerless))));
  opens = λ peerless has. record {
    state = sent_phase new iss (sent peerless);
    sent = ap (λ (x : Option Reply). option_map replied x) (syn peerless);
    goes = λ back fresh. begins peerless back incoming fresh;
  };
  active = λ n is peerless. sent_peer new (sent_phase new iss (sent peerless));
  goes = λ has there back consumed comes stand. goes_at there back consumed new outgoing incoming (option_map replied r) (stand_as there back consumed old new outgoing incoming (stays has) stand) (no_reply (GoesOut there back) r (none has));
}

is_received : (p : Phase) → (p ≡ phase.SynReceived) ⊎ (p ≡ phase.SynReceived → ⊥)
is_received phase.Closed = inr (λ e. absurd (cc))
is_received phase.Listen = inr (λ e. absurd (cc))
is_received phase.SynSent = inr (λ e. absurd (cc))
is_received phase.SynReceived = inl refl
is_received phase.Open = inr (λ e. absurd (cc))

-- a segment
pub steps_arrives : (old new : Connection) (outgoing before after : List ℕ) (s : Bor Segment) (iss : ℕ) (r : Option Reply)
    → (has_peer (state_from old) ≡ false → (new.phase ≡ phase.SynReceived → ⊥) → (new ≡ old) × (after ≡ before) × IfSome r (λ x. x.rst ≡ true))
    → (has_peer (state_from old) ≡ false → new.phase ≡ phase.SynReceived → Hears s.now iss new outgoing after (option_map replied r))
    → (has_peer (state_from old) ≡ true → (there back : World) (consumed : List ℕ) → Arrives there back s.now → Stand there back consumed old outgoing before → Goes there back consumed new outgoing after (option_map replied r))
    → Steps old new outgoing before after (event.Arrives s iss) (option_map replied r)
steps_arrives old new outgoing before after s iss r rests hears goes = record {
  rests = λ none left.
      let it = rests none (λ is. false≢true (sym left ∙ received_peer new is)) in
      rests_as old new before after (option_map replied r) it.0 it.1 (resets r it.2);
  opens = λ none has. elim (is_received new.phase) [
    | inl is ↦ hears none is
    | inr other ↦ absurd (not_opened old new (rests none other).0 none has)
  ];
  active = λ n is none. absurd (cc);
  goes = λ has there back consumed comes stand. goes has there back consumed comes stand;
}

-- the application gives up
pub steps_abort : (old new : Connection) (outgoing incoming : List ℕ) (r : Option Reply) → endpoint_of new ≡ In_closed → new.sending ≡ old.sending → new.receiving ≡ old.receiving → IfSome r (λ x. x.rst ≡ true)
    → Steps old new outgoing incoming incoming event.Abort (option_map replied r)
steps_abort old new outgoing incoming r shut sending receiving reset = record {
  rests = λ none still. record { sending = sending; receiving = receiving; incoming = refl; reset = resets r reset };
  opens = λ none has. false≢true (sym (shut_peerless new (shut_phase new shut)) ∙ has);
  active = λ n is none. absurd (cc);
  goes = λ has there back consumed comes stand.
      goes_at there back consumed new outgoing incoming (option_map replied r) (stand_still there back consumed old new outgoing incoming (settled_shut new (shut_phase new shut)) sending receiving stand)
      (each_reply (GoesOut there back) r (if_some (λ x. x.rst ≡ true) (λ x. GoesOut there back (replied x)) r (λ x rst. inl rst) reset));
}
