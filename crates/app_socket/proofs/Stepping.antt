-- A step of a socket is one of its connection.
use Rattle.std.proofs.Common.{◌≡◌, ◌⊎◌, inl, inr, refl, sym, ◌∙◌, ap, subst, ℕ, ◌+◌, ◌<◌, List, [], ◌∷◌, Bool, true, false, length, arith, Bor}
use Rattle.std.specs.Prelude.{Option, None, IfSome, is_some, ◌&&◌, if◌then◌else◌}
use Rattle.std.proofs.lemmas.Bool.{false≢true}
use Rattle.tcp_stream.specs.Network.{World, run}
use Rattle.tcp_stream.specs.Items.{items_of}
use Rattle.tcp_stream.specs.Stands.{Stands, IsAnswer}
use Rattle.tcp_stream.specs.declared.receiving.Receiving.{Receiving}
use Rattle.app_connection.specs.declared.connection.Connection.{Connection}
use Rattle.app_connection.specs.declared.segment.Segment.{Segment}
use Rattle.app_connection.specs.declared.state.Phase.TheVariants as phase
use Rattle.app_connection.specs.declared.state.State.{State}
use Rattle.app_connection.specs.declared.state.State.TheVariants as state
use Rattle.app_connection.specs.declared.step.Event.{Event}
use Rattle.app_connection.specs.declared.step.Event.TheVariants as move
use Rattle.app_connection.specs.Endpoints.{is_of_unsent, len_of, one}
use Rattle.app_connection.specs.Events.{GetsBy}
use Rattle.app_connection.specs.Sequence.{is_taken_at}
use Rattle.app_connection.specs.States.{has_peer, state_from}
use Rattle.app_connection.specs.Steps.{Hears, Opens, Steps}
use Rattle.app_connection.specs.Worlds.{Brings, GetsText, Goes, GoesOut, IsOut, Said, Stand, said}
use Rattle.app_connection.proofs.Going.{goes_at, stand_as}
use Rattle.app_connection.proofs.Phases.{phase_open}
use Rattle.app_socket.specs.Times.{is_open}

-- something else goes out
pub goes_result : (there back : World) (consumed : List ℕ) (c : Connection) (outgoing incoming : List ℕ) (o q : Option Said) → ((v w : World) → Stands w consumed c.receiving incoming → IfSome o (GoesOut v w) → IfSome q (GoesOut v w))
    → Goes there back consumed c outgoing incoming o → Goes there back consumed c outgoing incoming q
goes_result there back consumed c outgoing incoming o q change goes = record { went = goes.went; out = change (run goes.went.acks there) (run goes.went.texts back) goes.went.stand.stands goes.out }

pub goes_to : (there back : World) (consumed : List ℕ) (c d : Connection) (outgoing incoming : List ℕ) (o : Option Said) → d ≡ c → Goes there back consumed c outgoing incoming o → Goes there back consumed d outgoing incoming o
goes_to there back consumed c d outgoing incoming o is goes = subst (λ (x : Connection). Goes there back consumed x outgoing incoming o) (sym is) goes

-- a connection that is neither in CLOSED nor in LISTEN has a peer
pub peer_of : (s : State) → (s ≡ state.Closed → ⊥) → (s ≡ state.Listen → ⊥) → has_peer s ≡ true
peer_of state.Closed shut listens = absurd (shut refl)
peer_of state.Listen shut listens = absurd (listens refl)
peer_of state.SynSent shut listens = refl
peer_of state.SynReceived shut listens = refl
peer_of state.Established shut listens = refl
peer_of state.FinWait1 shut listens = refl
peer_of state.FinWait2 shut listens = refl
peer_of state.CloseWait shut listens = refl
peer_of state.Closing shut listens = refl
peer_of state.LastAck shut listens = refl
peer_of state.TimeWait shut listens = refl

-- no event opens a connection that is established
opens_none : (e : Event) (new : Connection) (outgoing incoming : List ℕ) (o : Option Said) → (new.phase ≡ phase.SynSent → ⊥) → (new.phase ≡ phase.SynReceived → ⊥) → Opens e new outgoing incoming o → ⊥
opens_none move.Listen new outgoing incoming o sent received opens = opens
opens_none (move.Open iss) new outgoing incoming o sent received opens = sent opens.state
opens_none (move.Arrives segment iss) new outgoing incoming o sent received opens = received opens.state
opens_none (move.Send offset count) new outgoing incoming o sent received opens = opens
opens_none move.Close new outgoing incoming o sent received opens = opens
opens_none move.Abort new outgoing incoming o sent received opens = opens

pub steps_result : (old new : Connection) (outgoing before after : List ℕ) (e : Event) (o q : Option Said) → (state_from new ≡ state.Closed → ⊥) → (state_from new ≡ state.Listen → ⊥) → (state_from new ≡ state.SynSent → ⊥) → (state_from new ≡ state.SynReceived → ⊥)
    → ((v w : World) (consumed : List ℕ) → Stands w consumed new.receiving after → IfSome o (GoesOut v w) → IfSome q (GoesOut v w)) → Steps old new outgoing before after e o → Steps old new outgoing before after e q
steps_result old new outgoing before after e o q shut listens sent received change s =
    let at : new.phase ≡ phase.Open = phase_open new (state_from new) refl shut listens sent received in
    record {
      rests = λ none still. absurd (false≢true (sym still ∙ peer_of (state_from new) shut listens));
      opens = λ none opened. absurd (opens_none e new outgoing after o (λ is. absurd (let c : phase.Open ≡ phase.SynSent = sym at ∙ is in cc)) (λ is. absurd (let c : phase.Open ≡ phase.SynReceived = sym at ∙ is in cc)) (s.opens none opened));
      active = s.active;
      goes = λ peer there back consumed comes stand. goes_result _ back consumed new outgoing after o q (λ v w. change v w consumed) (s.goes peer there back consumed comes stand);
    }

-- The connection was another one, or becomes one.
pub steps_from : (b c d : Connection) (outgoing before after : List ℕ) (e : Event) (o : Option Said) → b ≡ c → Steps c d outgoing before after e o → Steps b d outgoing before after e o
steps_from b c d outgoing before after e o is s = subst (λ (x : Connection). Steps x d outgoing before after e o) (sym is) s

pub steps_to : (b c d : Connection) (outgoing before after : List ℕ) (e : Event) (o : Option Said) → d ≡ c → Steps b c outgoing before after e o → Steps b d outgoing before after e o
steps_to b c d outgoing before after e o is s = subst (λ (x : Connection). Steps b x outgoing before after e o) (sym is) s

pub steps_by : (b d : Connection) (outgoing before after : List ℕ) (e f : Event) (o : Option Said) → f ≡ e → Steps b d outgoing before after e o → Steps b d outgoing before after f o
steps_by b d outgoing before after e f o is s = subst (λ (x : Event). Steps b d outgoing before after x o) (sym is) s

-- nothing but what goes out
pub steps_still : (c d : Connection) (outgoing incoming : List ℕ) (o : Option Said) → d ≡ c → has_peer (state_from c) ≡ true → ((there back : World) (consumed : List ℕ) → Stands back consumed c.receiving incoming → IfSome o (GoesOut there back))
    → Steps c d outgoing incoming incoming (move.Send 0 0) o
steps_still c d outgoing incoming o is has out = record {
  rests = λ none still. absurd (false≢true (sym none ∙ has));
  opens = λ none opened. absurd (false≢true (sym none ∙ has));
  active = λ n is none. absurd (cc);
  goes = λ peer there back consumed comes stand. goes_at there back consumed d outgoing incoming o (stand_as there back consumed c d outgoing incoming is stand) (out there back consumed stand.stands);
}

-- an open of a connection with a peer
pub steps_refused : (c : Connection) (outgoing incoming : List ℕ) (iss : ℕ) → has_peer (state_from c) ≡ true → Steps c c outgoing incoming incoming (move.Open iss) None
steps_refused c outgoing incoming iss has = record {
  rests = λ none still. absurd (false≢true (sym none ∙ has));
  opens = λ none opened. absurd (false≢true (sym none ∙ has));
  active = λ n is none. has;
  goes = λ peer there back consumed comes stand. goes_at there back consumed c outgoing incoming None stand tt;
}

-- nothing at all
pub steps_idle : (c : Connection) (outgoing incoming : List ℕ) → has_peer (state_from c) ≡ false → Steps c c outgoing incoming incoming (move.Send 0 0) None
steps_idle c outgoing incoming none = record {
  rests = λ was still. record { sending = refl; receiving = refl; incoming = refl; reset = tt };
  opens = λ was opened. false≢true (sym none ∙ opened);
  active = λ n is none. absurd (cc);
  goes = λ peer there back consumed comes stand. absurd (false≢true (sym none ∙ peer));
}

-- time passes for a connection with a peer
pub steps_tick : (c d : Connection) (outgoing incoming : List ℕ) (o : Option Said) → has_peer (state_from c) ≡ true
    → ((there back : World) (consumed buffer : List ℕ) → Stand there back consumed c outgoing buffer → Goes there back consumed d outgoing buffer o) → Steps c d outgoing incoming incoming (move.Send 0 0) o
steps_tick c d outgoing incoming o has goes = record {
  rests = λ none still. absurd (false≢true (sym none ∙ has));
  opens = λ none opened. absurd (false≢true (sym none ∙ has));
  active = λ n is none. absurd (cc);
  goes = λ peer there back consumed comes stand. goes there back consumed incoming stand;
}

-- the end by silence
pub steps_silent : (c d : Connection) (outgoing before after : List ℕ) (o : Option Said) → Steps c d outgoing before after move.Abort o → Steps c d outgoing before after (move.Send 0 0) o
steps_silent c d outgoing before after o s = record { rests = s.rests; opens = s.opens; active = λ n is none. absurd (cc); goes = s.goes }

-- a segment with another window
pub steps_scaled : (c d : Connection) (outgoing before after : List ℕ) (s t : Bor Segment) (window iss : ℕ) (o : Option Said) → t.now ≡ record s.now { window = window } → Steps c d outgoing before after (move.Arrives t iss) o
    → Steps c d outgoing before after (move.Arrives s iss) o
steps_scaled c d outgoing before after s t window iss o is st =
    let same : said t.now ≡ said s.now = ap said is in
    record {
      rests = st.rests;
      opens = λ none opened.
          let h : Hears t.now iss d outgoing after o = st.opens none opened in
          let g : Hears (record s.now { window = window }) iss d outgoing after o = subst (λ (x : Segment). Hears x iss d outgoing after o) is h in
          record { state = g.state; sent = g.sent; syn = g.syn; rst = g.rst; goes = g.goes };
      active = λ n other none. absurd (cc);
      goes = λ peer there back consumed comes stand. st.goes peer there back consumed (subst (λ (x : Said). (x.rst ≡ true) ⊎ Brings there back x) (sym same) comes) stand;
    }

-- what is taken of a segment
abbrev pub GetsOf : Connection → ℕ → Receiving → List ℕ → List ℕ → Segment → Type 0
GetsOf old room new before after x =
    x.rst ≡ false → x.syn ≡ false → 0 < len_of x → is_taken_at old.receiving.next room x.number (len_of x) ≡ true → is_some x.ack ≡ true → is_of_unsent old x.ack ≡ false
    → GetsText old.receiving new before after room x.number (items_of false x.payload.now x.fin)

-- the same of one with another window
pub gets_scaled : (old : Connection) (room iss : ℕ) (new : Receiving) (before after : List ℕ) (s : Bor Segment) (t : Segment) (window : ℕ) → t ≡ record s.now { window = window } → GetsOf old room new before after t
    → GetsBy (move.Arrives s iss) old room new before after
gets_scaled old room iss new before after s t window is gets = let g : GetsOf old room new before after (record s.now { window = window }) = subst (λ (x : Segment). GetsOf old room new before after x) is gets in g

-- a segment that takes no sequence number has no items
pub no_len : (syn : Bool) (payload : List ℕ) (fin : Bool) → length payload + one syn + one fin ≡ 0 → items_of syn payload fin ≡ []
no_len true payload fin is = absurd (omega arith)
no_len false (b ∷ payload) fin is = absurd (omega arith)
no_len false [] true is = absurd (omega arith)
no_len false [] false is = refl

-- a segment without items goes out
pub bare_out : (there back : World) (s : Segment) → len_of s ≡ 0 → IfSome s.ack (λ number. IsAnswer back number) → GoesOut there back (said s)
bare_out there back s none ack = inr (record { text = inl (no_len s.syn s.payload.now s.fin none); ack = ack })

-- a segment with another acknowledgement goes out
pub acknowledged_out : (there back : World) (s t : Segment) → t ≡ record s { ack = t.ack; window = t.window } → IfSome t.ack (λ number. IsAnswer back number) → GoesOut there back (said s) → GoesOut there back (said t)
acknowledged_out there back s t is ack (inl rst) = inl (ap (λ (x : Segment). x.rst) is ∙ rst)
acknowledged_out there back s t is ack (inr takes) =
    inr (record { text = subst (λ (x : Segment). ((said x).items ≡ []) ⊎ IsOut there x.number (said x).items) (sym is) takes.text; ack = ack })

-- a connection that is set up has a peer
pub open_peer : (s : State) → is_open s ≡ true → has_peer s ≡ true
open_peer state.Closed is = absurd (cc)
open_peer state.Listen is = absurd (cc)
open_peer state.SynSent is = refl
open_peer state.SynReceived is = refl
open_peer state.Established is = refl
open_peer state.FinWait1 is = refl
open_peer state.FinWait2 is = refl
open_peer state.CloseWait is = refl
open_peer state.Closing is = refl
open_peer state.LastAck is = refl
open_peer state.TimeWait is = refl

first_of : (a b : Bool) → (a && b) ≡ true → a ≡ true
first_of true b is = refl
first_of false b is = absurd (cc)

pub stale_peer : (s : State) (b : Bool) → (is_open s && b) ≡ true → has_peer s ≡ true
stale_peer s b is = open_peer s (first_of (is_open s) b is)

-- a choice
pub choice_true : (b : Bool) (e f : Event) → b ≡ true → (if b then e else f) ≡ e
choice_true b e f is = ap (λ (x : Bool). if x then e else f) is

pub choice_false : (b : Bool) (e f : Event) → b ≡ false → (if b then e else f) ≡ f
choice_false b e f is = ap (λ (x : Bool). if x then e else f) is
