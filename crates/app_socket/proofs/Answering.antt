-- The other end answers the segment at SND.UNA.
use Rattle.std.proofs.Common.{◌≡◌, inl, inr, refl, sym, ◌∙◌, ap, subst, ℕ, ◌+◌, ◌≤◌, ◌<◌, List, ◌∷◌, true, false, length, min, arith, Bor}
use Rattle.std.specs.Prelude.{Option, Some, None, MatchOption, is_some, option_map}
use Rattle.std.proofs.lemmas.Bool.{cases_lt, false≢true}
use Rattle.tcp_stream.specs.Endpoint.{distance}
use Rattle.tcp_stream.specs.Stands.{room_of}
use Rattle.tcp_stream.specs.Waits.{count_of}
use Rattle.app_connection.specs.declared.connection.Connection.{Connection}
use Rattle.app_connection.specs.declared.segment.Segment.{Segment}
use Rattle.app_connection.specs.declared.state.Phase.TheVariants as phase
use Rattle.app_connection.specs.declared.state.State.TheVariants as state
use Rattle.app_connection.specs.declared.step.Event.TheVariants as move
use Rattle.app_connection.specs.Endpoints.{OutFits, len_of}
use Rattle.app_connection.specs.Promises.{HasNoText}
use Rattle.app_connection.specs.Runs.{IsFrom}
use Rattle.app_connection.specs.States.{has_peer, state_from}
use Rattle.app_connection.specs.Steps.{Steps}
use Rattle.app_connection.specs.Worlds.{Said, said}
use Rattle.app_connection.proofs.Delivery.{runs_pair}
use Rattle.app_connection.proofs.Going.{same_phase}
use Rattle.app_connection.proofs.Pair.{Pair, turned}
use Rattle.app_options.specs.declared.agreed.Agreed.{Agreed}
use Rattle.app_options.specs.Timestamps.{takes}
use Rattle.wire_tcp_options.specs.declared.tcp.summary.TcpOptionSummary.{TcpOptionSummary}
use Rattle.app_socket.specs.declared.socket.Socket.{Socket}
use Rattle.app_socket.specs.declared.step.Event.TheVariants as event
use Rattle.app_socket.specs.Promises.{AcknowledgesInTime, Continues, HearsTimestamp, LearnsFrom, OwesAck, ResendsInTime, SendsStream, StaysOpen, TakesText}
use Rattle.app_socket.specs.Replies.{RepliesToItems}
use Rattle.app_socket.specs.Resends.{Learns, is_due, scaled_by}
use Rattle.app_socket.specs.Rounds.{AcknowledgesItems}
use Rattle.app_socket.specs.Runs.{Calls, End, Ends, Runs, end_of, ends_of, there}
use Rattle.app_socket.specs.Limits.{is_held}
use Rattle.app_socket.specs.Segments.{StaysOrUpdates, rejects}
use Rattle.app_socket.specs.Times.{is_open, later}
use Rattle.app_socket.proofs.Delivery.{runs_of}
use Rattle.app_socket.proofs.ManyRounds.{timer_due}
use Rattle.app_socket.proofs.Rounds.{no_flag, none_rejected}
use Rattle.app_socket.proofs.Opened.{not_held, open_has_peer, open_phase}
use Rattle.app_socket.proofs.Stepping.{choice_false, steps_by}
use Rattle.app_socket.specs.declared.laws.pair.Exchange.{Exchange}
use Rattle.app_socket.specs.Answered.{Answered, AtUna, IsSet}
use Rattle.app_socket.specs.Pair.{MayAnswer, Past, end_at, past_after}
use Rattle.app_socket.proofs.Arriving.{Arrived, comes_further}
use Rattle.app_socket.proofs.Calling.{IsBare, ack_number, arrive_call, brings, level, no_len_of, not_waiting, nothing_sent, open_still, tick_call, told, was_opened, ack_some}

-- both ends of a run, the other one first
pub pair_of : (a b : End) → Runs (record { here = a; there = b }) → Pair (end_of b) (end_of a)
pair_of a b run = let p : Ends = record { here = a; there = b } in turned (end_of a) (end_of b) (runs_pair (ends_of p) (runs_of p run))

pub is_set : (s : Socket) (out incoming : List ℕ) (h : Past) (b : End) → Pair (end_of (end_at s out incoming h)) (end_of b) → is_open (state_from s.connection) ≡ true → s.connection.receiving.is_open ≡ true → IsSet (end_of (end_at s out incoming h))
is_set s out incoming h b p opened synced =
    let has = open_has_peer s.connection opened in
    record { opened = was_opened (end_of (end_at s out incoming h)) p.here_sound has; open_phase = open_phase s.connection opened; has = has; synced = synced }

-- after the segment came
pub record Came (a : End) (old new : Socket) (answers before after : List ℕ) (t : Past) (r : Exchange) (o : Option Segment) : Type 0 where
  pub runs : Runs (record { here = a; there = end_at new answers after (past_after t a new (option_map said o)) })
  pub arrived : Arrived (end_of a) (end_of (end_at old answers before t)) new.connection
  pub open_phase : new.connection.phase ≡ phase.Open
  pub writes : new.connection.sending.is_closed ≡ false
  pub opened : is_open (state_from new.connection) ≡ true
  pub idle : count_of new.connection.sending ≡ 0
  pub acks : (s : Segment) → IsBare new.connection s → len_of s ≡ 0 → AcknowledgesItems a.socket.connection s (distance new.connection.receiving.next a.socket.connection.sending.una)
  pub recent : StaysOrUpdates old.agreed.recent new.agreed.recent r.text.options.timestamp r.arrives
  pub lasts : min old.timers.ends_at (later r.arrives 300000) ≤ new.timers.ends_at
  pub lives : a.socket.connection.sending.una ≡ old.connection.receiving.next → later r.arrives 300000 ≤ new.timers.ends_at

pub came : (a : End) (old new : Socket) (answers before after : List ℕ) (t : Past) (r : Exchange) (sent : Segment) (x : Bor Segment) (options : Bor TcpOptionSummary) (o : Option Segment) → Runs (record { here = a; there = end_at old answers before t }) → IsSet (end_of a)
    → AtUna (end_of a) sent → IsFrom a.sent (length a.wrote) (length t.wrote) (said sent) → 0 < count_of a.socket.connection.sending → MayAnswer old (length before) r → x.now ≡ record sent { window = x.now.window } → options.now ≡ r.text.options
    → OutFits new.connection.sending (length answers) → Continues old new answers before after r.arrives (event.Arrives x options 0) o → StaysOpen old new (event.Arrives x options 0) → TakesText old new before after r.arrives (event.Arrives x options 0)
    → LearnsFrom old new answers (length before) r.arrives (event.Arrives x options 0) → HearsTimestamp (event.Arrives x options 0) old new r.arrives → Came a old new answers before after t r o
came a old new answers before after t r sent x options o run set at from some may is same fits continues stays gets learns hears = record {
  runs = there (record { here = a; there = b }) (end_at new answers after (past_after t a new (option_map said o))) run call;
  arrived = arrived;
  open_phase = at_phase;
  writes = arrived.closed ∙ may.writes;
  opened = open_still new.connection at_phase (arrived.closed ∙ may.writes);
  idle = arrived.idle may.idle;
  acks = λ s bare none. record {
    number = bare.number ∙ level (end_of c) (end_of a) next (was_opened (end_of c) next.here_sound has_new) set.synced (arrived.idle may.idle);
    ack = bare.ack ∙ ap Some (sym (ack_number (end_of a) (end_of c) (turned (end_of c) (end_of a) next) set.opened arrived.synced));
    rst = bare.rst;
    bare = none;
    some = arrived.some;
    few = arrived.few;
  };
  recent = subst (λ (y : TcpOptionSummary). StaysOrUpdates old.agreed.recent new.agreed.recent y.timestamp r.arrives) same (hears may.opened);
  lasts = learned.lasts open_on;
  lives = λ level.
      let place : x.now.number ≡ old.connection.receiving.next = at_x.number ∙ level in
      let near : distance x.now.number old.connection.receiving.next ≤ room_of old.connection.receiving (length before) + 1 = omega (arith, ap (λ (n : ℕ). distance n old.connection.receiving.next) place) in
      learned.near open_on may.synced at_x.rst near;
}
  where
    b : End
    b = end_at old answers before t

    c : End
    c = end_at new answers after (past_after t a new (option_map said o))

    first : Pair (end_of b) (end_of a)
    first = pair_of a b run

    has : has_peer (state_from old.connection) ≡ true
    has = open_has_peer old.connection may.opened

    there_set : IsSet (end_of b)
    there_set = is_set old answers before t a first may.opened may.synced

    rejected : rejects old r.arrives x.now options.now ≡ false
    rejected = none_rejected _ _ _ (ap (λ (y : TcpOptionSummary). takes old.agreed.recent y.timestamp r.arrives) same ∙ may.taken)

    from_x : IsFrom a.sent (length a.wrote) (length t.wrote) (said x.now)
    from_x = subst (λ (y : Segment). IsFrom a.sent (length a.wrote) (length t.wrote) (said y)) (sym is) from

    at_x : AtUna (end_of a) x.now
    at_x = subst (AtUna (end_of a)) (sym is) (record { number = at.number; some = at.some; rst = at.rst; syn = at.syn; ack = at.ack })

    call : Calls b a c
    call = arrive_call old new answers before after t a r.arrives 0 x options (option_map said o) has rejected from_x fits continues

    steps : Steps old.connection new.connection answers before after (move.Arrives x 0) (option_map said o)
    steps = steps_by old.connection new.connection answers before after _ (move.Arrives x 0) _ (sym (choice_false _ (move.Send 0 0) (move.Arrives x 0) rejected)) continues

    arrived : Arrived (end_of a) (end_of b) new.connection
    arrived = comes_further (end_of a) (end_of b) first x 0 new.connection after (option_map said o) set there_set from_x at_x some may.room fits steps (gets may.opened may.synced rejected)

    at_phase : new.connection.phase ≡ phase.Open
    at_phase = same_phase old.connection new.connection (stays may.opened at_x.rst) ∙ there_set.open_phase

    learned : Learns old new answers (length before) r.arrives (scaled_by old.agreed x.now) options.now.timestamp
    learned = learns may.opened (open_still new.connection at_phase (arrived.closed ∙ may.writes)) rejected

    open_on : state_from new.connection ≡ state.TimeWait → ⊥
    open_on = not_waiting new.connection at_phase (arrived.closed ∙ may.writes)

    next : Pair (end_of c) (end_of a)
    next = pair_of a c (there (record { here = a; there = b }) c run call)

    has_new : has_peer (state_from new.connection) ≡ true
    has_new = open_has_peer new.connection (open_still new.connection at_phase (arrived.closed ∙ may.writes))

-- what an end returned last comes from it
pub from_last : (s : Said) (past : Past) (n m : ℕ) → IsFrom (record { said = s; wrote = n; peer_wrote = m } ∷ past.sent) n m s
from_last s past n m = inr (inl (inl (refl, omega arith, omega arith)))

-- it is answered at once
pub at_once : (a : End) (old new : Socket) (answers before after : List ℕ) (t : Past) (r : Exchange) (sent : Segment) (x : Bor Segment) (options : Bor TcpOptionSummary) (s : Segment) → Came a old new answers before after t r (Some s) → AtUna (end_of a) sent → MayAnswer old (length before) r
    → x.now ≡ record sent { window = x.now.window } → options.now ≡ r.text.options → RepliesToItems old new r.arrives (event.Arrives x options 0) (Some s) → HasNoText (Some s) → Answered a old new answers after t r s
at_once a old new answers before after t r sent x options s came at may is same replies text =
    let rejected : rejects old r.arrives x.now options.now ≡ false = none_rejected _ _ _ (ap (λ (y : TcpOptionSummary). takes old.agreed.recent y.timestamp r.arrives) same ∙ may.taken) in
    let at_x : AtUna (end_of a) x.now = subst (AtUna (end_of a)) (sym is) (record { number = at.number; some = at.some; rst = at.rst; syn = at.syn; ack = at.ack }) in
    let bare = told new.connection s came.arrived.synced (replies may.opened came.opened may.synced rejected (brings x.now _ at_x.rst at_x.some at_x.ack)) in
    record {
      past = past_after t a new (Some (said s));
      runs = came.runs;
      wrote = refl;
      read = refl;
      from = from_last (said s) t (length t.wrote) (length a.wrote);
      taken = distance new.connection.receiving.next a.socket.connection.sending.una;
      acks = came.acks s bare (no_len_of s text.0 text.1 bare.syn);
      next = bare.ack;
      opened = came.opened;
      synced = came.arrived.synced;
      idle = came.idle;
      writes = came.writes;
      recent = came.recent;
      lasts = came.lasts;
      lives = came.lives;
    }

-- it is owed at the next call
record IsOwed (mid : Socket) (r : Exchange) : Type 0 where
  due : is_due mid.timers.ack_at r.calls ≡ true
  in_time : r.calls < mid.timers.ends_at

owed : (a : End) (old mid : Socket) (answers before text : List ℕ) (t : Past) (r : Exchange) (sent : Segment) (x : Bor Segment) (options : Bor TcpOptionSummary) → Came a old mid answers before text t r None → AtUna (end_of a) sent → MayAnswer old (length before) r
    → x.now ≡ record sent { window = x.now.window } → options.now ≡ r.text.options → OwesAck old mid r.arrives (event.Arrives x options 0) None → IsOwed mid r
owed a old mid answers before text t r sent x options came at may is same owes =
    let rejected : rejects old r.arrives x.now options.now ≡ false = none_rejected _ _ _ (ap (λ (y : TcpOptionSummary). takes old.agreed.recent y.timestamp r.arrives) same ∙ may.taken) in
    let at_x : AtUna (end_of a) x.now = subst (AtUna (end_of a)) (sym is) (record { number = at.number; some = at.some; rst = at.rst; syn = at.syn; ack = at.ack }) in
    let held : is_held old r.arrives x.now ≡ false = not_held x.now old r.arrives at_x.syn at_x.rst at_x.some in
    let soon = owes may.opened came.opened may.synced rejected held (brings x.now _ at_x.rst at_x.some at_x.ack) refl in
    record { due = timer_due mid.timers.ack_at (later r.arrives 40) r.calls soon (omega (arith, may.soon)); in_time = omega (arith, came.lasts, may.patient) }

-- it is answered by the next call
at_call : (a : End) (old mid new : Socket) (answers before text after : List ℕ) (t : Past) (r : Exchange) (s : Segment) → Came a old mid answers before text t r None → IsOwed mid r → MayAnswer old (length before) r
    → OutFits new.connection.sending (length answers) → Continues mid new answers text after r.calls event.Tick (Some s) → SendsStream mid answers (Some s) → ResendsInTime mid new answers r.calls (Some s) → AcknowledgesInTime mid (length text) r.calls (Some s)
    → Answered a old new answers after t r s
at_call a old mid new answers before text after t r s came owed may fits continues sends resends acknowledges =
    let b = end_at mid answers text (past_after t a mid None) in
    let p = pair_of a b came.runs in
    let ack = acknowledges came.opened owed.in_time in
    let re = resends came.opened owed.in_time in
    let set = is_set mid answers text (past_after t a mid None) a p came.opened came.arrived.synced in
    let waits = p.writes.waits set.opened in
    let none : len_of s ≡ 0 = empty s (λ some. nothing_sent p.there mid.connection.sending answers s waits came.idle (sends came.opened some p.there waits)) in
    let kept : new.connection ≡ mid.connection = re.quiet none in
    let call = tick_call mid new answers text after (past_after t a mid None) a r.calls (Some (said s)) (open_has_peer mid.connection came.opened) fits continues in
    let bare : IsBare mid.connection s = record { number = ack.at owed.due none; ack = ack.ack ∙ ack_some mid.connection came.arrived.synced; syn = no_syn_flag s none; rst = ack.rst } in
    record {
      past = past_after (past_after t a mid None) a new (Some (said s));
      runs = there (record { here = a; there = b }) (end_at new answers after (past_after (past_after t a mid None) a new (Some (said s)))) came.runs call;
      wrote = refl;
      read = refl;
      from = from_last (said s) t (length t.wrote) (length a.wrote);
      taken = distance mid.connection.receiving.next a.socket.connection.sending.una;
      acks = came.acks s bare none;
      next = bare.ack ∙ ap (λ (c : Connection). Some c.receiving.next) (sym kept);
      opened = ap (λ (c : Connection). is_open (state_from c)) kept ∙ came.opened;
      synced = ap (λ (c : Connection). c.receiving.is_open) kept ∙ came.arrived.synced;
      idle = ap (λ (c : Connection). count_of c.sending) kept ∙ came.idle;
      writes = ap (λ (c : Connection). c.sending.is_closed) kept ∙ came.writes;
      recent = subst (λ (g : Agreed). StaysOrUpdates old.agreed.recent g.recent r.text.options.timestamp r.arrives) (sym re.agreed) came.recent;
      lasts = omega (arith, came.lasts, re.lasts, may.soon);
      lives = λ level. omega (arith, came.lives level, re.lasts, may.soon);
    }
  where
    empty : (s : Segment) → (0 < len_of s → len_of s ≡ 0) → len_of s ≡ 0
    empty s f = elim (cases_lt 0 (len_of s)) [ inl some ↦ f some | inr nothing ↦ omega (arith, nothing) ]

    no_syn_flag : (s : Segment) → len_of s ≡ 0 → s.syn ≡ false
    no_syn_flag s none = no_flag s.syn (omega (arith, none))

-- the same segment, with its own window
pub windowed : (s t : Segment) (window : ℕ) → t ≡ record s { window = window } → t ≡ record s { window = t.window }
windowed s t window is = subst (λ (x : Segment). x ≡ record s { window = x.window }) (sym is) refl

-- if there is an answer at once
pub reply_once : (a : End) (old new : Socket) (answers before after : List ℕ) (t : Past) (r : Exchange) (sent : Segment) (x : Bor Segment) (options : Bor TcpOptionSummary) (o : Option Segment) → is_some o ≡ true
    → Came a old new answers before after t r o → AtUna (end_of a) sent → MayAnswer old (length before) r → x.now ≡ record sent { window = x.now.window } → options.now ≡ r.text.options
    → RepliesToItems old new r.arrives (event.Arrives x options 0) o → HasNoText o → MatchOption o ⊥ (Answered a old new answers after t r)
reply_once a old new answers before after t r sent x options None some came at may is same replies text = absurd (cc)
reply_once a old new answers before after t r sent x options (Some s) some came at may is same replies text = at_once a old new answers before after t r sent x options s came at may is same replies text

-- if there is none, there is one at the next call
call_of : (a : End) (old mid new : Socket) (answers before text after : List ℕ) (t : Past) (r : Exchange) (q : Option Segment) → Came a old mid answers before text t r None → IsOwed mid r → MayAnswer old (length before) r
    → OutFits new.connection.sending (length answers) → Continues mid new answers text after r.calls event.Tick q → SendsStream mid answers q → ResendsInTime mid new answers r.calls q → AcknowledgesInTime mid (length text) r.calls q
    → MatchOption q ⊥ (Answered a old new answers after t r)
call_of a old mid new answers before text after t r None came owed may fits continues sends resends acknowledges = absurd (false≢true ((acknowledges came.opened owed.in_time).due owed.due))
call_of a old mid new answers before text after t r (Some s) came owed may fits continues sends resends acknowledges = at_call a old mid new answers before text after t r s came owed may fits continues sends resends acknowledges

pub reply_later : (a : End) (old mid new : Socket) (answers before text after : List ℕ) (t : Past) (r : Exchange) (sent : Segment) (x : Bor Segment) (options : Bor TcpOptionSummary) (o q : Option Segment) → is_some o ≡ false
    → Came a old mid answers before text t r o → AtUna (end_of a) sent → MayAnswer old (length before) r → x.now ≡ record sent { window = x.now.window } → options.now ≡ r.text.options → OwesAck old mid r.arrives (event.Arrives x options 0) o
    → OutFits new.connection.sending (length answers) → Continues mid new answers text after r.calls event.Tick q → SendsStream mid answers q → ResendsInTime mid new answers r.calls q → AcknowledgesInTime mid (length text) r.calls q
    → MatchOption q ⊥ (Answered a old new answers after t r)
reply_later a old mid new answers before text after t r sent x options (Some s) q none came at may is same owes fits continues sends resends acknowledges = absurd (cc)
reply_later a old mid new answers before text after t r sent x options None q none came at may is same owes fits continues sends resends acknowledges =
    call_of a old mid new answers before text after t r q came (owed a old mid answers before text t r sent x options came at may is same owes) may fits continues sends resends acknowledges
