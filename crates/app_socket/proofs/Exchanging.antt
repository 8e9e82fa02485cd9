-- Many rounds of two sockets.
use Rattle.std.proofs.Common.{◌≡◌, ◌⊎◌, inl, inr, refl, sym, ◌∙◌, ap, subst, ℕ, ◌+◌, ◌≤◌, ◌<◌, List, ◌∷◌, true, false, length, take, drop, min, arith, length-append, get_or}
use Rattle.std.specs.Prelude.{Option, Some, None, MatchOption}
use Rattle.std.proofs.lemmas.Bool.{cases_lt}
use Rattle.std.proofs.lemmas.List.{at_drop_more, length-take-le}
use Rattle.tcp_stream.specs.Endpoint.{Item}
use Rattle.tcp_stream.specs.Network.{IsPrefixOf, bytes_of, stream}
use Rattle.tcp_stream.proofs.Parts.{part_first}
use Rattle.tcp_stream.proofs.Streams.{bytes_first}
use Rattle.tcp_stream.specs.Ring.{ring}
use Rattle.tcp_stream.specs.Waits.{count_of, unsent_of}
use Rattle.tcp_stream.proofs.Places.{length-ring}
use Rattle.tcp_stream.proofs.Standing.{reached_good}
use Rattle.app_connection.specs.Endpoints.{InFits, OutFits}
use Rattle.app_connection.specs.Runs as connection
use Rattle.app_connection.specs.States.{state_from}
use Rattle.app_connection.proofs.Arrived.{both_come_across}
use Rattle.app_connection.proofs.Pair.{Pair}
use Rattle.app_options.specs.declared.timestamps.Recent.{Recent}
use Rattle.app_socket.specs.declared.laws.pair.Exchange.{Exchange}
use Rattle.app_socket.specs.declared.socket.Socket.{Socket}
use Rattle.app_socket.specs.Exchanges.{AllCame, AreInTime, ComesBefore, MayExchange, TakesAnswers, TakesTexts}
use Rattle.app_socket.specs.Pair.{Exchanged, MayAnswer, MaySend, Past, end_at}
use Rattle.app_socket.specs.Rounds.{IsWaiting}
use Rattle.app_socket.specs.Runs.{Ends, Runs, end_of, ends_of}
use Rattle.app_socket.specs.Segments.{StaysOrUpdates}
use Rattle.app_socket.specs.Times.{is_open, later, resend_or_probe}
use Rattle.app_socket.proofs.Calling.{was_opened}
use Rattle.app_socket.proofs.Delivery.{runs_of}
use Rattle.app_socket.proofs.ManyRounds.{flight_few, timer_self}
use Rattle.app_socket.proofs.Opened.{open_has_peer}
use Rattle.app_socket.proofs.Sending.{pair_here}

-- ---- one round

-- There is room in a ring that is longer than what was written and not read.
room_left : (a b : connection.End) → Pair a b → InFits b.connection.receiving (length b.incoming) → length a.wrote < length b.read + length b.incoming → b.connection.receiving.len < length b.incoming
room_left a b p fits more =
    let w = p.there in
    let stands = p.writes.carries.stands in
    let r = b.connection.receiving in
    let all : List Item = stream w.written w.closed in
    let got = w.receiver.got in
    let bytes = take r.len (ring r.start b.incoming) in
    let first : got ≡ take (length got) all = part_first all got (reached_good w stands.reached).got in
    let prefix : IsPrefixOf (bytes_of got) w.written = subst (λ (l : List Item). IsPrefixOf (bytes_of l) w.written) (sym first) (bytes_first w.written w.closed (length got)) in
    let long : length bytes ≡ r.len = length-take-le r.len (ring r.start b.incoming) (omega (arith, length-ring r.start b.incoming (omega (arith, fits.begin)), fits.len)) in
    omega (arith, more, long, ap length p.writes.carries.written, ap length prefix.1, length-append (bytes_of got) prefix.0, ap length stands.holds.held, length-append b.read bytes)

timer_by : (o : Option ℕ) (by now : ℕ) → MatchOption o ⊥ (λ at. at ≤ by) → by ≤ now → MatchOption o ⊥ (λ at. at ≤ now)
timer_by None by now timer le = timer
timer_by (Some at) by now timer le = omega (arith, timer, le)

-- the rounds that are left
pub record Ahead (here there : Socket) (left : List Exchange) : Type 0 where
  pub by : ℕ
  pub end : ℕ
  pub until : ℕ
  pub waiting : IsWaiting here by end
  pub syn : here.connection.sending.has_syn ≡ false
  pub opened : is_open (state_from there.connection) ≡ true
  pub synced : there.connection.receiving.is_open ≡ true
  pub idle : count_of there.connection.sending ≡ 0
  pub writes : there.connection.sending.is_closed ≡ false
  pub lasts : until ≤ there.timers.ends_at
  pub level : (here.connection.sending.una ≡ there.connection.receiving.next) ⊎ ComesBefore there.timers.ends_at left
  pub in_time : AreInTime by end until left
  pub texts : TakesTexts there.agreed.recent left
  pub answers : TakesAnswers here.agreed.recent left

may_send : (here there : Socket) (r : Exchange) (rs : List Exchange) → Ahead here there (r ∷ rs) → 0 < count_of here.connection.sending → MaySend here r
may_send here there r rs a some =
    let it = a.in_time.0 in
    record {
      waiting = record { opened = a.waiting.opened; synced = a.waiting.synced; timer = timer_by here.timers.resend_at a.by r.first a.waiting.timer it.first; patient = omega (arith, a.waiting.patient, it.patient) };
      minute = it.minute;
      some = some;
      syn = a.syn;
      taken = a.answers.0;
    }

may_answer : (here there : Socket) (size : ℕ) (r : Exchange) (rs : List Exchange) → Ahead here there (r ∷ rs) → there.connection.receiving.len < size → MayAnswer there size r
may_answer here there size r rs a room = record {
  opened = a.opened;
  synced = a.synced;
  room = room;
  idle = a.idle;
  writes = a.writes;
  soon = a.in_time.0.soon;
  patient = omega (arith, a.in_time.0.called, a.lasts);
  taken = a.texts.0;
}

texts_after : (old new : Option Recent) (r : Exchange) (rs : List Exchange) → StaysOrUpdates old new r.text.options.timestamp r.arrives → TakesTexts old (r ∷ rs) → TakesTexts new rs
texts_after old new r rs is takes = elim is [
  | inl same ↦ subst (λ (x : Option Recent). TakesTexts x rs) (sym same) takes.1.0
  | inr other ↦ subst (λ (x : Option Recent). TakesTexts x rs) (sym other) takes.1.1
]

answers_after : (old new : Option Recent) (r : Exchange) (rs : List Exchange) → StaysOrUpdates old new r.answer.options.timestamp r.answered → TakesAnswers old (r ∷ rs) → TakesAnswers new rs
answers_after old new r rs is takes = elim is [
  | inl same ↦ subst (λ (x : Option Recent). TakesAnswers x rs) (sym same) takes.1.0
  | inr other ↦ subst (λ (x : Option Recent). TakesAnswers x rs) (sym other) takes.1.1
]

ahead_after : (here new there new_there : Socket) (outgoing incoming answers text : List ℕ) (h t : Past) (r : Exchange) (rs : List Exchange) → Ahead here there (r ∷ rs) → Exchanged here new there new_there outgoing incoming answers text h t r
    → 0 < count_of new.connection.sending → Ahead new new_there rs
ahead_after here new there new_there outgoing incoming answers text h t r rs a x rest = record {
  by = r.answered + 60000;
  end = later r.answered 300000;
  until = later r.arrives 300000;
  waiting = x.waiting rest;
  syn = x.syn rest;
  opened = x.opened;
  synced = x.synced;
  idle = x.idle;
  writes = x.writes;
  lasts = elim a.level [ inl level ↦ x.lives level | inr first ↦ (let late : later r.arrives 300000 ≤ there.timers.ends_at = first in omega (arith, late, x.lasts)) ];
  level = inl (x.level rest);
  in_time = a.in_time.1;
  texts = texts_after there.agreed.recent new_there.agreed.recent r rs x.recent_there a.texts;
  answers = answers_after here.agreed.recent new.agreed.recent r rs x.recent a.answers;
}

-- ---- all of them

-- after so many rounds
pub record Going (here there : Socket) (outgoing incoming answers text : List ℕ) (h t : Past) (left : List Exchange) (index n : ℕ) : Type 0 where
  pub past : Past
  pub past_there : Past
  pub runs : Runs (record { here = end_at here outgoing incoming past; there = end_at there answers text past_there })
  pub wrote : past.wrote ≡ h.wrote
  pub read : past.read ≡ h.read
  pub wrote_there : past_there.wrote ≡ t.wrote
  pub read_there : past_there.read ≡ t.read
  pub was_opened : past.was_opened ≡ true
  pub room : length h.wrote < length t.read + length text
  pub few : 0 < count_of here.connection.sending → count_of here.connection.sending + index ≤ n
  pub ahead : 0 < count_of here.connection.sending → Ahead here there left

pub going_first : (here there : Socket) (outgoing incoming answers text : List ℕ) (h t : Past) (rounds : List Exchange) → Runs (record { here = end_at here outgoing incoming h; there = end_at there answers text t })
    → MayExchange here there (length text) h t rounds → Going here there outgoing incoming answers text h t (drop 0 rounds) 0 (count_of here.connection.sending)
going_first here there outgoing incoming answers text h t rounds run may = record {
  past = h;
  past_there = t;
  runs = run;
  wrote = refl;
  read = refl;
  wrote_there = refl;
  read_there = refl;
  was_opened = was_opened (end_of (end_at here outgoing incoming h)) (pair_here (end_at here outgoing incoming h) (end_at there answers text t) run).here_sound (open_has_peer here.connection may.opened);
  room = may.room;
  few = λ some. omega arith;
  ahead = λ some. record {
    by = resend_or_probe here.timers.resend_at here.timers.probe_at;
    end = here.timers.ends_at;
    until = there.timers.ends_at;
    waiting = record { opened = may.opened; synced = may.synced; timer = timer_self here.timers.resend_at here.timers.probe_at may.runs; patient = omega arith };
    syn = may.syn;
    opened = may.opened_there;
    synced = may.synced_there;
    idle = may.idle;
    writes = may.writes;
    lasts = omega arith;
    level = inr may.patient;
    in_time = may.in_time;
    texts = may.texts;
    answers = may.answers;
  };
}

at_drop_exchange : (rs : List Exchange) (i : ℕ) (d : Exchange) → i < length rs → drop i rs ≡ get_or rs i d ∷ drop (i + 1) rs
at_drop_exchange rs i d within = at_drop_more (λ (l : List Exchange). l) rs i d within

pub going_more : (here new there new_there : Socket) (outgoing incoming incoming2 answers text text2 : List ℕ) (h t : Past) (rounds : List Exchange) (i n : ℕ) (d : Exchange) → i < length rounds → 0 < count_of here.connection.sending
    → InFits there.connection.receiving (length text) → length text2 ≡ length text
    → ((g u : Past) → Runs (record { here = end_at here outgoing incoming g; there = end_at there answers text u }) → MaySend here (get_or rounds i d) → MayAnswer there (length text) (get_or rounds i d) → Exchanged here new there new_there outgoing incoming2 answers text2 g u (get_or rounds i d))
    → Going here there outgoing incoming answers text h t (drop i rounds) i n → Going new new_there outgoing incoming2 answers text2 h t (drop (i + 1) rounds) (i + 1) n
going_more here new there new_there outgoing incoming incoming2 answers text text2 h t rounds i n d within some fits same goes g =
    let r = get_or rounds i d in
    let a = subst (λ (rs : List Exchange). Ahead here there rs) (at_drop_exchange rounds i d within) (g.ahead some) in
    let p = pair_here (end_at here outgoing incoming g.past) (end_at there answers text g.past_there) g.runs in
    let more : length g.past.wrote < length g.past_there.read + length text = omega (arith, g.room, ap length g.wrote, ap length g.read_there) in
    let room = room_left (end_of (end_at here outgoing incoming g.past)) (end_of (end_at there answers text g.past_there)) p fits more in
    let x = goes g.past g.past_there g.runs (may_send here there r (drop (i + 1) rounds) a some) (may_answer here there (length text) r (drop (i + 1) rounds) a room) in
    record {
      past = x.past;
      past_there = x.past_there;
      runs = x.runs;
      wrote = x.wrote ∙ g.wrote;
      read = x.read ∙ g.read;
      wrote_there = x.wrote_there ∙ g.wrote_there;
      read_there = x.read_there ∙ g.read_there;
      was_opened = x.was_opened;
      room = omega (arith, g.room, same);
      few = λ rest. omega (arith, g.few some, x.less);
      ahead = ahead_after here new there new_there outgoing incoming2 answers text2 g.past g.past_there r (drop (i + 1) rounds) a x;
    }

-- something waits if the socket says so
pub some_left : (here there : Socket) (outgoing incoming answers text : List ℕ) (h t : Past) (left : List Exchange) (index n m : ℕ) → OutFits here.connection.sending (length outgoing) → Going here there outgoing incoming answers text h t left index n
    → m ≡ min 18446744073709551615 (here.connection.sending.flight + unsent_of here.connection.sending) → (m ≡ 0 → ⊥) → 0 < count_of here.connection.sending
some_left here there outgoing incoming answers text h t left index n m fits g is some =
    let p = pair_here (end_at here outgoing incoming g.past) (end_at there answers text g.past_there) g.runs in
    elim (cases_lt 0 (count_of here.connection.sending)) [
      | inl waits ↦ waits
      | inr none ↦ absurd (some (omega (arith, is, none, (flight_few p.there here.connection.sending outgoing fits (p.writes.waits g.was_opened)).0)))
    ]

-- after as many rounds as items nothing waits
pub none_after : (here there : Socket) (outgoing incoming answers text : List ℕ) (h t : Past) (left : List Exchange) (index n : ℕ) → Going here there outgoing incoming answers text h t left index n → n ≤ index → count_of here.connection.sending ≡ 0
none_after here there outgoing incoming answers text h t left index n g le = elim (cases_lt 0 (count_of here.connection.sending)) [
  | inl some ↦ absurd (omega (arith, g.few some, some, le))
  | inr none ↦ omega (arith, none)
]

-- then all has come
pub all_came : (here there : Socket) (outgoing incoming answers text : List ℕ) (h t : Past) (left : List Exchange) (index n : ℕ) → Going here there outgoing incoming answers text h t left index n → count_of here.connection.sending ≡ 0
    → AllCame here there outgoing incoming answers text h t
all_came here there outgoing incoming answers text h t left index n g none =
    let p : Ends = record { here = end_at here outgoing incoming g.past; there = end_at there answers text g.past_there } in
    record {
      past = g.past;
      past_there = g.past_there;
      runs = g.runs;
      wrote = g.wrote;
      read = g.read;
      wrote_there = g.wrote_there;
      read_there = g.read_there;
      none = none;
      come = (both_come_across (ends_of p) (runs_of p g.runs)).here g.was_opened none;
    }
