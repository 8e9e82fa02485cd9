-- What goes again, and when (RFC 6298, section 5; RFC 5681; RFC 6582; RFC 6675).
-- Pinned by: `socket/scenarios`
use Rattle.std.specs.Prelude.{ℕ, ◌≡◌, ◌⊎◌, ◌+◌, ◌-◌, ◌*◌, ◌%◌, ◌<◌, ◌≤◌, ◌==◌, ◌&&◌, Bool, true, false, not, nat_le, nat_lt, if◌then◌else◌, min, List, [], length, Option, Some, None, is_some, IfSome, MatchOption}
use Rattle.tcp_stream.specs.Network.{World, Segment_comes, Send, happens, round, run}
use Rattle.tcp_stream.specs.Endpoint.{distance}
use Rattle.tcp_stream.specs.Stands.{room_of}
use Rattle.tcp_stream.specs.declared.sending.Sending.{Sending}
use Rattle.tcp_stream.specs.Waits.{Waits, count_of, unsent_of}
use Rattle.app_congestion.specs.declared.rto.Rto.{Rto}
use Rattle.app_congestion.specs.declared.scoreboard.Scoreboard.{Scoreboard}
use Rattle.app_congestion.specs.Rto.{sampled, timeout_of}
use Rattle.app_congestion.specs.Congestion.{is_in_recovery, is_partial, is_past, restarted, sender_of, timed_out}
use Rattle.app_congestion.specs.Scoreboard.{HasNoHole, IsHole, has}
use Rattle.app_connection.specs.declared.segment.Segment.{Segment}
use Rattle.app_connection.specs.Endpoints.{OutFits, acknowledgement_of, endpoint_of, len_of, next_of, spoken}
use Rattle.app_connection.specs.Promises.{ChangesOnlyNext, HearsAckOf, IsEventSend, WhenTaken}
use Rattle.app_connection.specs.Sequence.{after, is_of_sent}
use Rattle.app_connection.specs.declared.state.Phase.TheVariants as phase
use Rattle.app_connection.specs.States.{has_peer, state_from}
use Rattle.app_connection.specs.declared.state.State.{State}
use Rattle.app_connection.specs.declared.state.State.TheVariants.{Closed, Listen, SynSent, SynReceived, Established, FinWait1, FinWait2, CloseWait, Closing, LastAck, TimeWait}
use Rattle.app_options.specs.declared.agreed.Agreed.{Agreed}
use Rattle.app_options.specs.Options.{own_scale, window_in}
use Rattle.app_socket.specs.declared.flow.Flow.{Flow}
use Rattle.app_socket.specs.declared.flow.Queue.{Queue}
use Rattle.app_socket.specs.Pieces.{is_worth}
use Rattle.app_socket.specs.Probes.{is_probing, phase_heard, timer_of}
use Rattle.app_socket.specs.declared.socket.Socket.{Socket}
use Rattle.app_socket.specs.declared.step.Event.{Event}
use Rattle.app_socket.specs.declared.step.Event.TheVariants as event
use Rattle.app_socket.specs.Segments.{rejects, text_of}
use Rattle.app_socket.specs.Times.{later, mss_of}
use Rattle.app_socket.specs.Undo.{Undoes, is_needless, saved}
use Rattle.app_socket.specs.Window.{advertised, is_update_due, least_growth}

-- whether a timer expires
abbrev pub is_due : Option ℕ → ℕ → Bool
is_due None now = false
is_due (Some at) now = nat_le at now

-- A timer runs: as before, or for a minute at most (RFC 6298, section 2.5).
abbrev pub IsArmed : Option ℕ → Option ℕ → ℕ → Type 0
IsArmed old new now = MatchOption new ⊥ (λ at. (old ≡ Some at) ⊎ (at ≤ later now 60000))

-- the timeout doubles, up to a minute (RFC 6298, sections 5.5 and 2.5)
pub record BacksOff (old new : Rto) : Type 0 where
  pub timeout : new.timeout ≡ min 60000 (2 * old.timeout)
  pub estimate : new.estimate ≡ old.estimate

-- a sample of the round trip ends the back-off (RFC 6298, sections 2 and 5)
pub record Samples (old new : Rto) (rtt : ℕ) : Type 0 where
  pub estimate : new.estimate ≡ Some (sampled old.estimate rtt)
  pub timeout : new.timeout ≡ timeout_of (sampled old.estimate rtt)

-- a fact about a timer that expires while something is not acknowledged
abbrev pub WhenDue : Socket → ℕ → Type 0 → Type 0
WhenDue old now fact = 0 < count_of old.connection.sending → is_due old.timers.resend_at now ≡ true → fact

-- a fact about the retransmission timer that expires so, after the loss probe
abbrev pub WhenTimeout : Socket → ℕ → Type 0 → Type 0
WhenTimeout old now fact = WhenDue old now (old.flow.is_probed ≡ true → fact)

-- a fact about a timer that expires for a loss probe
abbrev pub WhenProbe : Socket → ℕ → Type 0 → Type 0
WhenProbe old now fact = WhenDue old now (is_probing old.flow ≡ true → fact)

-- a fact about a timer that does not expire
abbrev pub WhenNotDue : Socket → ℕ → Type 0 → Type 0
WhenNotDue old now fact = now < 9223372036854775808 → is_due old.timers.resend_at now ≡ false → fact

-- the segment that was timed gives a sample once it is acknowledged
abbrev pub SamplesTimed : Flow → Flow → ℕ → ℕ → ℕ → Type 0
SamplesTimed old new una newly now =
    IfSome old.timing (λ t. distance t.end una ≤ newly → Samples old.rto new.rto (min 4294967295 (now - t.sent_at)))

-- SND.NXT
abbrev pub next_in : Queue → ℕ
next_in q = (q.una + q.flight) % 4294967296

-- Whether a loss probe goes: the window is open, more than a segment is in flight, and not all goes again.
abbrev pub is_probe_useful : Flow → Queue → Bool
is_probe_useful f q = not (q.window == 0) && (nat_lt q.mss q.flight && not (nat_lt f.cursor q.flight))

-- whether nothing was sent for longer than the timeout (RFC 5681, section 4.1)
abbrev pub is_idle : Flow → ℕ → Bool
is_idle f now = nat_lt (later f.sent_at f.rto.timeout) now

-- Where something begins to wait after an idle time, cwnd is at most the initial window (RFC 5681, section 4.1).
pub record RestartsIdle (old new : Flow) (now : ℕ) : Type 0 where
  pub idle : is_idle old now ≡ true → sender_of new.congestion ≡ restarted (sender_of old.congestion)
  pub busy : is_idle old now ≡ false → new.congestion ≡ old.congestion

-- only what is known of losses changes
abbrev pub ChangesRecovery : Flow → Flow → Type 0
ChangesRecovery old new =
    new
    ≡ record old { congestion = new.congestion; resend = new.resend; rescued = new.rescued; has_probe = new.has_probe; undo = new.undo }

-- The retransmission timer expires (RFC 6298, sections 5.4 to 5.6): all that is in flight goes again from the first item on, what
-- the peer had after a gap is forgotten (RFC 2018, section 8), and the timeout doubles.
pub record TimesOut (old new : Flow) (q : Queue) (now : ℕ) : Type 0 where
  pub same :
      new ≡ record old {
        rto = new.rto;
        congestion = new.congestion;
        timing = None;
        cursor = 0;
        resend = false;
        scoreboard = new.scoreboard;
        rescued = 0;
        is_probed = true;
        has_probe = false;
        undo = new.undo;
        expired_at = now;
      }
  pub known : (n : ℕ) → has new.scoreboard n ≡ false
  pub backs_off : 0 < q.flight → BacksOff old.rto new.rto
  pub probes : q.window ≡ 0 → BacksOff old.rto new.rto
  pub slows :
      0 < q.flight → 0 < q.window → sender_of new.congestion ≡ timed_out (sender_of old.congestion) q.flight (next_in q)
  -- cwnd and ssthresh of before are kept.
  pub saves : 0 < q.flight → 0 < q.window → new.undo ≡ saved old now

-- What is remembered of the segments is of those in flight.
pub record IsSound (f : Flow) (flight : ℕ) : Type 0 where
  pub cursor : f.cursor ≤ flight
  pub sacked : (n : ℕ) → has f.scoreboard n ≡ true → n < flight

-- a fact about a socket that remembers only what is in flight
abbrev pub WhenSound : Socket → Type 0 → Type 0
WhenSound old fact =
    old.connection.sending.flight ≤ count_of old.connection.sending → IsSound old.flow old.connection.sending.flight
    → fact

-- what is known of losses, and the count of duplicate acknowledgements, stay
abbrev pub KeepsCount : Flow → Flow → Type 0
KeepsCount old new =
    (new.congestion.phase ≡ old.congestion.phase) × (new.congestion.duplicates ≡ old.congestion.duplicates)

-- A hole after `from` begins where the windows end, or after that.
pub record IsBeyond (s : Scoreboard) (from limit : ℕ) : Type 0 where
  pub offset : ℕ
  pub count : ℕ
  pub hole : IsHole s from offset count
  pub past : limit ≤ offset

-- how many items wait from the first one on that did not go since the last time-out
abbrev pub available_of : Flow → Queue → ℕ
available_of f q = min 18446744073709551615 ((q.flight - f.cursor) + q.unsent)

-- how many of them may go: as far as both windows and the segment size allow
abbrev pub next_count : Flow → Queue → ℕ
next_count f q = min (available_of f q) (min (min q.window f.congestion.cwnd - f.cursor) q.mss)

-- Nothing may go now: not the first segment again, no hole in fast recovery (RFC 6675, section 4), nothing that was sent before
-- a time-out, and of new items none that fits both windows and is worth a segment (Nagle's algorithm, and the avoidance of silly
-- windows).
pub record IsHeld (f : Flow) (q : Queue) : Type 0 where
  pub first : f.resend ≡ false
  pub hole :
      is_in_recovery f.congestion.phase ≡ true → 0 < q.mss
      → HasNoHole f.scoreboard f.rescued ⊎ IsBeyond f.scoreboard f.rescued (min q.window f.congestion.cwnd)
  pub rest :
      (next_count f q ≡ 0)
      ⊎ ((q.flight ≤ f.cursor) × (is_worth q (next_count f q) (available_of f q) f.max_window ≡ false))

-- whether the application has closed, and the FIN is not acknowledged
abbrev pub waits_for_end : State → Bool
waits_for_end Closed = false
waits_for_end Listen = false
waits_for_end SynSent = false
waits_for_end SynReceived = false
waits_for_end Established = false
waits_for_end FinWait1 = true
waits_for_end FinWait2 = false
waits_for_end CloseWait = false
waits_for_end Closing = true
waits_for_end LastAck = true
waits_for_end TimeWait = false

-- what the choice of the next segment sees of a socket
abbrev pub queue_of : Socket → Queue
queue_of s = record {
  una = s.connection.sending.una;
  flight = s.connection.sending.flight;
  window = s.connection.wnd;
  unsent = unsent_of s.connection.sending;
  has_fin = waits_for_end (state_from s.connection);
  mss = text_of s;
  is_eager = s.options.is_eager;
}

-- The first items that are not acknowledged go: at SND.UNA, and at least one. It is the event Send 0 of the model.
pub record GoesFirst (old new : Sending) (outgoing : List ℕ) (s : Segment) : Type 0 where
  pub number : s.number ≡ old.una
  pub some : 0 < len_of s
  pub inner : length s.payload.now ≤ length outgoing
  pub waits : IsEventSend old new outgoing 0 s

-- such a segment goes
abbrev pub SendsFirst : Sending → Sending → List ℕ → Option Segment → Type 0
SendsFirst old new outgoing given = MatchOption given ⊥ (GoesFirst old new outgoing)

-- no items go
abbrev pub SendsNone : Option Segment → Type 0
SendsNone given = IfSome given (λ s. len_of s ≡ 0)

-- What goes when time passes in an open connection, and when again.
pub record Resends (old new : Socket) (outgoing : List ℕ) (now : ℕ) (given : Option Segment) : Type 0 where
  -- The retransmission timer expires, after the loss probe: what is not acknowledged goes again from the first item on, the
  -- timeout doubles, and cwnd is one segment (RFC 6298, sections 5.4 and 5.5; RFC 5681, section 3.1).
  pub expires : WhenTimeout old now (SendsFirst old.connection.sending new.connection.sending outgoing given)
  pub backs_off : 0 < old.connection.sending.flight → WhenTimeout old now (BacksOff old.flow.rto new.flow.rto)
  pub slows :
      0 < old.connection.wnd → 0 < old.connection.sending.flight
      → WhenTimeout old now
      (sender_of new.flow.congestion
      ≡ timed_out (sender_of old.flow.congestion) old.connection.sending.flight (next_in (queue_of old)))
  -- cwnd and ssthresh of before, and the time, are kept until the next acknowledgement (RFC 4015, section 3.2).
  pub saves :
      0 < old.connection.wnd → 0 < old.connection.sending.flight
      → WhenTimeout old now (new.flow.undo ≡ saved old.flow now)
  -- A loss probe leaves cwnd and ssthresh as they are (RFC 8985, section 7.3).
  pub free : WhenProbe old now (new.flow.congestion ≡ old.flow.congestion)
  -- after the first time that it expires, it is the retransmission timer
  pub probed : WhenDue old now (new.flow.is_probed ≡ true)
  -- The timeout changes only then.
  pub still : WhenNotDue old now (new.flow.rto ≡ old.flow.rto)
  -- So does what is known of losses, and the count of duplicate acknowledgements.
  pub calm : WhenNotDue old now (KeepsCount old.flow new.flow)
  -- cwnd is smaller where something begins to wait and nothing was sent for longer than the timeout.
  pub idle :
      0 < count_of old.connection.sending → old.timers.resend_at ≡ None → now < 9223372036854775808
      → RestartsIdle old.flow new.flow now
  -- The first segment goes again at once after a third duplicate acknowledgement or a partial one (RFC 5681, RFC 6582).
  pub again :
      0 < count_of old.connection.sending → old.flow.resend ≡ true
      → SendsFirst old.connection.sending new.connection.sending outgoing given
  -- In fast recovery the first hole of what the peer has goes again, as far as the windows allow (RFC 6675, section 4).
  pub hole :
      (offset count : ℕ)
      → WhenSound old
      (WhenNotDue old now
      (old.flow.resend ≡ false → is_in_recovery old.flow.congestion.phase ≡ true
      → IsHole old.flow.scoreboard old.flow.rescued offset count → 0 < text_of old
      → offset < min old.connection.wnd new.flow.congestion.cwnd
      → MatchOption given ⊥ (λ s. s.number ≡ (old.connection.sending.una + offset) % 4294967296)))
  -- While something is not acknowledged, the timer runs (RFC 6298, section 5.1).
  pub armed : 0 < count_of old.connection.sending → IsArmed old.timers.resend_at new.timers.resend_at now
  -- What goes not is held back by the windows, Nagle's algorithm or the avoidance of silly windows.
  pub held :
      old.connection.sending.flight ≤ count_of old.connection.sending → 0 < count_of old.connection.sending
      → IsSound old.flow old.connection.sending.flight → SendsNone given → IsHeld new.flow (queue_of new)
  pub sound : WhenSound old (IsSound new.flow new.connection.sending.flight)
  -- A loss probe goes once, until an acknowledgement comes.
  pub stays : old.flow.is_probed ≡ true → new.flow.is_probed ≡ true
  -- While the timer runs, the end of the peer's patience does not change.
  pub patience :
      0 < count_of old.connection.sending
      → IfSome old.timers.resend_at (λ at. new.timers.ends_at ≡ old.timers.ends_at)
  -- No tick brings it nearer than 5 minutes.
  pub lasts : min old.timers.ends_at (later now 300000) ≤ new.timers.ends_at
  pub agreed : new.agreed ≡ old.agreed
  pub quiet : SendsNone given → new.connection ≡ old.connection
  -- Only SND.NXT changes.
  pub only : ChangesOnlyNext old.connection new.connection

-- before the peer's FIN the application still waits for bytes
abbrev pub waits_for_bytes : State → Bool
waits_for_bytes Closed = false
waits_for_bytes Listen = false
waits_for_bytes SynSent = false
waits_for_bytes SynReceived = false
waits_for_bytes Established = true
waits_for_bytes FinWait1 = true
waits_for_bytes FinWait2 = true
waits_for_bytes CloseWait = false
waits_for_bytes Closing = false
waits_for_bytes LastAck = false
waits_for_bytes TimeWait = false

-- whether the peer has to hear of the room that the application made (RFC 9293, section 3.8.6.2.2)
abbrev pub is_room_news : Socket → ℕ → Bool
is_room_news s incoming =
    waits_for_bytes (state_from s.connection) && is_update_due s.edge s.connection.receiving.next
    (room_of s.connection.receiving incoming) (least_growth incoming (mss_of s.options)) (own_scale s.agreed incoming)

-- the window that a socket advertises
abbrev pub window_of : Socket → ℕ → ℕ
window_of s incoming =
    advertised s.edge s.connection.receiving.next (room_of s.connection.receiving incoming)
    (least_growth incoming (mss_of s.options))

-- What is acknowledged when time passes in an open connection.
pub record Acknowledges (old : Socket) (incoming now : ℕ) (given : Option Segment) : Type 0 where
  -- A delayed acknowledgement goes at its time at the latest, also with text (RFC 9293, section 3.8.6.3).
  pub due : is_due old.timers.ack_at now ≡ true → is_some given ≡ true
  -- so does the news of a window that opened
  pub room : old.connection.receiving.is_open ≡ true → is_room_news old incoming ≡ true → is_some given ≡ true
  -- which advertises all the room that there is.
  pub opens :
      old.connection.receiving.is_open ≡ true → is_room_news old incoming ≡ true
      → IfSome given (λ s. s.window ≡ room_of old.connection.receiving incoming)
  -- Each segment acknowledges all that came.
  pub ack : IfSome given (λ s. s.ack ≡ (acknowledgement_of old.connection).ack)
  -- One without items is at SND.NXT, or one before it to probe a silent peer (RFC 9293, section 3.8.4).
  pub number :
      IfSome given (λ s. len_of s ≡ 0
      → (s.number ≡ next_of old.connection) ⊎ (s.number ≡ (next_of old.connection + 4294967295) % 4294967296))
  -- that of a delayed acknowledgement at SND.NXT
  pub at : is_due old.timers.ack_at now ≡ true → IfSome given (λ s. len_of s ≡ 0 → s.number ≡ next_of old.connection)
  -- None is a RST.
  pub rst : IfSome given (λ s. s.rst ≡ false)

-- The SYN goes again (RFC 6298, section 5.7), and the timeout doubles.
pub record SendsSyn (old new : Socket) (now : ℕ) (given : Option Segment) : Type 0 where
  pub syn :
      old.connection.phase ≡ phase.SynSent
      → spoken given ≡ Some (record { number = old.connection.iss; ack = None; syn = true; rst = false })
  pub syn_ack :
      old.connection.phase ≡ phase.SynReceived → spoken given
      ≡ Some (record { number = old.connection.iss; ack = Some (after old.connection.irs); syn = true; rst = false })
  pub backs_off : BacksOff old.flow.rto new.flow.rto
  pub timer : new.timers.resend_at ≡ Some (later now new.flow.rto.timeout)
  -- The set-up goes on, and its end is not put off.
  pub stays : endpoint_of new.connection ≡ endpoint_of old.connection
  pub patience : new.timers.ends_at ≡ old.timers.ends_at

-- An active open: the timers run (RFC 6298, section 2.1; RFC 9293, section 3.8.3).
pub record Connects (new : Socket) (now : ℕ) : Type 0 where
  pub timer : new.timers.resend_at ≡ Some (later now 1000)
  pub timeout : new.flow.rto.timeout ≡ 1000
  pub patience : new.timers.ends_at ≡ later now 180000

-- what an active open of a socket without a peer does
abbrev pub ConnectsBy : Event → Socket → Socket → ℕ → Type 0
ConnectsBy event.Listen old new now = Unit {0}
ConnectsBy (event.Open iss) old new now = has_peer (state_from old.connection) ≡ false → Connects new now
ConnectsBy (event.Arrives segment options fresh) old new now = Unit {0}
ConnectsBy event.Close old new now = Unit {0}
ConnectsBy event.Abort old new now = Unit {0}
ConnectsBy event.Tick old new now = Unit {0}

-- A duplicate acknowledgement (RFC 5681, section 2): it acknowledges SND.UNA again while something is in flight, has no text, SYN
-- or FIN, and tells the same window. It is near what is expected, and the window is not closed.
pub record IsDuplicate (una flight window next room : ℕ) (s : Segment) : Type 0 where
  pub waits : 0 < flight
  pub not_closed : 0 < window
  pub near : distance s.number next ≤ room + 1
  pub no_rst : s.rst ≡ false
  pub no_syn : s.syn ≡ false
  pub no_fin : s.fin ≡ false
  pub no_text : s.payload.now ≡ []
  pub ack : s.ack ≡ Some una
  pub same : s.window ≡ window

-- a segment is one for this socket, whose receive ring has this size
abbrev pub IsDuplicateFor : Socket → ℕ → Segment → Type 0
IsDuplicateFor old incoming s =
    IsDuplicate old.connection.sending.una old.connection.sending.flight old.connection.wnd
    old.connection.receiving.next
    (room_of old.connection.receiving incoming) s

-- One is counted, outside of fast recovery and after what was sent before it, up to two (RFC 6582, section 3.2). `una` is SND.UNA.
abbrev pub CountsDuplicate : Flow → Flow → ℕ → Type 0
CountsDuplicate old new una =
    is_in_recovery old.congestion.phase ≡ false → is_past old.congestion.phase una ≡ true
    → old.congestion.duplicates < 3
    → (new.resend ≡ true)
    ⊎ ((old.congestion.duplicates < new.congestion.duplicates) × (new.congestion.duplicates < 3))

-- after the third one the first segment goes again (RFC 5681, section 3.2; RFC 6582, section 3.2)
abbrev pub ResendsOnThird : Flow → Flow → ℕ → Type 0
ResendsOnThird old new una =
    is_in_recovery old.congestion.phase ≡ false → is_past old.congestion.phase una ≡ true
    → old.congestion.duplicates ≡ 2
    → new.resend ≡ true

-- The first segment goes again after a partial acknowledgement in fast recovery, of so many numbers, if it did not go again
-- before (RFC 6582, section 3.2). A loss probe that is acknowledged begins fast recovery (RFC 8985, section 7.4).
abbrev pub ResendsOnPartial : Flow → Flow → ℕ → ℕ → ℕ → Type 0
ResendsOnPartial old new una flight newly =
    0 < newly → is_partial (phase_heard old ((una + flight) % 4294967296)) una ≡ true → old.rescued ≤ newly
    → new.resend ≡ true

-- how many numbers from this one on are acknowledged
abbrev pub newly_after : Socket → ℕ → ℕ
newly_after s una = distance s.connection.sending.una una

-- how many numbers were newly acknowledged
abbrev pub newly_in : Socket → Socket → ℕ
newly_in old new = newly_after new old.connection.sending.una

-- the timer after an acknowledgement of something new: off if nothing waits (RFC 6298, sections 5.2 and 5.3)
abbrev pub restarted_at : Socket → ℕ → Option ℕ
restarted_at s now =
    if nat_lt 0 (s.connection.sending.flight + unsent_of s.connection.sending) then Some (later now (timer_of s.flow))
    else None

-- The timer starts anew after an acknowledgement, or it is off. SND.UNA was `una` before.
abbrev pub RestartsTimer : Socket → Socket → ℕ → ℕ → Type 0
RestartsTimer old new una now =
    (size : ℕ) → OutFits old.connection.sending size → 0 < newly_after old una
    → new.timers.resend_at ≡ restarted_at new now

-- What was remembered of the segments before an acknowledgement is of those in flight after it.
abbrev pub StaysSound : Socket → Socket → ℕ → Type 0
StaysSound old new una =
    IsSound old.flow (old.connection.sending.flight + newly_after old una)
    → IsSound new.flow old.connection.sending.flight

-- Congestion control is as before the retransmission, if the timestamp of an acknowledgement of something new shows that it was
-- not needed (RFC 3522, RFC 4015). SND.UNA was `una` before.
abbrev pub UndoesNeedless : Socket → Socket → ℕ → Option (ℕ × ℕ) → ℕ → Type 0
UndoesNeedless old new una timestamp now =
    0 < newly_after old una → is_needless old timestamp now ≡ true
    → Undoes old.flow new.flow (newly_after old una) old.connection.sending.flight old.connection.sending.una

-- What a segment makes of an open connection, with its window in bytes, and its timestamp t.
pub record Learns (old new : Socket) (outgoing : List ℕ) (incoming now : ℕ) (s : Segment) (t : Option (ℕ × ℕ)) : Type 0 where
  -- An acknowledgement of something that was sent becomes SND.UNA (RFC 9293, section 3.10.7.4).
  pub una :
      old.connection.receiving.is_open ≡ true
      → WhenTaken old.connection (room_of old.connection.receiving incoming) s
      (IfSome s.ack
      (λ ack. new.connection.sending.una
      ≡ (if is_of_sent old.connection.sending.una (next_of old.connection) ack then ack
      else old.connection.sending.una)))
  -- What is remembered of the segments stays that of those in flight.
  pub sound : IsSound old.flow old.connection.sending.flight → IsSound new.flow new.connection.sending.flight
  -- In the histories it is the event Ack_comes.
  pub hears :
      old.connection.receiving.is_open ≡ true
      → HearsAckOf old.connection (room_of old.connection.receiving incoming) s new.connection outgoing
  -- Then the timer starts anew, or it is off; otherwise it runs on.
  pub restarts : 0 < newly_in old new → new.timers.resend_at ≡ restarted_at new now
  pub keeps :
      newly_in old new ≡ 0 → (before : Option ℕ) → IsArmed before old.timers.resend_at now
      → IsArmed before new.timers.resend_at now
  -- It runs for a minute at most (RFC 6298, section 2.5).
  pub armed : 0 < newly_in old new → IfSome new.timers.resend_at (λ at. at ≤ later now 60000)
  -- An acknowledgement of something new puts the end of the peer's patience off, to 5 minutes from now at the least (RFC
  -- 9293, section 3.8.3), and no segment brings it nearer than that. In TIME-WAIT there is another end.
  pub lives :
      (state_from new.connection ≡ TimeWait → ⊥) → 0 < newly_in old new → later now 300000 ≤ new.timers.ends_at
  pub lasts :
      (state_from new.connection ≡ TimeWait → ⊥) → min old.timers.ends_at (later now 300000) ≤ new.timers.ends_at
  -- A segment near RCV.NXT puts it off as far, whatever it acknowledges.
  pub near :
      (state_from new.connection ≡ TimeWait → ⊥) → old.connection.receiving.is_open ≡ true → s.rst ≡ false
      → distance s.number old.connection.receiving.next ≤ room_of old.connection.receiving incoming + 1
      → later now 300000 ≤ new.timers.ends_at
  -- the first segment goes again after a partial acknowledgement in fast recovery (RFC 6582, section 3.2), if it did not go again
  -- before, and was lost
  pub partial :
      is_needless old t now ≡ false
      → ResendsOnPartial old.flow new.flow new.connection.sending.una new.connection.sending.flight (newly_in old new)
  -- If the acknowledgement shows that nothing was lost, congestion control is as before (RFC 3522, RFC 4015).
  pub undoes :
      0 < newly_in old new → is_needless old t now ≡ true
      → Undoes old.flow new.flow (newly_in old new) new.connection.sending.flight new.connection.sending.una
  -- Duplicate acknowledgements are counted,
  pub counted :
      newly_in old new ≡ 0 → IsDuplicateFor old incoming s → old.connection.receiving.is_open ≡ true
      → CountsDuplicate old.flow new.flow new.connection.sending.una
  -- and the third one has an effect.
  pub third :
      newly_in old new ≡ 0 → IsDuplicateFor old incoming s → old.connection.receiving.is_open ≡ true
      → ResendsOnThird old.flow new.flow new.connection.sending.una

-- a segment with the window of the peer in bytes: that of a SYN is not scaled (RFC 7323, section 2.2)
abbrev pub scaled_by : Agreed → Segment → Segment
scaled_by a s = record s { window = if s.syn then s.window else window_in a s.window }

-- what a segment that is not rejected makes of a connection that is open and stays so
abbrev pub LearnsBy : Event → Socket → Socket → List ℕ → ℕ → ℕ → Type 0
LearnsBy event.Listen old new outgoing incoming now = Unit {0}
LearnsBy (event.Open iss) old new outgoing incoming now = Unit {0}
LearnsBy (event.Arrives segment options fresh) old new outgoing incoming now =
    rejects old now segment.now options.now ≡ false
    → Learns old new outgoing incoming now (scaled_by old.agreed segment.now) options.now.timestamp
LearnsBy event.Close old new outgoing incoming now = Unit {0}
LearnsBy event.Abort old new outgoing incoming now = Unit {0}
LearnsBy event.Tick old new outgoing incoming now = Unit {0}

-- So many items go from SND.UNA on. If they come to the peer, which has so much room, and it acknowledges them, more is
-- acknowledged than before.
pub record ComesAcross (there : World) (s : Sending) (outgoing : List ℕ) (room : ℕ) : Type 0 where
  pub count : ℕ
  pub some : 0 < count
  pub waits : Waits (happens there (Send 0 count)) s outgoing
  pub more : there.acked < (run (round count room) there).acked

-- what is remembered when a segment opens the connection
abbrev pub BeginsBy : Event → Socket → Type 0
BeginsBy event.Listen new = Unit {0}
BeginsBy (event.Open iss) new = Unit {0}
BeginsBy (event.Arrives segment options fresh) new = IsSound new.flow new.connection.sending.flight
BeginsBy event.Close new = Unit {0}
BeginsBy event.Abort new = Unit {0}
BeginsBy event.Tick new = Unit {0}

-- A round: so many items go from SND.UNA on, and come to the peer, which has so much room. If the peer's acknowledgement of them
-- comes back then, the sending half waits in the history after that, in which more is acknowledged than before.
pub record GoesRound (there : World) (s : Sending) (outgoing : List ℕ) (room : ℕ) (ack : Option ℕ) : Type 0 where
  pub count : ℕ
  pub some : 0 < count
  pub more : there.acked < (run (round count room) there).acked
  pub waits :
      ack ≡ Some (happens (happens there (Send 0 count)) (Segment_comes 0 room)).receiver.next
      → Waits (run (round count room) there) s outgoing
