-- What one event makes of a socket: a name for each clause of `step`, and for what the functions below it promise too. `old` and
-- `new` are the socket before and after the event, and `given` is the segment that is returned.
-- Pinned by: `socket/scenarios`
use Rattle.std.specs.Prelude.{ℕ, ◌≡◌, ◌<◌, ◌≤◌, ◌&&◌, not, List, length, Option, IfSome, MatchOption, None, is_some, max, option_map, true, false}
use Rattle.tcp_stream.specs.Network.{World}
use Rattle.tcp_stream.specs.Stands.{room_of}
use Rattle.tcp_stream.specs.Waits.{Waits}
use Rattle.app_connection.specs.declared.segment.Segment.{Segment}
use Rattle.app_connection.specs.declared.step.Event.{Event as Move}
use Rattle.app_connection.specs.Endpoints.{endpoint_of, len_of}
use Rattle.app_connection.specs.Events.{ComesWithoutReset, GetsBy, brings_bare, brings_items, is_answered}
use Rattle.app_connection.specs.Promises.{AnswersIn}
use Rattle.app_connection.specs.SetUp.{In_closed}
use Rattle.app_connection.specs.States.{has_peer, state_from}
use Rattle.app_connection.specs.Steps.{Steps}
use Rattle.app_connection.specs.Worlds.{said}
use Rattle.app_socket.specs.Events.{move_of}
use Rattle.app_socket.specs.Limits.{holds, quiet_by}
use Rattle.app_socket.specs.Resends.{Acknowledges, BeginsBy, IsSound, LearnsBy, Resends, SendsSyn, is_due}
use Rattle.app_socket.specs.Segments.{GoesForward, IsSent, StaysOrUpdates, has_timestamp, is_stale, taken_of}
use Rattle.app_socket.specs.Times.{due_in, is_open, later, patience_of}
use Rattle.app_socket.specs.Window.{HasRoom, Tells, end_after, limit_of}
use Rattle.app_socket.specs.declared.socket.Socket.{Socket}
use Rattle.app_socket.specs.declared.step.Event.{Event}
use Rattle.app_socket.specs.declared.step.Event.TheVariants as event

-- the connection is in a synchronized state (RFC 9293, section 3.3.2)
abbrev pub IsOpen : Socket → Type 0
IsOpen s = is_open (state_from s.connection) ≡ true

-- a fact about a connection that is open and stays so
abbrev pub WhileOpen : Socket → Socket → Type 0 → Type 0
WhileOpen old new fact = IsOpen old → IsOpen new → fact

-- a fact about an open connection before it ends by its peer's silence
abbrev pub InTime : Socket → ℕ → Type 0 → Type 0
InTime old now fact = IsOpen old → now < old.timers.ends_at → fact

-- ---- streams

-- what `app_connection` promises of this event of the connection
abbrev pub StepsBy : Socket → Socket → List ℕ → List ℕ → List ℕ → Move → Option Segment → Type 0
StepsBy old new outgoing before after move given =
    Steps old.connection new.connection outgoing before after move (option_map said given)

-- That of an event of the socket: if PAWS drops a segment, for the connection only time passes.
abbrev pub Continues : Socket → Socket → List ℕ → List ℕ → List ℕ → ℕ → Event → Option Segment → Type 0
Continues old new outgoing before after now e given = StepsBy old new outgoing before after (taken_of old now e) given

-- text and FIN are those of the stream
abbrev pub SendsStream : Socket → List ℕ → Option Segment → Type 0
SendsStream old outgoing given =
    IsOpen old
    → IfSome given (λ s. 0 < len_of s → (there : World) → Waits there old.connection.sending outgoing → IsSent there s)

-- a segment has at most 65,535 bytes of text
abbrev pub HasShortText : Option Segment → Type 0
HasShortText given = IfSome given (λ s. length s.payload.now < 65536)

-- text and FIN in the window are taken, unless PAWS drops the segment
abbrev pub TakesText : Socket → Socket → List ℕ → List ℕ → ℕ → Event → Type 0
TakesText old new before after now e =
    IsOpen old → old.connection.receiving.is_open ≡ true → is_stale old now e ≡ false
    → GetsBy (move_of e) old.connection (room_of old.connection.receiving (length before)) new.connection.receiving
    before after

-- what is acknowledged came
abbrev pub AcknowledgesReceived : Socket → Socket → List ℕ → Option Segment → Type 0
AcknowledgesReceived old new incoming given =
    WhileOpen old new (IfSome given (λ s. AnswersIn new.connection.receiving incoming s))

-- ---- windows

-- each acknowledgement advertises a window whose right edge does not go back
abbrev pub AdvertisesWindow : Socket → Socket → ℕ → Option Segment → Type 0
AdvertisesWindow old new size given =
    WhileOpen old new
    (IfSome given (λ s. IfSome s.ack (λ ack. Tells old.edge new.edge new.connection.receiving size ack s.window)))

-- the ring keeps room for the window that was advertised, before the peer's FIN
abbrev pub KeepsRoom : Socket → Socket → ℕ → Type 0
KeepsRoom old new size =
    WhileOpen old new
    (old.connection.receiving.has_fin ≡ false → new.connection.receiving.has_fin ≡ false
    → HasRoom old.edge old.connection.receiving size → HasRoom new.edge new.connection.receiving size)

-- text and FIN end within SND.WND and cwnd
abbrev pub SendsWithin : Socket → Socket → Option Segment → Type 0
SendsWithin old new given =
    WhileOpen old new
    (IfSome given
    (λ s. 0 < len_of s → end_after old.connection.sending.una s ≤ limit_of old.connection.wnd new.flow.congestion.cwnd))

-- ---- acknowledgements

-- no acknowledgement is owed after a segment went
abbrev pub OwesNoAck : Socket → Socket → Option Segment → Type 0
OwesNoAck old new given = WhileOpen old new (IfSome given (λ s. new.timers.ack_at ≡ None))

-- it goes at once, or is due within 40 ms
abbrev pub AcksSoon : Socket → ℕ → Option Segment → Type 0
AcksSoon new now given = given ≡ None → MatchOption new.timers.ack_at ⊥ (λ t. t ≤ later now 40)

-- Text, SYN and FIN are acknowledged at once, or within 40 ms (RFC 9293, section 3.8.6.3). Only the answer to a SYN may be held
-- back.
abbrev pub OwesAck : Socket → Socket → ℕ → Event → Option Segment → Type 0
OwesAck old new now e given =
    WhileOpen old new
    (old.connection.receiving.is_open ≡ true → is_stale old now e ≡ false → holds old now e ≡ false
    → brings_items (move_of e) ≡ true → AcksSoon new now given)

-- which acknowledgements without items are answered: those that need it, unless the answer is held back
abbrev pub AnswersBare : Socket → Socket → ℕ → ℕ → Event → Option Segment → Type 0
AnswersBare old new size now e given =
    WhileOpen old new
    (is_stale old now e ≡ false → brings_bare (move_of e) ≡ true
    → is_some given ≡ (is_answered (move_of e) old.connection (room_of old.connection.receiving size)
    && not (holds old now e)))

-- no answer goes that is held back
abbrev pub HoldsAnswers : Socket → Socket → ℕ → Event → Option Segment → Type 0
HoldsAnswers old new now e given = WhileOpen old new (holds old now e ≡ true → given ≡ None)

-- after one that is limited, the next one is held back for half a second (RFC 5961, section 7)
abbrev pub LimitsAnswers : Socket → Socket → ℕ → Event → Option Segment → Type 0
LimitsAnswers old new now e given = WhileOpen old new (new.quiet_until ≡ quiet_by e old now (is_some given))

-- ---- PAWS

-- what is owed and advertised changes, and when the next answer goes, and nothing else
abbrev pub ChangesOnlyAck : Socket → Socket → Type 0
ChangesOnlyAck old new =
    new
    ≡ record old {
      timers = record old.timers { ack_at = new.timers.ack_at };
      edge = new.edge;
      quiet_until = new.quiet_until;
    }

-- a segment with an old timestamp is dropped (RFC 7323, section 5.3)
abbrev pub DropsStale : Socket → Socket → ℕ → Event → Type 0
DropsStale old new now e = is_stale old now e ≡ true → ChangesOnlyAck old new

-- it is answered, if it has a timestamp and the answer is not held back
abbrev pub AnswersStale : Socket → ℕ → Event → Option Segment → Type 0
AnswersStale old now e given = is_stale old now e ≡ true → is_some given ≡ (has_timestamp e && not (holds old now e))

-- TS.Recent does not go back
abbrev pub KeepsRecent : Socket → Socket → ℕ → Type 0
KeepsRecent old new now = IsOpen old → GoesForward old.agreed.recent new.agreed.recent now

-- TS.Recent becomes no timestamp but that of the segment
abbrev pub HearsTimestamp : Event → Socket → Socket → ℕ → Type 0
HearsTimestamp event.Listen old new now = Unit {0}
HearsTimestamp (event.Open iss) old new now = Unit {0}
HearsTimestamp (event.Arrives segment options fresh) old new now =
    IsOpen old → StaysOrUpdates old.agreed.recent new.agreed.recent options.now.timestamp now
HearsTimestamp event.Close old new now = Unit {0}
HearsTimestamp event.Abort old new now = Unit {0}
HearsTimestamp event.Tick old new now = Unit {0}

-- ---- what goes again

-- what is remembered is of what is in flight
abbrev pub RemembersFlight : Socket → Type 0
RemembersFlight s = IsSound s.flow s.connection.sending.flight

-- that is so when a segment opens the connection
abbrev pub BeginsSound : Socket → Socket → Event → Type 0
BeginsSound old new e = is_open (state_from old.connection) ≡ false → IsOpen new → BeginsBy e new

-- what is learned of a segment
abbrev pub LearnsFrom : Socket → Socket → List ℕ → ℕ → ℕ → Event → Type 0
LearnsFrom old new outgoing size now e = WhileOpen old new (LearnsBy e old new outgoing size now)

-- what goes when time passes, and when again
abbrev pub ResendsInTime : Socket → Socket → List ℕ → ℕ → Option Segment → Type 0
ResendsInTime old new outgoing now given = InTime old now (Resends old new outgoing now given)

-- what is acknowledged then
abbrev pub AcknowledgesInTime : Socket → ℕ → ℕ → Option Segment → Type 0
AcknowledgesInTime old size now given = InTime old now (Acknowledges old size now given)

-- a SYN that is not acknowledged goes again
abbrev pub ResendsSyn : Socket → Socket → ℕ → Option Segment → Type 0
ResendsSyn old new now given =
    has_peer (state_from old.connection) ≡ true → is_open (state_from old.connection) ≡ false → now < old.timers.ends_at
    → is_due old.timers.resend_at now ≡ true → SendsSyn old new now given

-- ---- the end

-- after the peer's silence the connection ends
abbrev pub EndsBySilence : Socket → Socket → ℕ → Type 0
EndsBySilence old new now =
    has_peer (state_from old.connection) ≡ true → old.timers.ends_at ≤ now → endpoint_of new.connection ≡ In_closed

-- without a connection nothing happens
abbrev pub StaysIdle : Socket → Socket → Type 0
StaysIdle old new = has_peer (state_from old.connection) ≡ false → new ≡ old

-- a segment without RST leaves a connection open
abbrev pub StaysOpen : Socket → Socket → Event → Type 0
StaysOpen old new e =
    IsOpen old → ComesWithoutReset (move_of e) → endpoint_of new.connection ≡ endpoint_of old.connection

-- the end is not put off
abbrev pub EndsNoLater : Socket → Socket → Type 0
EndsNoLater old new = new.timers.ends_at ≤ old.timers.ends_at

-- it is put off by the socket's patience at most
abbrev pub IsPatient : Socket → Socket → ℕ → Type 0
IsPatient old new now = new.timers.ends_at ≤ max old.timers.ends_at (later now (patience_of old.options))

-- after a tick that returned nothing, the next one is due later
abbrev pub RestsUntilDue : Socket → ℕ → Option Segment → Type 0
RestsUntilDue new now given =
    now < 9223372036854775808 → given ≡ None → IfSome (due_in (state_from new.connection) new.timers) (λ t. now < t)
