-- What the calls of a connection return and store.
-- Pinned by: `judge`
use Rattle.std.specs.Prelude.{ℕ, ℤ, pos, negsuc, ◌≡◌, ◌≤◌, ◌⊎◌, ◌++◌, false, Option, None, Some, List, length, take, drop}
use Rattle.tcp_stream.specs.Network.{World, run, start, IsPrefixOf}
use Rattle.tcp_stream.specs.Network.{Event as Move}
use Rattle.tcp_stream.specs.Stands.{Stands}
use Rattle.app_connection.specs.declared.connection.Connection.{Connection}
use Rattle.app_connection.specs.declared.segment.Segment.{Segment}
use Rattle.app_connection.specs.Endpoints.{InFits, OutFits}
use Rattle.app_connection.specs.Promises.{HasNoText}
use Rattle.app_connection.specs.States.{has_peer, state_from}
use Rattle.app_connection.specs.Steps as connection
use Rattle.app_socket.specs.Events.{IsQuiet, IsTick}
use Rattle.app_socket.specs.Fields.{socket_of}
use Rattle.app_socket.specs.Promises.{AcknowledgesInTime, AcknowledgesReceived, AdvertisesWindow, AnswersBare, AnswersStale, BeginsSound}
use Rattle.app_socket.specs.Promises.{Continues, DropsStale, EndsBySilence, EndsNoLater, HasShortText, HearsTimestamp, HoldsAnswers, IsPatient, KeepsRecent, KeepsRoom, LearnsFrom, LimitsAnswers}
use Rattle.app_socket.specs.Promises.{OwesAck, OwesNoAck, ResendsInTime, ResendsSyn, RestsUntilDue, SendsStream, SendsWithin, StaysIdle, StaysOpen, TakesText}
use Rattle.app_socket.specs.Replies.{RepliesToItems}
use Rattle.app_socket.specs.Resends.{ConnectsBy}
use Rattle.app_socket.specs.Segments.{header_of}
use Rattle.app_socket.specs.declared.fields.SocketFields.{SocketFields}
use Rattle.app_socket.specs.declared.socket.Socket.{Socket}
use Rattle.app_socket.specs.declared.step.Event.{Event}
use Rattle.app_socket.specs.declared.step.Event.TheVariants as event
use Rattle.wire_tcp_options.specs.declared.tcp.summary.TcpOptionSummary.{TcpOptionSummary}
use Rattle.c_structs.specs.Written.{within}
use Rattle.c_socket.specs.Segments.{fields_of}
use Rattle.c_socket.specs.declared.segment.SegmentFields.{SegmentFields}

-- 1 is returned and the segment with its header is stored; or 0, and nothing is
abbrev pub Stores : Socket → ℕ → ℕ → Option Segment → SegmentFields → SegmentFields → ℤ → Type 0
Stores s incoming now None old new code = (code ≡ pos 0) × (new ≡ old)
Stores s incoming now (Some segment) old new code =
    (code ≡ pos 1) × (new ≡ fields_of segment (header_of s segment incoming now))

-- What one event makes of a socket and of the ring of what comes, and what it gives to send: the clauses of
-- `step` of `app_socket`, by the same names.
pub record Steps (old new : Socket) (outgoing before after : List ℕ) (now : ℕ) (e : Event) (given : Option Segment) : Type 0 where
  pub out : OutFits new.connection.sending (length outgoing)
  pub rings : InFits new.connection.receiving (length before)
  pub steps : Continues old new outgoing before after now e given
  pub ends : IsTick e → EndsBySilence old new now
  pub idle : IsTick e → StaysIdle old new
  pub no_later : IsQuiet e → EndsNoLater old new
  pub tells : AdvertisesWindow old new (length before) given
  pub keeps : KeepsRoom old new (length before)
  pub text : (IsTick e → ⊥) → HasNoText given
  pub short : IsTick e → HasShortText given
  pub sends : SendsStream old outgoing given
  pub answers : AcknowledgesReceived old new after given
  pub stale : DropsStale old new now e
  pub answered : AnswersStale old now e given
  pub within : SendsWithin old new given
  pub acks : OwesNoAck old new given
  pub owes : OwesAck old new now e given
  pub replies : RepliesToItems old new now e given
  pub to_bare : AnswersBare old new (length before) now e given
  pub held : HoldsAnswers old new now e given
  pub quiet : LimitsAnswers old new now e given
  pub recent : KeepsRecent old new now
  pub timestamp : HearsTimestamp e old new now
  pub patience : IsPatient old new now
  pub connects : ConnectsBy e old new now
  pub begins : BeginsSound old new e
  pub stays : StaysOpen old new e
  pub gets : TakesText old new before after now e
  pub learns : LearnsFrom old new outgoing (length before) now e
  pub resends : IsTick e → ResendsInTime old new outgoing now given
  pub acknowledges : IsTick e → AcknowledgesInTime old (length before) now given
  pub again : IsTick e → ResendsSyn old new now given
  pub rests : IsTick e → RestsUntilDue new now given

-- the rings of a socket have these sizes
pub record Fits (s : Socket) (outgoing incoming : ℕ) : Type 0 where
  pub out : OutFits s.connection.sending outgoing
  pub rings : InFits s.connection.receiving incoming

-- an event comes to a connection whose rings fit
pub record Met (Is : Event → Type 0) (old new : SocketFields) (outgoing before after : List ℕ) (now : ℕ) (out out' : SegmentFields) (code : ℤ) : Type 0 where
  pub e : Event
  pub is : Is e
  pub given : Option Segment
  pub fits : Fits (socket_of old) (length outgoing) (length before)
  pub steps : Steps (socket_of old) (socket_of new) outgoing before after now e given
  pub stores : Stores (socket_of new) (length before) now given out out' code

-- nothing changes, and -1 is returned
pub record IsUnchanged (old new : SocketFields) (before after : List ℕ) (out out' : SegmentFields) (code : ℤ) : Type 0 where
  pub is : code ≡ negsuc 0
  pub kept : new ≡ old
  pub unchanged : after ≡ before
  pub unwritten : out' ≡ out

-- what a call for an event does
abbrev pub Meets : (Event → Type 0) → SocketFields → SocketFields → List ℕ → List ℕ → List ℕ → ℕ → SegmentFields
    → SegmentFields → ℤ → Type 0
Meets Is old new outgoing before after now out out' code =
    ((Fits (socket_of old) (length outgoing) (length before) → ⊥) × IsUnchanged old new before after out out' code)
    ⊎ Met Is old new outgoing before after now out out' code

-- this segment with these options comes, with this fresh number
abbrev pub IsArrival : Segment → TcpOptionSummary → ℕ → Event → Type 0
IsArrival segment options fresh event.Listen = ⊥
IsArrival segment options fresh (event.Open iss) = ⊥
IsArrival segment options fresh (event.Arrives s o f) = (s.now ≡ segment) × (o.now ≡ options) × (f ≡ fresh)
IsArrival segment options fresh event.Close = ⊥
IsArrival segment options fresh event.Abort = ⊥
IsArrival segment options fresh event.Tick = ⊥

-- ---- bytes

-- The ring took the first bytes of these, as far as it has room (section 3.10.2).
pub record Written (old new : Connection) (before after bytes : List ℕ) (count : ℕ) : Type 0 where
  pub fits : OutFits old.sending (length before)
  pub few : count ≤ length bytes
  pub writes : connection.Writes old new before after (take count bytes)
  pub none : has_peer (state_from old) ≡ false → count ≡ 0

-- -1 is returned if the ring does not fit, and nothing is changed; or how many bytes it took
abbrev pub Writes : SocketFields → SocketFields → List ℕ → List ℕ → List ℕ → ℤ → Type 0
Writes old new before after bytes code =
    ((OutFits (socket_of old).connection.sending (length before) → ⊥) × (code ≡ negsuc 0) × (new ≡ old)
    × (after ≡ before))
    ⊎ ((count : ℕ) × (code ≡ pos count)
    × Written (socket_of old).connection (socket_of new).connection before after (within bytes) count)

-- The next bytes of the peer are at the beginning of the output (section 3.10.3): they go on with what was read before.
pub record Delivers (old new : Connection) (incoming before after : List ℕ) (count : ℕ) : Type 0 where
  pub bytes : List ℕ
  pub are : count ≡ length bytes
  pub written : after ≡ bytes ++ drop count before
  pub reads : connection.Reads old new incoming bytes
  pub delivers : (initial : ℕ) (events : List Move) (consumed : List ℕ)
      → let back : World = run events (start initial)
      in Stands back consumed old.receiving incoming → IsPrefixOf (consumed ++ bytes) back.written

-- -1 is returned if the ring does not fit, and nothing is changed; or how many bytes were read
abbrev pub Reads : SocketFields → SocketFields → List ℕ → List ℕ → List ℕ → ℤ → Type 0
Reads old new incoming before after code =
    ((InFits (socket_of old).connection.receiving (length incoming) → ⊥) × (code ≡ negsuc 0) × (new ≡ old)
    × (after ≡ before))
    ⊎ ((count : ℕ) × (code ≡ pos count)
    × Delivers (socket_of old).connection (socket_of new).connection incoming before after count)
