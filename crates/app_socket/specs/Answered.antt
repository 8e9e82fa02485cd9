-- How the other end of a run answers the segment at SND.UNA.
-- Pinned by: `socket/scenarios`
use Rattle.std.specs.Prelude.{ℕ, ◌≡◌, ◌≤◌, ◌<◌, List, length, min, true, false, Option, Some, MatchOption}
use Rattle.app_connection.specs.declared.segment.Segment.{Segment}
use Rattle.app_connection.specs.declared.state.Phase.TheVariants as phase
use Rattle.app_connection.specs.Endpoints.{len_of}
use Rattle.app_connection.specs.Runs as connection
use Rattle.app_connection.specs.Runs.{IsFrom}
use Rattle.app_connection.specs.States.{has_peer, state_from}
use Rattle.app_connection.specs.Worlds.{said}
use Rattle.app_socket.specs.declared.laws.pair.Exchange.{Exchange}
use Rattle.app_socket.specs.Pair.{MayAnswer, Past, end_at}
use Rattle.app_socket.specs.declared.socket.Socket.{Socket}
use Rattle.app_socket.specs.Rounds.{AcknowledgesItems}
use Rattle.app_socket.specs.Runs.{End, Runs, end_of}
use Rattle.app_socket.specs.Segments.{StaysOrUpdates}
use Rattle.app_socket.specs.Times.{is_open, later}
use Rattle.tcp_stream.specs.Waits.{count_of}

-- the segment at SND.UNA of an end, which acknowledges all that came there
pub record AtUna (a : connection.End) (s : Segment) : Type 0 where
  pub number : s.number ≡ a.connection.sending.una
  pub some : 0 < len_of s
  pub rst : s.rst ≡ false
  pub syn : s.syn ≡ false
  pub ack : s.ack ≡ Some a.connection.receiving.next

-- the set-up of an end is over
pub record IsSet (a : connection.End) : Type 0 where
  pub opened : a.was_opened ≡ true
  pub open_phase : a.connection.phase ≡ phase.Open
  pub has : has_peer (state_from a.connection) ≡ true
  pub synced : a.connection.receiving.is_open ≡ true

-- the other end after its answer, which is an acknowledgement of something new; `was` is before the segment came
pub record Answered (a : End) (was new : Socket) (answers after : List ℕ) (t : Past) (r : Exchange) (s : Segment) : Type 0 where
  pub past : Past
  pub runs : Runs (record { here = a; there = end_at new answers after past })
  pub wrote : past.wrote ≡ t.wrote
  pub read : past.read ≡ t.read
  pub from : IsFrom past.sent (length past.wrote) (length a.wrote) (said s)
  pub taken : ℕ
  pub acks : AcknowledgesItems a.socket.connection s taken
  pub next : s.ack ≡ Some new.connection.receiving.next
  pub opened : is_open (state_from new.connection) ≡ true
  pub synced : new.connection.receiving.is_open ≡ true
  pub idle : count_of new.connection.sending ≡ 0
  pub writes : new.connection.sending.is_closed ≡ false
  pub recent : StaysOrUpdates was.agreed.recent new.agreed.recent r.text.options.timestamp r.arrives
  pub lasts : min was.timers.ends_at (later r.arrives 300000) ≤ new.timers.ends_at
  pub lives : a.socket.connection.sending.una ≡ was.connection.receiving.next → later r.arrives 300000 ≤ new.timers.ends_at

-- this segment is answered
abbrev pub AnsweredBy : Socket → Socket → List ℕ → List ℕ → List ℕ → Exchange → Segment → Option Segment → Type 0
AnsweredBy old new answers before after r sent result =
    (a : End) (t : Past) → Runs (record { here = a; there = end_at old answers before t }) → IsSet (end_of a) → AtUna (end_of a) sent → IsFrom a.sent (length a.wrote) (length t.wrote) (said sent)
    → 0 < count_of a.socket.connection.sending → MayAnswer old (length before) r → MatchOption result ⊥ (Answered a old new answers after t r)
