-- Rounds of a network that loses: in each of them the retransmission timer expires, and what goes then is acknowledged.
-- Pinned by: `socket/scenarios`
use Rattle.std.specs.Prelude.{ℕ, ◌≡◌, ◌+◌, ◌%◌, ◌≤◌, ◌<◌, max, true, false, List, [], ◌∷◌, MatchOption, Some}
use Rattle.tcp_stream.specs.Network.{World}
use Rattle.tcp_stream.specs.declared.sending.Sending.{Sending}
use Rattle.tcp_stream.specs.Waits.{Waits, count_of}
use Rattle.app_connection.specs.declared.connection.Connection.{Connection}
use Rattle.app_connection.specs.declared.segment.Segment.{Segment}
use Rattle.app_connection.specs.Endpoints.{len_of}
use Rattle.app_connection.specs.States.{state_from}
use Rattle.app_connection.specs.Worlds.{IsDone, Stand}
use Rattle.app_socket.specs.declared.laws.Round.{Round}
use Rattle.app_socket.specs.declared.socket.Socket.{Socket}
use Rattle.app_socket.specs.Times.{is_open, later}

-- The connection stands for histories of both directions.
pub record StandsFor (c : Connection) (outgoing incoming : List ℕ) : Type 0 where
  pub there : World
  pub back : World
  pub consumed : List ℕ
  pub stand : Stand there back consumed c outgoing incoming

-- when the timer expires at the latest, after calls at these times: at most a minute after each (RFC 6298, section 2.5)
abbrev pub expires_by : ℕ → List ℕ → ℕ
expires_by by [] = by
expires_by by (time ∷ times) = expires_by (max by (time + 60000)) times

-- all these times are before another one
abbrev pub AreBefore : List ℕ → ℕ → Type 0
AreBefore [] end = Unit {0}
AreBefore (time ∷ times) end = (time < end) × AreBefore times end

-- A round, if the timer expires by `by`, and silence ends the connection at `end`: at both times the timer has expired, since each
-- call starts it for a minute at most, and the connection has not ended.
pub record IsRound (by end : ℕ) (r : Round) : Type 0 where
  pub lost : AreBefore r.lost.now end
  pub first : expires_by by r.lost.now ≤ r.first
  pub second : r.first + 60000 ≤ r.second
  pub patient : r.second < end

-- Rounds, one after the other. The acknowledgement of each starts the timer anew, and puts off the end by silence.
abbrev pub AreRounds : ℕ → ℕ → List Round → Type 0
AreRounds by end [] = Unit {0}
AreRounds by end (r ∷ rs) = IsRound by end r × AreRounds (r.answered + 60000) (later r.answered 300000) rs

-- An open connection has a timer, which expires by `by`, and silence does not end it before `end`.
pub record IsWaiting (s : Socket) (by end : ℕ) : Type 0 where
  pub opened : is_open (state_from s.connection) ≡ true
  pub synced : s.connection.receiving.is_open ≡ true
  pub timer : MatchOption s.timers.resend_at ⊥ (λ at. at ≤ by)
  pub patient : end ≤ s.timers.ends_at

-- After calls at which time passed as many items wait as before.
pub record StillWaits (old new : Socket) (outgoing incoming : List ℕ) (by end : ℕ) : Type 0 where
  pub waiting : IsWaiting new by end
  pub count : count_of new.connection.sending ≡ count_of old.connection.sending
  pub agreed : new.agreed ≡ old.agreed
  pub stands : StandsFor new.connection outgoing incoming

-- A bare acknowledgement at RCV.NXT, of so many items in flight.
pub record AcknowledgesItems (c : Connection) (s : Segment) (taken : ℕ) : Type 0 where
  pub number : s.number ≡ c.receiving.next
  pub ack : s.ack ≡ Some ((c.sending.una + taken) % 4294967296)
  pub rst : s.rst ≡ false
  pub bare : len_of s ≡ 0
  pub some : 0 < taken
  pub few : taken ≤ c.sending.flight

-- After a round fewer items wait. If some do, the timer runs again, and the end by silence is put off.
pub record GoesFurther (old new : Socket) (outgoing incoming : List ℕ) (now : ℕ) : Type 0 where
  pub less : count_of new.connection.sending < count_of old.connection.sending
  pub waiting : 0 < count_of new.connection.sending → IsWaiting new (now + 60000) (later now 300000)
  pub stands : StandsFor new.connection outgoing incoming

-- Nothing waits: in each history all that was written is acknowledged, and the end too.
pub record IsAllAcknowledged (s : Sending) (outgoing : List ℕ) : Type 0 where
  pub none : count_of s ≡ 0
  pub done : (there : World) → Waits there s outgoing → IsDone there
