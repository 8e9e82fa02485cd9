-- What the calls of the application that need no ring make of a connection.
-- Pinned by: `judge`
use Rattle.std.specs.Prelude.{ℕ, ℤ, pos, ◌≡◌, ◌⊎◌, true, false, List, Option, None, IfSome, max}
use Rattle.tcp_stream.specs.Network.{World, Close, happens}
use Rattle.tcp_stream.specs.Waits.{Waits}
use Rattle.app_connection.specs.declared.state.State.{State}
use Rattle.app_connection.specs.declared.state.State.TheVariants.{Closed, Listen, SynSent, SynReceived, Established, FinWait1, FinWait2, CloseWait, Closing, LastAck, TimeWait}
use Rattle.app_connection.specs.Endpoints.{endpoint_of}
use Rattle.app_connection.specs.SetUp.{In_closed, In_listen}
use Rattle.app_connection.specs.States.{may_close, state_closed, state_from}
use Rattle.app_connection.specs.Steps.{Steps}
use Rattle.app_connection.specs.Worlds.{Said}
use Rattle.app_connection.specs.declared.step.Event.TheVariants as move
use Rattle.app_socket.specs.Segments.{GoesAgain, Lowers, is_narrower}
use Rattle.app_socket.specs.declared.socket.Socket.{Socket}
use Rattle.c_socket.specs.Segments.{IsReset}
use Rattle.c_socket.specs.declared.segment.SegmentFields.{SegmentFields}

-- the number of a state (`enum lk_connection_state`)
abbrev pub state_code : State → ℕ
state_code Closed = 0
state_code Listen = 1
state_code SynSent = 2
state_code SynReceived = 3
state_code Established = 4
state_code FinWait1 = 5
state_code FinWait2 = 6
state_code CloseWait = 7
state_code Closing = 8
state_code LastAck = 9
state_code TimeWait = 10

-- CLOSED becomes LISTEN, and another state stays (section 3.10.1)
pub record Listens (old new : Socket) : Type 0 where
  pub same : new ≡ record old { connection = new.connection }
  pub listens : state_from old.connection ≡ Closed → endpoint_of new.connection ≡ In_listen
  pub stays : (state_from old.connection ≡ Closed → ⊥) → new ≡ old
  pub steps :
      (outgoing incoming : List ℕ) → Steps old.connection new.connection outgoing incoming incoming move.Listen None

-- The application writes no more (section 3.10.4): a FIN follows what it wrote.
pub record Closes (old new : Socket) : Type 0 where
  pub same : new ≡ record old { connection = new.connection }
  pub state : state_from new.connection ≡ state_closed (state_from old.connection)
  pub receiving : new.connection.receiving ≡ old.connection.receiving
  pub waits : may_close (state_from old.connection) ≡ true → (there : World) (outgoing : List ℕ)
      → Waits there old.connection.sending outgoing → Waits (happens there Close) new.connection.sending outgoing
  pub stays : may_close (state_from old.connection) ≡ false → new.connection.sending ≡ old.connection.sending
  pub steps :
      (outgoing incoming : List ℕ) → Steps old.connection new.connection outgoing incoming incoming move.Close None

-- 1 is returned and an RST is stored; or 0, and nothing is
abbrev pub StoresReset : SegmentFields → SegmentFields → ℤ → Type 0
StoresReset old new code =
    ((code ≡ pos 1) × IsReset new) ⊎ ((code ≡ pos 0) × (new ≡ old))

-- A connection is given up: CLOSED, with nothing else changed.
pub record Aborts (old new : Socket) (out out' : SegmentFields) (code : ℤ) : Type 0 where
  pub same : new ≡ record old { connection = new.connection }
  pub closed : endpoint_of new.connection ≡ In_closed
  pub sending : new.connection.sending ≡ old.connection.sending
  pub receiving : new.connection.receiving ≡ old.connection.receiving
  pub given : Option Said
  pub reset : IfSome given (λ s. s.rst ≡ true)
  pub steps :
      (outgoing incoming : List ℕ) → Steps old.connection new.connection outgoing incoming incoming move.Abort given
  pub stores : StoresReset out out' code

-- The path takes segments of `mss` bytes, by an error about one in flight: what is in flight goes again in such segments.
pub record Learns (old new : Socket) (number mss : ℕ) : Type 0 where
  pub same : new ≡ record old { limit = new.limit; flow = new.flow }
  pub lowers : is_narrower old number mss ≡ true → Lowers old new (max 48 mss)
  pub again : is_narrower old number mss ≡ true → GoesAgain old.flow new.flow
  pub other : is_narrower old number mss ≡ false → new ≡ old
