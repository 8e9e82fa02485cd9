-- A run of two sockets: calls of both programs in any order and at any times, over a network that loses, repeats, reorders, delays,
-- splits and joins the segments that these calls returned.
-- Pinned by: `socket/scenarios`
use Rattle.std.specs.Prelude.{ℕ, ◌≡◌, ◌++◌, ◌||◌, List, length, Bool, Option}
use Rattle.app_connection.specs.Endpoints.{OutFits}
use Rattle.app_connection.specs.Runs as connection
use Rattle.app_connection.specs.Runs.{MayCome, OpensOnce, Sent, with_returned}
use Rattle.app_connection.specs.States.{has_peer, state_from}
use Rattle.app_connection.specs.Steps.{Reads, Steps, Writes}
use Rattle.app_connection.specs.Worlds.{Said}
use Rattle.app_socket.specs.declared.socket.Socket.{Socket}
use Rattle.app_socket.specs.declared.step.Event.{Event}
use Rattle.app_socket.specs.Segments.{taken_of}

-- one end, as that of a connection
pub record End : Type 0 where
  pub socket : Socket
  pub outgoing : List ℕ
  pub incoming : List ℕ
  pub was_opened : Bool
  pub wrote : List ℕ
  pub read : List ℕ
  pub sent : List Sent

-- its connection
abbrev pub end_of : End → connection.End
end_of a = record { connection = a.socket.connection; outgoing = a.outgoing; incoming = a.incoming; was_opened = a.was_opened; wrote = a.wrote; read = a.read; sent = a.sent }

-- the end after a step
abbrev pub stepped : End → End → Socket → List ℕ → Option Said → End
stepped a b new incoming result = record a {
  socket = new;
  incoming = incoming;
  was_opened = a.was_opened || has_peer (state_from new.connection);
  sent = with_returned result (length a.wrote) (length b.wrote) a.sent;
}

-- A call of one end, beside the other. A segment that comes is from the other end, and not too old: unless PAWS drops it.
-- Other calls, as `limit_mss`, leave the connection.
pub data Calls (a b : End) : End → Type 0 where
  steps : (now : ℕ) (e : Event) (new : Socket) (incoming : List ℕ) (result : Option Said) → MayCome (taken_of a.socket now e) (end_of a) (end_of b) → OpensOnce (end_of a) new.connection → OutFits new.connection.sending (length a.outgoing)
      → Steps a.socket.connection new.connection a.outgoing a.incoming incoming (taken_of a.socket now e) result → Calls a b (stepped a b new incoming result)
  writes : (new : Socket) (outgoing bytes : List ℕ) → OutFits new.connection.sending (length outgoing) → Writes a.socket.connection new.connection a.outgoing outgoing bytes
      → Calls a b (record a { socket = new; outgoing = outgoing; wrote = a.wrote ++ bytes })
  reads : (new : Socket) (bytes : List ℕ) → Reads a.socket.connection new.connection a.incoming bytes → Calls a b (record a { socket = new; read = a.read ++ bytes })
  others : (new : Socket) → new.connection ≡ a.socket.connection → Calls a b (record a { socket = new })

-- both ends
pub record Ends : Type 0 where
  pub here : End
  pub there : End

-- those of their connections
abbrev pub ends_of : Ends → connection.Ends
ends_of p = record { here = end_of p.here; there = end_of p.there }

-- a run leads to these ends
pub data Runs : Ends → Type 0 where
  begins : (p : Ends) → connection.IsNew (end_of p.here) → connection.IsNew (end_of p.there) → Runs p
  here : (p : Ends) (new : End) → Runs p → Calls p.here p.there new → Runs (record p { here = new })
  there : (p : Ends) (new : End) → Runs p → Calls p.there p.here new → Runs (record p { there = new })
