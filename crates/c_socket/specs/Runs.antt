-- A run of two programs in C, each with one connection: their calls in any order and at any times, over a network that loses,
-- repeats, reorders, delays, splits and joins the segments that these calls stored.
-- Pinned by: `judge`
use Rattle.std.specs.Prelude.{ℕ, ℤ, pos, negsuc, ◌≡◌, ◌==◌, ◌++◌, ◌||◌, List, length, take, Bool, false, if◌then◌else◌, Option, Some, None}
use Rattle.app_connection.specs.Endpoints.{OutFits}
use Rattle.app_connection.specs.Runs as connection
use Rattle.app_connection.specs.Runs.{MayCome, OpensOnce, Sent, with_returned}
use Rattle.app_connection.specs.States.{has_peer, state_from}
use Rattle.app_connection.specs.Worlds.{Said, said}
use Rattle.app_socket.specs.Fields.{socket_of}
use Rattle.app_socket.specs.Runs as socket
use Rattle.app_socket.specs.Segments.{taken_of}
use Rattle.app_socket.specs.declared.fields.SocketFields.{SocketFields}
use Rattle.app_socket.specs.declared.step.Event.{Event}
use Rattle.c_socket.specs.Application.{Aborts, Closes, Listens}
use Rattle.c_socket.specs.Calls.{Delivers, Met, Written}
use Rattle.c_socket.specs.Segments.{segment_of}
use Rattle.c_socket.specs.declared.segment.SegmentFields.{SegmentFields}

-- one end, as that of a socket
pub record End : Type 0 where
  pub fields : SocketFields
  pub outgoing : List ℕ
  pub incoming : List ℕ
  pub was_opened : Bool
  pub wrote : List ℕ
  pub read : List ℕ
  pub sent : List Sent

-- its socket
abbrev pub end_of : End → socket.End
end_of a = record { socket = socket_of a.fields; outgoing = a.outgoing; incoming = a.incoming; was_opened = a.was_opened; wrote = a.wrote; read = a.read; sent = a.sent }

-- its connection
abbrev pub connection_of : End → connection.End
connection_of a = socket.end_of (end_of a)

-- whether a call stored a segment
abbrev pub is_stored : ℤ → Bool
is_stored (pos n) = n == 1
is_stored (negsuc n) = false

-- the segment that it stored
abbrev pub stored : ℤ → SegmentFields → Option Said
stored code out = if is_stored code then Some (said (segment_of out)) else None

-- the end after a call that may store a segment
abbrev pub stepped : End → End → SocketFields → List ℕ → Option Said → End
stepped a b new incoming result = record a {
  fields = new;
  incoming = incoming;
  was_opened = a.was_opened || has_peer (state_from (socket_of new).connection);
  sent = with_returned result (length a.wrote) (length b.wrote) a.sent;
}

-- A call of one end, beside the other: `connect`, `take` or `tick`, `write`, `read`, `listen`, `close`, `abort`, or one that leaves
-- the connection.
pub data Calls (a b : End) : End → Type 0 where
  meets : (e : Event) (now : ℕ) (new : SocketFields) (incoming : List ℕ) (out out' : SegmentFields) (code : ℤ) → MayCome (taken_of (socket_of a.fields) now e) (connection_of a) (connection_of b)
      → OpensOnce (connection_of a) (socket_of new).connection → Met (λ f. f ≡ e) a.fields new a.outgoing a.incoming incoming now out out' code → Calls a b (stepped a b new incoming (stored code out'))
  writes : (new : SocketFields) (outgoing bytes : List ℕ) (count : ℕ) → OutFits (socket_of new).connection.sending (length outgoing) → Written (socket_of a.fields).connection (socket_of new).connection a.outgoing outgoing bytes count
      → Calls a b (record a { fields = new; outgoing = outgoing; wrote = a.wrote ++ take count bytes })
  reads : (new : SocketFields) (before after : List ℕ) (count : ℕ) → Delivers (socket_of a.fields).connection (socket_of new).connection a.incoming before after count
      → Calls a b (record a { fields = new; read = a.read ++ take count after })
  listens : (new : SocketFields) → OutFits (socket_of new).connection.sending (length a.outgoing) → Listens (socket_of a.fields) (socket_of new) → Calls a b (stepped a b new a.incoming None)
  closes : (new : SocketFields) → OutFits (socket_of new).connection.sending (length a.outgoing) → Closes (socket_of a.fields) (socket_of new) → Calls a b (stepped a b new a.incoming None)
  aborts : (new : SocketFields) (out out' : SegmentFields) (code : ℤ) → OutFits (socket_of new).connection.sending (length a.outgoing) → Aborts (socket_of a.fields) (socket_of new) out out' code
      → Calls a b (stepped a b new a.incoming (stored code out'))
  others : (new : SocketFields) → (socket_of new).connection ≡ (socket_of a.fields).connection → Calls a b (record a { fields = new })

-- both ends
pub record Ends : Type 0 where
  pub here : End
  pub there : End

-- those of their sockets
abbrev pub ends_of : Ends → socket.Ends
ends_of p = record { here = end_of p.here; there = end_of p.there }

-- a run leads to these ends
pub data Runs : Ends → Type 0 where
  begins : (p : Ends) → connection.IsNew (connection_of p.here) → connection.IsNew (connection_of p.there) → Runs p
  here : (p : Ends) (new : End) → Runs p → Calls p.here p.there new → Runs (record p { here = new })
  there : (p : Ends) (new : End) → Runs p → Calls p.there p.here new → Runs (record p { there = new })
