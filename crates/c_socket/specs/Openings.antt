-- A run of two programs in C that open connections to each other again and again, each with one connection of the library and its
-- two rings: as that of sockets.
-- Pinned by: `judge`
use Rattle.std.specs.Prelude.{ℕ, ℤ, ◌≡◌, List, Bool, true, false}
use Rattle.app_connection.specs.Runs.{Ends, IsNew, MayCome}
use Rattle.app_connection.specs.States.{has_peer, state_from}
use Rattle.app_socket.specs.Fields.{socket_of}
use Rattle.app_socket.specs.Openings as socket
use Rattle.app_socket.specs.Segments.{taken_of}
use Rattle.app_socket.specs.declared.fields.SocketFields.{SocketFields}
use Rattle.app_socket.specs.declared.step.Event.{Event}
use Rattle.c_socket.specs.Calls.{Met}
use Rattle.c_socket.specs.Runs.{Calls, End, connection_of, end_of, stepped, stored}
use Rattle.c_socket.specs.declared.segment.SegmentFields.{SegmentFields}

-- a program, as that of a socket
pub record Program : Type 0 where
  pub number : ℕ
  pub ends : ℕ → End

-- its end of the present connection
abbrev pub present : Program → End
present a = a.ends a.number

-- the same program, but for its end of this connection
abbrev pub OthersStay : ℕ → Program → Program → Type 0
OthersStay k old new = (n : ℕ) → (n ≡ k → ⊥) → new.ends n ≡ old.ends n

-- The end of this connection at which the program of the present end opens: one before its first call, with the present ring.
abbrev pub opening : Program → ℕ → End
opening a k = record (a.ends k) { outgoing = (present a).outgoing }

-- whether an end has a peer with these fields
abbrev pub has : SocketFields → Bool
has f = has_peer (state_from (socket_of f).connection)

-- A call of one program, beside the other: one of its present connection, `take` without a peer, or `connect` or `take` that opens.
pub data Turns (a b : Program) : Program → Type 0 where
  stays : (new : Program) → new.number ≡ a.number → OthersStay a.number a new → Calls (present a) (b.ends a.number) (new.ends a.number) → Turns a b new
  rests : (new : Program) (now : ℕ) (e : Event) (f : SocketFields) (incoming : List ℕ) (out out' : SegmentFields) (code : ℤ) → new.number ≡ a.number → OthersStay a.number a new
      → has (present a).fields ≡ false → has f ≡ false → Met (λ x. x ≡ e) (present a).fields f (present a).outgoing (present a).incoming incoming now out out' code
      → new.ends a.number ≡ stepped (present a) (b.ends a.number) f incoming (stored code out') → Turns a b new
  opens : (new : Program) (k now : ℕ) (e : Event) (f : SocketFields) (incoming : List ℕ) (out out' : SegmentFields) (code : ℤ) → new.number ≡ k → OthersStay k a new → (a.ends k).was_opened ≡ false
      → has (present a).fields ≡ false → has f ≡ true → MayCome (taken_of (socket_of (present a).fields) now e) (connection_of (a.ends k)) (connection_of (b.ends k))
      → Met (λ x. x ≡ e) (present a).fields f (present a).outgoing (present a).incoming incoming now out out' code → new.ends k ≡ stepped (opening a k) (b.ends k) f incoming (stored code out') → Turns a b new
  renews : (new : Program) (k : ℕ) → new.number ≡ k → (a.ends k).was_opened ≡ false → ((n : ℕ) → new.ends n ≡ a.ends n) → Turns a b new

-- the program of its sockets
abbrev pub program_of : Program → socket.Program
program_of a = record { number = a.number; ends = λ n. end_of (a.ends n) }

-- both programs
pub record Programs : Type 0 where
  pub here : Program
  pub there : Program

-- those of their sockets
abbrev pub programs_of : Programs → socket.Programs
programs_of p = record { here = program_of p.here; there = program_of p.there }

-- a run leads to these programs
pub data Runs : Programs → Type 0 where
  begins : (p : Programs) → ((n : ℕ) → IsNew (connection_of (p.here.ends n))) → ((n : ℕ) → IsNew (connection_of (p.there.ends n))) → Runs p
  here : (p : Programs) (new : Program) → Runs p → Turns p.here p.there new → Runs (record p { here = new })
  there : (p : Programs) (new : Program) → Runs p → Turns p.there p.here new → Runs (record p { there = new })

-- the connections of both ends of one of their connections
abbrev pub ends_of : Programs → ℕ → Ends
ends_of p n = socket.ends_of (programs_of p) n
