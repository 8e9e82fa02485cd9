-- A run of two programs that open connections to each other again and again, each with one socket and its two rings: as that of
-- connections, with times.
-- Pinned by: `socket/scenarios`
use Rattle.std.specs.Prelude.{ℕ, ◌≡◌, List, length, true, false, Option}
use Rattle.app_connection.specs.Endpoints.{OutFits}
use Rattle.app_connection.specs.Openings as connection
use Rattle.app_connection.specs.Runs.{Ends, IsNew, MayCome}
use Rattle.app_connection.specs.States.{has_peer, state_from}
use Rattle.app_connection.specs.Steps.{Steps}
use Rattle.app_connection.specs.Worlds.{Said}
use Rattle.app_socket.specs.declared.socket.Socket.{Socket}
use Rattle.app_socket.specs.declared.step.Event.{Event}
use Rattle.app_socket.specs.Runs.{Calls, End, end_of, stepped}
use Rattle.app_socket.specs.Segments.{taken_of}

-- a program, as that of a connection
pub record Program : Type 0 where
  pub number : ℕ
  pub ends : ℕ → End

-- its end of the present connection
abbrev pub present : Program → End
present a = a.ends a.number

-- the same program, but for its end of this connection
abbrev pub OthersStay : ℕ → Program → Program → Type 0
OthersStay k old new = (n : ℕ) → (n ≡ k → ⊥) → new.ends n ≡ old.ends n

-- The end of this connection at which the program of the present end opens: one before its first call, with the present ring.
abbrev pub opening : Program → ℕ → End
opening a k = record (a.ends k) { outgoing = (present a).outgoing }

-- A call of one program, beside the other.
pub data Turns (a b : Program) : Program → Type 0 where
  stays : (new : Program) → new.number ≡ a.number → OthersStay a.number a new → Calls (present a) (b.ends a.number) (new.ends a.number) → Turns a b new
  rests : (new : Program) (now : ℕ) (e : Event) (s : Socket) (incoming : List ℕ) (result : Option Said) → new.number ≡ a.number → OthersStay a.number a new
      → has_peer (state_from (present a).socket.connection) ≡ false → has_peer (state_from s.connection) ≡ false → OutFits s.connection.sending (length (present a).outgoing)
      → Steps (present a).socket.connection s.connection (present a).outgoing (present a).incoming incoming (taken_of (present a).socket now e) result
      → new.ends a.number ≡ stepped (present a) (b.ends a.number) s incoming result → Turns a b new
  opens : (new : Program) (k now : ℕ) (e : Event) (s : Socket) (incoming : List ℕ) (result : Option Said) → new.number ≡ k → OthersStay k a new → (a.ends k).was_opened ≡ false
      → has_peer (state_from (present a).socket.connection) ≡ false → has_peer (state_from s.connection) ≡ true → MayCome (taken_of (present a).socket now e) (end_of (a.ends k)) (end_of (b.ends k))
      → OutFits s.connection.sending (length (present a).outgoing)
      → Steps (present a).socket.connection s.connection (present a).outgoing (present a).incoming incoming (taken_of (present a).socket now e) result
      → new.ends k ≡ stepped (opening a k) (b.ends k) s incoming result → Turns a b new
  renews : (new : Program) (k : ℕ) → new.number ≡ k → (a.ends k).was_opened ≡ false → ((n : ℕ) → new.ends n ≡ a.ends n) → Turns a b new

-- the program of its connections
abbrev pub program_of : Program → connection.Program
program_of a = record { number = a.number; ends = λ n. end_of (a.ends n) }

-- both programs
pub record Programs : Type 0 where
  pub here : Program
  pub there : Program

-- those of their connections
abbrev pub programs_of : Programs → connection.Programs
programs_of p = record { here = program_of p.here; there = program_of p.there }

-- a run leads to these programs
pub data Runs : Programs → Type 0 where
  begins : (p : Programs) → ((n : ℕ) → IsNew (end_of (p.here.ends n))) → ((n : ℕ) → IsNew (end_of (p.there.ends n))) → Runs p
  here : (p : Programs) (new : Program) → Runs p → Turns p.here p.there new → Runs (record p { here = new })
  there : (p : Programs) (new : Program) → Runs p → Turns p.there p.here new → Runs (record p { there = new })

-- the connections of both ends of one of their connections
abbrev pub ends_of : Programs → ℕ → Ends
ends_of p n = connection.ends_of (programs_of p) n
