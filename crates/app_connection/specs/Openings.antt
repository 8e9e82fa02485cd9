-- A run of two programs that open connections to each other again and again, each with one connection of the code and its two rings.
-- Each connection of both programs has a number. The network does with its segments what it does in a run of two connections.
-- Pinned by: `connection/figures`
use Rattle.std.specs.Prelude.{ℕ, ◌≡◌, List, length, true, false, Option}
use Rattle.app_connection.specs.declared.connection.Connection.{Connection}
use Rattle.app_connection.specs.declared.step.Event.{Event}
use Rattle.app_connection.specs.Endpoints.{OutFits}
use Rattle.app_connection.specs.States.{has_peer, state_from}
use Rattle.app_connection.specs.Steps.{Steps}
use Rattle.app_connection.specs.Runs.{Calls, End, Ends, IsNew, MayCome, stepped}
use Rattle.app_connection.specs.Worlds.{Said}

-- A program: the number of its present connection, and its end of each connection. An end of a later connection is new, and one of
-- an earlier connection is as it was when the program left it.
pub record Program : Type 0 where
  pub number : ℕ
  pub ends : ℕ → End

-- its end of the present connection
abbrev pub present : Program → End
present a = a.ends a.number

-- the same program, but for its end of this connection
abbrev pub OthersStay : ℕ → Program → Program → Type 0
OthersStay k old new = (n : ℕ) → (n ≡ k → ⊥) → new.ends n ≡ old.ends n

-- The end of this connection at which the program of the present end opens: one before its first call, with the present ring.
abbrev pub opening : Program → ℕ → End
opening a k = record (a.ends k) { outgoing = (present a).outgoing }

-- A call of one program, beside the other.
pub data Turns (a b : Program) : Program → Type 0 where
  -- one of the present connection
  stays : (new : Program) → new.number ≡ a.number → OthersStay a.number a new → Calls (present a) (b.ends a.number) (new.ends a.number) → Turns a b new
  -- a step without a peer: any segment may come, from anyone
  rests : (new : Program) (e : Event) (c : Connection) (incoming : List ℕ) (result : Option Said) → new.number ≡ a.number → OthersStay a.number a new
      → has_peer (state_from (present a).connection) ≡ false → has_peer (state_from c) ≡ false → OutFits c.sending (length (present a).outgoing)
      → Steps (present a).connection c (present a).outgoing (present a).incoming incoming e result → new.ends a.number ≡ stepped (present a) (b.ends a.number) c incoming result → Turns a b new
  -- a step that opens another connection, which the program has not opened before
  opens : (new : Program) (k : ℕ) (e : Event) (c : Connection) (incoming : List ℕ) (result : Option Said) → new.number ≡ k → OthersStay k a new → (a.ends k).was_opened ≡ false
      → has_peer (state_from (present a).connection) ≡ false → has_peer (state_from c) ≡ true → MayCome e (a.ends k) (b.ends k) → OutFits c.sending (length (present a).outgoing)
      → Steps (present a).connection c (present a).outgoing (present a).incoming incoming e result → new.ends k ≡ stepped (opening a k) (b.ends k) c incoming result → Turns a b new
  -- it begins with a new connection of the code, and maybe with other rings
  renews : (new : Program) (k : ℕ) → new.number ≡ k → (a.ends k).was_opened ≡ false → ((n : ℕ) → new.ends n ≡ a.ends n) → Turns a b new

-- both programs
pub record Programs : Type 0 where
  pub here : Program
  pub there : Program

-- a run leads to these programs
pub data Runs : Programs → Type 0 where
  begins : (p : Programs) → ((n : ℕ) → IsNew (p.here.ends n)) → ((n : ℕ) → IsNew (p.there.ends n)) → Runs p
  here : (p : Programs) (new : Program) → Runs p → Turns p.here p.there new → Runs (record p { here = new })
  there : (p : Programs) (new : Program) → Runs p → Turns p.there p.here new → Runs (record p { there = new })

-- both ends of one of their connections
abbrev pub ends_of : Programs → ℕ → Ends
ends_of p n = record { here = p.here.ends n; there = p.there.ends n }
