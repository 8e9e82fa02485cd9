-- A run of two connections: their applications call in any order, and the network between them loses, repeats, reorders, delays,
-- splits and joins the segments that these calls returned. A run is what two programs see: calls, bytes and segments.
-- Pinned by: `connection/figures`
use Rattle.std.specs.Prelude.{ℕ, ◌≡◌, ◌⊎◌, ◌<◌, ◌≤◌, ◌+◌, ◌%◌, ◌++◌, ◌||◌, List, [], ◌∷◌, length, take, drop, Bool, true, false, Option, Some, None}
use Rattle.tcp_stream.specs.Endpoint.{Item, Byte, Fin}
use Rattle.tcp_stream.specs.Network.{IsPrefixOf, start}
use Rattle.tcp_stream.specs.Stands.{Stands}
use Rattle.app_connection.specs.declared.connection.Connection.{Connection}
use Rattle.app_connection.specs.declared.step.Event.{Event}
use Rattle.app_connection.specs.declared.step.Event.TheVariants as event
use Rattle.app_connection.specs.Endpoints.{OutFits, endpoint_of}
use Rattle.app_connection.specs.SetUp.{In_closed}
use Rattle.app_connection.specs.States.{has_peer, state_from}
use Rattle.app_connection.specs.Steps.{Reads, Steps, Writes}
use Rattle.app_connection.specs.Worlds.{Said, said}

-- a segment that a call returned, and how many bytes its sender and its receiver had written by then
pub record Sent : Type 0 where
  pub said : Said
  pub wrote : ℕ
  pub peer_wrote : ℕ

-- One end: a connection and its rings, whether it was ever opened, what its application wrote and read, and all segments that its
-- calls returned.
pub record End : Type 0 where
  pub connection : Connection
  pub outgoing : List ℕ
  pub incoming : List ℕ
  pub was_opened : Bool
  pub wrote : List ℕ
  pub read : List ℕ
  pub sent : List Sent

-- The segment is one of these. Its age: since it was sent each application wrote less than 2^30 - 1 bytes.
abbrev pub IsOneOf : List Sent → ℕ → ℕ → Said → Type 0
IsOneOf [] wrote peer_wrote s = ⊥
IsOneOf (t ∷ ts) wrote peer_wrote s = ((t.said ≡ s) × (wrote < t.wrote + 1073741823) × (peer_wrote < t.peer_wrote + 1073741823)) ⊎ IsOneOf ts wrote peer_wrote s

-- These are so many items of a segment after its first ones, with the sequence number of the first of them.
pub record IsPieceOf (s : Said) (number : ℕ) (items : List Item) : Type 0 where
  pub from : ℕ
  pub count : ℕ
  pub within : from ≤ length s.items
  pub numbered : number ≡ (s.number + from) % 4294967296
  pub same : items ≡ take count (drop from s.items)

-- They are a piece of one of these segments, which is no RST. Since it was sent its sender wrote less than 2^30 - 1 bytes.
abbrev pub IsPiece : List Sent → ℕ → ℕ → List Item → Type 0
IsPiece [] wrote number items = ⊥
IsPiece (t ∷ ts) wrote number items = ((t.said.rst ≡ false) × (wrote < t.wrote + 1073741823) × IsPieceOf t.said number items) ⊎ IsPiece ts wrote number items

-- They are one piece or several that adjoin: each begins at the sequence number at which the one before it ends.
pub data AreJoined (ts : List Sent) (wrote : ℕ) : ℕ → List Item → Type 0 where
  one : (number : ℕ) (items : List Item) → IsPiece ts wrote number items → AreJoined ts wrote number items
  more : (number : ℕ) (items rest : List Item) → IsPiece ts wrote number items → AreJoined ts wrote ((number + length items) % 4294967296) rest → AreJoined ts wrote number (items ++ rest)

-- The acknowledgement is that of one of these segments, which is no RST. Since it was sent its receiver wrote less than 2^30 - 1
-- bytes.
abbrev pub IsAckOf : List Sent → ℕ → Option ℕ → Type 0
IsAckOf [] peer_wrote ack = ⊥
IsAckOf (t ∷ ts) peer_wrote ack = ((t.said.rst ≡ false) × (peer_wrote < t.peer_wrote + 1073741823) × (t.said.ack ≡ ack)) ⊎ IsAckOf ts peer_wrote ack

-- A middlebox made the segment: it split some of these, or joined pieces of them.
pub record IsMade (ts : List Sent) (wrote peer_wrote : ℕ) (s : Said) : Type 0 where
  pub items : AreJoined ts wrote s.number s.items
  pub ack : IsAckOf ts peer_wrote s.ack

-- The segment is one of these, or a middlebox made it of these. A RST may be from anyone.
abbrev pub IsFrom : List Sent → ℕ → ℕ → Said → Type 0
IsFrom ts wrote peer_wrote s = (s.rst ≡ true) ⊎ (IsOneOf ts wrote peer_wrote s ⊎ IsMade ts wrote peer_wrote s)

-- a segment that comes to one end is from the other one
abbrev pub MayCome : Event → End → End → Type 0
MayCome event.Listen a b = Unit {0}
MayCome (event.Open iss) a b = Unit {0}
MayCome (event.Arrives segment iss) a b = IsFrom b.sent (length b.wrote) (length a.wrote) (said segment.now)
MayCome (event.Send offset count) a b = Unit {0}
MayCome event.Close a b = Unit {0}
MayCome event.Abort a b = Unit {0}

-- an end gets a peer once
abbrev pub OpensOnce : End → Connection → Type 0
OpensOnce a new = has_peer (state_from a.connection) ≡ false → has_peer (state_from new) ≡ true → a.was_opened ≡ false

-- these segments, and the one that was returned
abbrev pub with_returned : Option Said → ℕ → ℕ → List Sent → List Sent
with_returned None wrote peer_wrote ts = ts
with_returned (Some s) wrote peer_wrote ts = record { said = s; wrote = wrote; peer_wrote = peer_wrote } ∷ ts

-- two segments with three bytes and a FIN, over the end of the sequence numbers
abbrev pub two_sent : List Sent
two_sent =
    with_returned (Some (record { number = 1; items = Byte 3 ∷ Fin ∷ []; ack = Some 501; rst = false })) 3 0
    (with_returned (Some (record { number = 4294967295; items = Byte 1 ∷ Byte 2 ∷ []; ack = Some 500; rst = false })) 2 0 [])

-- the end after a step
abbrev pub stepped : End → End → Connection → List ℕ → Option Said → End
stepped a b new incoming result = record a {
  connection = new;
  incoming = incoming;
  was_opened = a.was_opened || has_peer (state_from new);
  sent = with_returned result (length a.wrote) (length b.wrote) a.sent;
}

-- A call of one end, beside the other.
pub data Calls (a b : End) : End → Type 0 where
  steps : (e : Event) (new : Connection) (incoming : List ℕ) (result : Option Said) → MayCome e a b → OpensOnce a new → OutFits new.sending (length a.outgoing)
      → Steps a.connection new a.outgoing a.incoming incoming e result → Calls a b (stepped a b new incoming result)
  writes : (new : Connection) (outgoing bytes : List ℕ) → OutFits new.sending (length outgoing) → Writes a.connection new a.outgoing outgoing bytes
      → Calls a b (record a { connection = new; outgoing = outgoing; wrote = a.wrote ++ bytes })
  reads : (new : Connection) (bytes : List ℕ) → Reads a.connection new a.incoming bytes → Calls a b (record a { connection = new; read = a.read ++ bytes })

-- both ends
pub record Ends : Type 0 where
  pub here : End
  pub there : End

-- an end before its first call
pub record IsNew (a : End) : Type 0 where
  pub endpoint : endpoint_of a.connection ≡ In_closed
  pub stands : Stands (start 0) [] a.connection.receiving a.incoming
  pub out : OutFits a.connection.sending (length a.outgoing)
  pub opened : a.was_opened ≡ false
  pub wrote : a.wrote ≡ []
  pub read : a.read ≡ []
  pub sent : a.sent ≡ []

-- a run leads to these ends
pub data Runs : Ends → Type 0 where
  begins : (p : Ends) → IsNew p.here → IsNew p.there → Runs p
  here : (p : Ends) (new : End) → Runs p → Calls p.here p.there new → Runs (record p { here = new })
  there : (p : Ends) (new : End) → Runs p → Calls p.there p.here new → Runs (record p { there = new })

-- `is_ended` returns true
abbrev pub HasAll : Connection → Type 0
HasAll c = (c.receiving.has_fin ≡ true) × (c.receiving.len ≡ 0)

-- What one application read begins what the other one wrote, and is all of it at the end.
pub record Read (a b : End) : Type 0 where
  pub prefix : IsPrefixOf a.read b.wrote
  pub whole : HasAll a.connection → a.read ≡ b.wrote

-- both directions
pub record BothRead (p : Ends) : Type 0 where
  pub here : Read p.here p.there
  pub there : Read p.there p.here
