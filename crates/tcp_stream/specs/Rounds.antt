-- Rounds of a network that loses, repeats and reorders, in each of which the segment at SND.UNA and its acknowledgement come once.
-- Pinned by: `tcp/stream`
use Rattle.std.specs.Prelude.{ℕ, ◌<◌, ◌≤◌, List, [], ◌∷◌, ◌++◌}
use Rattle.tcp_stream.specs.Network.{Event, Write, Close, Send, Segment_comes, Resegment, Answer, Ack_comes, round}

-- One round: what else happens, and then how many items go from SND.UNA on, to a receiver with how much room.
pub record Round : Type 0 where
  pub before : List Event
  pub count : ℕ
  pub room : ℕ

-- the application writes nothing, and does not close
abbrev pub IsOther : Event → Type 0
IsOther (Write bytes) = ⊥
IsOther Close = ⊥
IsOther (Send offset count) = Unit {0}
IsOther (Segment_comes which room) = Unit {0}
IsOther (Resegment place count) = Unit {0}
IsOther Answer = Unit {0}
IsOther (Ack_comes which) = Unit {0}

-- each of these events is one of the network or of an endpoint
abbrev pub AreOthers : List Event → Type 0
AreOthers [] = Unit {0}
AreOthers (e ∷ es) = IsOther e × AreOthers es

-- In each round anything may be lost but one segment at SND.UNA, which is not empty, and the acknowledgement of it. The receiver
-- has room.
pub record IsRound (r : Round) : Type 0 where
  pub others : AreOthers r.before
  pub some : 0 < r.count
  pub most : r.count ≤ 2147483648
  pub room : 0 < r.room

-- each of these is such a round
abbrev pub AreRounds : List Round → Type 0
AreRounds [] = Unit {0}
AreRounds (r ∷ rs) = IsRound r × AreRounds rs

-- the events of a round
abbrev pub events_of : Round → List Event
events_of r = r.before ++ round r.count r.room

-- those of several, one after the other
abbrev pub rounds_of : List Round → List Event
rounds_of [] = []
rounds_of (r ∷ rs) = events_of r ++ rounds_of rs
