-- A connection in both directions. A packet carries a segment of one and an acknowledgement of the other.
-- Pinned by: `tcp/stream`
use Rattle.std.specs.Prelude.{ℕ, List, [], ◌∷◌}
use Rattle.tcp_stream.specs.Network.{World, Event, Segment_comes, Ack_comes, happens, start, Delivers}

-- both directions
pub record Both : Type 0 where
  pub there : World
  pub back : World

-- an event of one direction, or a packet that comes
pub data Turn : Type 0 where
  There : (e : Event) → Turn
  Back : (e : Event) → Turn
  Packet_there : (segment ack room : ℕ) → Turn
  Packet_back : (segment ack room : ℕ) → Turn

-- both directions after that
abbrev pub turns : Both → Turn → Both
turns b (There e) = record { there = happens b.there e; back = b.back }
turns b (Back e) = record { there = b.there; back = happens b.back e }
turns b (Packet_there segment ack room) = record { there = happens b.there (Segment_comes segment room); back = happens b.back (Ack_comes ack) }
turns b (Packet_back segment ack room) = record { there = happens b.there (Ack_comes ack); back = happens b.back (Segment_comes segment room) }

-- both directions after all these
abbrev pub run_both : List Turn → Both → Both
run_both [] b = b
run_both (t ∷ ts) b = run_both ts (turns b t)

-- both directions before the first event, with the initial numbers of the two hosts
abbrev pub both_start : ℕ → ℕ → Both
both_start i j = record { there = start i; back = start j }

-- both directions deliver
pub record BothDeliver (b : Both) : Type 0 where
  pub there : Delivers b.there
  pub back : Delivers b.back
