-- Progress of both halves.
-- Pinned by: `tcp/stream`
use Rattle.std.specs.Prelude.{ℕ, ◌<◌, List}
use Rattle.tcp_stream.specs.Network.{World, Event, run}
use Rattle.tcp_stream.specs.Stands.{Stands}
use Rattle.tcp_stream.specs.Waits.{Waits}
use Rattle.tcp_stream.specs.declared.receiving.Receiving.{Receiving}
use Rattle.tcp_stream.specs.declared.sending.Sending.{Sending}

-- The states stand for a world after further events, in which more is acknowledged.
pub record GoesOn (w : World) (consumed : List ℕ) (s : Sending) (outgoing : List ℕ) (r : Receiving) (incoming : List ℕ) : Type 0 where
  pub events : List Event
  pub waits : Waits (run events w) s outgoing
  pub stands : Stands (run events w) consumed r incoming
  pub more : w.acked < (run events w).acked
