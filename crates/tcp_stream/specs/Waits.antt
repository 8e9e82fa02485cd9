-- What the state of the sending half stands for in a history of the network.
-- Pinned by: `tcp/stream`
use Rattle.std.specs.Prelude.{ℕ, ◌≡◌, ◌+◌, ◌-◌, ◌≤◌, ◌++◌, List, ◌∷◌, length, map, take, drop, min, true, false, Some, slice_get}
use Rattle.tcp_stream.specs.Endpoint.{Item, Byte}
use Rattle.tcp_stream.specs.Network.{World, Ack, Send, happens, stream, end_of, number_at, is_alive}
use Rattle.tcp_stream.specs.Items.{syn_of}
use Rattle.tcp_stream.specs.Ring.{ring}
use Rattle.tcp_stream.specs.declared.sending.Sending.{Sending}

-- the items that are not acknowledged and no SYN
abbrev pub rest_of : Sending → List ℕ → List Item
rest_of c buffer = map Byte (take c.len (ring c.start buffer)) ++ end_of c.has_fin

-- the items that are not acknowledged
abbrev pub pending : Sending → List ℕ → List Item
pending c buffer = syn_of c.has_syn ++ rest_of c buffer

-- The state stands for the sender of a world, of which the code holds no more than what is not acknowledged.
pub record Waits (w : World) (c : Sending) (buffer : List ℕ) : Type 0 where
  pub una : c.una ≡ number_at w.initial w.acked
  pub flight : c.flight + w.acked ≡ w.sent
  pub within : w.sent ≤ length (stream w.written w.closed)
  pub closed : c.is_closed ≡ w.closed
  pub still : c.is_closed ≡ false → c.has_fin ≡ false
  pub held : drop w.acked (stream w.written w.closed) ≡ pending c buffer

-- how many items are not acknowledged: those in flight, and those that were never sent
abbrev pub count_of : Sending → ℕ
count_of c = length (syn_of c.has_syn) + c.len + length (end_of c.has_fin)

-- how many items were never sent: those that are not acknowledged, without those in flight
abbrev pub unsent_of : Sending → ℕ
unsent_of c = length (syn_of c.has_syn) + c.len + length (end_of c.has_fin) - c.flight

-- the item from which a segment is cut: at most SND.NXT, and that of the FIN
abbrev pub from_of : Sending → ℕ → ℕ
from_of c offset = min (min offset c.flight) (length (syn_of c.has_syn) + c.len)

-- These items with this number are what the event Send puts on the network.
pub record IsSend (w : World) (offset number : ℕ) (items : List Item) : Type 0 where
  pub last :
      (happens w (Send offset (length items))).segments
      ≡ record { place = w.acked + offset; number = number; items = items } ∷ w.segments

-- An acknowledgement with this number comes, which was sent before. It is not older than the sequence space allows.
pub record AckComes (w : World) (which number : ℕ) : Type 0 where
  pub ack : Ack
  pub there : slice_get w.acks which ≡ Some ack
  pub same : ack.number ≡ number
  pub alive : is_alive w.acked ack.place ≡ true
