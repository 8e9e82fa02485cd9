-- What the state of the receiving half stands for in a history of the network.
-- Pinned by: `tcp/stream`
use Rattle.std.specs.Prelude.{ℕ, ◌≡◌, ◌⊎◌, ◌+◌, ◌-◌, ◌%◌, ◌<◌, ◌≤◌, List, [], ◌∷◌, ◌++◌, length, take, drop, true, false, if◌then◌else◌, Option, None, Some, slice_get, slice_index}
use Rattle.tcp_stream.specs.Endpoint.{Item, Byte, Fin, Receiver, distance}
use Rattle.tcp_stream.specs.Network.{World, Event, Segment, Segment_comes, Answer, happens, run, start, bytes_of, is_ended, is_alive, number_at}
use Rattle.tcp_stream.specs.Ring.{ring}
use Rattle.tcp_stream.specs.Ranges.{has, top}
use Rattle.tcp_stream.specs.declared.receiving.Receiving.{Receiving}

-- the window (RCV.WND); after the end there is none
abbrev pub room_of : Receiving → ℕ → ℕ
room_of c size = if c.has_fin then 0 else size - c.len

-- how many bytes of the ring are in use: those in order, gaps, and those that are kept after them
abbrev pub reach : Receiving → ℕ
reach c = c.len + top c.ranges

-- The state holds what the receiver took, but for the first bytes, which the application has read.
pub record Holds (r : Receiver) (consumed : List ℕ) (c : Receiving) (buffer : List ℕ) : Type 0 where
  pub is_open : r.is_open ≡ c.is_open
  pub next : c.is_open ≡ true → c.next ≡ r.next
  pub held : bytes_of r.got ≡ consumed ++ take c.len (ring c.start buffer)
  pub ended : is_ended r.got ≡ c.has_fin

-- The item at this place of the peer's stream came: it is in a segment that was sent, less than 2^31 items after its first one.
pub record Came (w : World) (place : ℕ) (item : Item) : Type 0 where
  pub which : ℕ
  pub segment : Segment
  pub there : slice_get w.segments which ≡ Some segment
  pub after : segment.place ≤ place
  pub near : place < segment.place + 2147483648
  pub brings : take 1 (drop (place - segment.place) segment.items) ≡ item ∷ []

-- What the state keeps after gaps came from the peer: each byte is in the ring where it belongs. What adjoins RCV.NXT is not
-- kept, but taken. Nothing is kept before the SYN came.
pub record Keeps (w : World) (c : Receiving) (buffer : List ℕ) : Type 0 where
  pub gap : has c.ranges 0 ≡ false
  pub bytes : (n : ℕ) → has c.ranges n ≡ true → Came w (length w.receiver.got + n) (Byte (slice_index (ring c.start buffer) (c.len + n)))
  pub fin : 0 < c.fin_at → Came w (length w.receiver.got + c.fin_at) Fin
  pub opened : (n : ℕ) → has c.ranges n ≡ true → c.is_open ≡ true
  pub opened_fin : 0 < c.fin_at → c.is_open ≡ true

-- Events lead to the world.
pub record IsReached (w : World) : Type 0 where
  pub initial : ℕ
  pub events : List Event
  pub is : w ≡ run events (start initial)

-- The state stands for the receiver of a world.
pub record Stands (w : World) (consumed : List ℕ) (c : Receiving) (buffer : List ℕ) : Type 0 where
  pub reached : IsReached w
  pub holds : Holds w.receiver consumed c buffer
  pub keeps : Keeps w c buffer

-- A segment with this number and these items comes, which was sent before. It is not older than the sequence space allows.
pub record SegmentComes (w : World) (which number : ℕ) (items : List Item) : Type 0 where
  pub segment : Segment
  pub there : slice_get w.segments which ≡ Some segment
  pub same : segment.number ≡ number
  pub brings : segment.items ≡ items
  pub alive : is_alive (length w.receiver.got) segment.place ≡ true

-- A segment with these items comes so many items after RCV.NXT.
pub record ComesAhead (w : World) (which ahead : ℕ) (items : List Item) : Type 0 where
  pub segment : Segment
  pub there : slice_get w.segments which ≡ Some segment
  pub place : segment.place ≡ length w.receiver.got + ahead
  pub brings : segment.items ≡ items

-- these segments come again, with room for one item each
abbrev pub again : List ℕ → List Event
again [] = []
again (which ∷ more) = Segment_comes which 1 ∷ again more

-- The state stands for a world in which segments came again, whose items the receiver kept until the gap before them was closed.
pub record Uses (w : World) (consumed : List ℕ) (c : Receiving) (buffer : List ℕ) : Type 0 where
  pub segments : List ℕ
  pub stands : Stands (run (again segments) w) consumed c buffer

-- RCV.NXT advanced by `to`, and what is kept after it is the same.
pub record Goes (old : Receiving) (to : ℕ) (new : Receiving) : Type 0 where
  pub next : new.next ≡ (old.next + to) % 4294967296
  pub has_fin : new.has_fin ≡ old.has_fin
  pub known : (n : ℕ) → has new.ranges n ≡ has old.ranges (n + to)
  pub fin : 0 < new.fin_at → old.fin_at ≡ new.fin_at + to
  pub later : to < old.fin_at → new.fin_at + to ≡ old.fin_at
  pub before : 0 < to → old.fin_at ≡ to → ⊥

-- RCV.NXT advanced by `to` and over the FIN, and nothing is kept.
pub record Ends (old : Receiving) (to : ℕ) (new : Receiving) : Type 0 where
  pub some : 0 < to
  pub here : old.fin_at ≡ to
  pub next : new.next ≡ (old.next + to + 1) % 4294967296
  pub has_fin : new.has_fin ≡ true
  pub none : (n : ℕ) → has new.ranges n ≡ false
  pub no_fin : new.fin_at ≡ 0

-- RCV.NXT advanced over n bytes that came in order, the bytes that are kept after them, and a FIN there.
pub record Advances (old : Receiving) (n : ℕ) (new : Receiving) : Type 0 where
  pub to : ℕ
  pub least : n ≤ to
  pub taken : (k : ℕ) → n ≤ k → k < to → has old.ranges k ≡ true
  pub left : has old.ranges to ≡ false
  pub len : new.len ≡ old.len + to
  pub start : new.start ≡ old.start
  pub opened : new.is_open ≡ old.is_open
  pub goes : Goes old to new ⊎ Ends old to new

-- What was kept is taken, or RCV.NXT is still before it and it is still kept. Offsets are from the old RCV.NXT. Nothing is kept
-- after the end.
abbrev pub StaysKept : Receiving → Receiving → Type 0
StaysKept old new =
    new.has_fin ≡ false → (n : ℕ) → has old.ranges n ≡ true
    → (n < distance new.next old.next)
    ⊎ ((distance new.next old.next ≤ n) × (has new.ranges (n - distance new.next old.next) ≡ true))

-- A FIN that was kept is taken, or RCV.NXT is still before it and it is still kept.
abbrev pub FinStays : Receiving → Receiving → Type 0
FinStays old new =
    new.has_fin ≡ false → 0 < old.fin_at → distance new.next old.next ≤ old.fin_at
    → (0 < new.fin_at) × (new.fin_at + distance new.next old.next ≡ old.fin_at)

-- A SACK block tells the numbers of items that came, after RCV.NXT: the first number, and the one after the last.
pub record IsTold (w : World) (block : ℕ × ℕ) : Type 0 where
  pub from : ℕ
  pub to : ℕ
  pub after : 0 < from
  pub some : from < to
  pub left : block.0 ≡ number_at w.initial (length w.receiver.got + from)
  pub right : block.1 ≡ number_at w.initial (length w.receiver.got + to)
  pub byte : ℕ → ℕ
  pub came : (n : ℕ) → from ≤ n → n < to → Came w (length w.receiver.got + n) (Byte (byte n))

-- each SACK block does
abbrev pub AreTold : World → List (Option (ℕ × ℕ)) → Type 0
AreTold w [] = Unit {0}
AreTold w (None ∷ blocks) = AreTold w blocks
AreTold w (Some block ∷ blocks) = IsTold w block × AreTold w blocks

-- This number is what the event Answer acknowledges.
pub record IsAnswer (w : World) (number : ℕ) : Type 0 where
  pub last : (happens w Answer).acks ≡ record { place = length w.receiver.got; number = number } ∷ w.acks
