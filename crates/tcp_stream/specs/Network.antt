-- A sender, a receiver, and a network that loses, repeats, reorders, splits and joins what was sent between them (RFC 9293,
-- section 3.4).
-- Pinned by: `tcp/stream`
use Rattle.std.specs.Prelude.{ℕ, ◌≡◌, ◌+◌, ◌-◌, ◌%◌, ◌≤◌, List, [], ◌∷◌, ◌++◌, length, map, take, drop, Bool, true, false, if◌then◌else◌, nat_lt, max, Option, Some, None, slice_get}
use Rattle.tcp_stream.specs.Endpoint.{Item, Syn, Byte, Fin, Receiver, received, newly}

-- A segment in the network. `place` counts the items of the stream before it: what its number stands for. No endpoint sees it.
pub record Segment : Type 0 where
  pub place : ℕ
  pub number : ℕ
  pub items : List Item

-- an acknowledgement in the network; its place counts the items that it acknowledges
pub record Ack : Type 0 where
  pub place : ℕ
  pub number : ℕ

-- the sender, the receiver and the network, with all that was ever sent
pub record World : Type 0 where
  pub initial : ℕ
  -- what the sending application wrote, and whether it has closed
  pub written : List ℕ
  pub closed : Bool
  -- how many items were acknowledged, and how many were ever sent: the places of SND.UNA and SND.NXT
  pub acked : ℕ
  pub sent : ℕ
  pub receiver : Receiver
  -- all that was ever sent
  pub segments : List Segment
  pub acks : List Ack

-- the item of a FIN
abbrev pub end_of : Bool → List Item
end_of true = Fin ∷ []
end_of false = []

-- the items that the sender has to bring across, in order
abbrev pub stream : List ℕ → Bool → List Item
stream written closed = Syn ∷ (map Byte written ++ end_of closed)

-- the sequence number of a place, from the initial one (ISS)
abbrev pub number_at : ℕ → ℕ → ℕ
number_at initial place = (initial + place) % 4294967296

-- What can happen. Any order and any arguments are possible: what is lost does not come, what is repeated comes again.
pub data Event : Type 0 where
  Write : (bytes : List ℕ) → Event
  Close : Event
  -- the sender sends so many items from so far after what was acknowledged, for the first time or again
  Send : (offset count : ℕ) → Event
  Segment_comes : (which room : ℕ) → Event
  -- the network splits and joins segments: so many items from a place on are on the way in one segment
  Resegment : (place count : ℕ) → Event
  -- the receiver acknowledges, whenever it likes
  Answer : Event
  Ack_comes : (which : ℕ) → Event

-- The maximum segment lifetime (section 3.4.3): the network loses what is 2^31 items older than the endpoint to which it comes.
abbrev pub is_alive : ℕ → ℕ → Bool
is_alive now place = nat_lt now (place + 2147483648)

-- the world after a segment came, if there is one
abbrev pub segment_comes : World → ℕ → Option Segment → World
segment_comes w room None = w
segment_comes w room (Some s) =
    if is_alive (length w.receiver.got) s.place
    then record w { receiver = received w.receiver s.number s.items room }
    else w

-- the world after an acknowledgement came, if there is one
abbrev pub ack_comes : World → Option Ack → World
ack_comes w None = w
ack_comes w (Some a) =
    if is_alive w.acked a.place
    then record w { acked = w.acked + newly (number_at w.initial w.acked) (w.sent - w.acked) a.number }
    else w

-- the world after these items were sent from a place on, if no more than 2^31 are in flight then
abbrev pub sends : World → ℕ → List Item → World
sends w place items =
    if nat_lt (w.acked + 2147483648) (place + length items)
    then w
    else record w { sent = max w.sent (place + length items); segments = record { place = place; number = number_at w.initial place; items = items } ∷ w.segments }

-- the world after the network made a segment of so many items from a place on, if all of them are before SND.NXT
abbrev pub resegments : World → ℕ → ℕ → World
resegments w place count =
    if nat_lt w.sent (place + count)
    then w
    else record w { segments = record { place = place; number = number_at w.initial place; items = take count (drop place (stream w.written w.closed)) } ∷ w.segments }

-- the world after an event
abbrev pub happens : World → Event → World
happens w (Write bytes) = if w.closed then w else record w { written = w.written ++ bytes }
happens w Close = record w { closed = true }
happens w (Send offset count) =
    if nat_lt (length (stream w.written w.closed)) (w.acked + offset)
    then w
    else sends w (w.acked + offset) (take count (drop (w.acked + offset) (stream w.written w.closed)))
happens w (Segment_comes which room) = segment_comes w room (slice_get w.segments which)
happens w (Resegment place count) = resegments w place count
happens w Answer = if w.receiver.is_open then record w { acks = record { place = length w.receiver.got; number = w.receiver.next } ∷ w.acks } else w
happens w (Ack_comes which) = ack_comes w (slice_get w.acks which)

-- the world after these events
abbrev pub run : List Event → World → World
run [] w = w
run (e ∷ es) w = run es (happens w e)

-- the world before the first event
abbrev pub start : ℕ → World
start initial =
    record {
      initial = initial;
      written = [];
      closed = false;
      acked = 0;
      sent = 0;
      receiver = record { is_open = false; next = 0; got = [] };
      segments = [];
      acks = [];
    }

-- the bytes among the items: what the receiving application reads
abbrev pub bytes_of : List Item → List ℕ
bytes_of [] = []
bytes_of (Byte b ∷ items) = b ∷ bytes_of items
bytes_of (Syn ∷ items) = bytes_of items
bytes_of (Fin ∷ items) = bytes_of items

-- whether there is a FIN among the items
abbrev pub is_ended : List Item → Bool
is_ended [] = false
is_ended (Fin ∷ items) = true
is_ended (Syn ∷ items) = is_ended items
is_ended (Byte b ∷ items) = is_ended items

-- a list begins another one
abbrev pub IsPrefixOf : List ℕ → List ℕ → Type 0
IsPrefixOf xs ys = (rest : List ℕ) × (xs ++ rest ≡ ys)

-- What holds after any events: what the receiver took begins what was written, all of it is there if the end is, and nothing
-- counts as acknowledged that did not come.
pub record Delivers (w : World) : Type 0 where
  pub prefix : IsPrefixOf (bytes_of w.receiver.got) w.written
  pub whole : is_ended w.receiver.got ≡ true → (w.closed ≡ true) × (bytes_of w.receiver.got ≡ w.written)
  pub counted : w.acked ≤ length w.receiver.got

-- a round without loss: the sender sends from the first item that is not acknowledged, and the receiver acknowledges
abbrev pub round : ℕ → ℕ → List Event
round count room = Send 0 count ∷ Segment_comes 0 room ∷ Answer ∷ Ack_comes 0 ∷ []

-- Segments are lost, repeated and reordered, over the end of the numbers. The third byte comes before the first two, and again
-- after them.
abbrev pub bad_day : List Event
bad_day =
    Write (1 ∷ 2 ∷ 3 ∷ []) ∷ Send 0 1 ∷ Segment_comes 0 1 ∷ Answer ∷ Ack_comes 0 ∷ Send 0 2 ∷ Send 2 1 ∷ Segment_comes 0 8 ∷ Segment_comes 1 8 ∷ Segment_comes 1 8
    ∷ Segment_comes 2 8 ∷ Segment_comes 0 1 ∷ Close ∷ Answer ∷ Ack_comes 1 ∷ Ack_comes 0 ∷ Send 0 5 ∷ Segment_comes 0 8 ∷ []

-- Two bytes and a third one are sent. The network splits the first segment, and joins its second byte and the third one.
abbrev pub in_other_segments : List Event
in_other_segments =
    Write (1 ∷ 2 ∷ 3 ∷ []) ∷ Send 0 1 ∷ Segment_comes 0 1 ∷ Answer ∷ Ack_comes 0 ∷ Send 0 2 ∷ Send 2 1 ∷ Resegment 1 1 ∷ Segment_comes 0 8 ∷ Resegment 2 2 ∷ Segment_comes 0 8 ∷ []
