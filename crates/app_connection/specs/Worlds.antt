-- What a connection stands for in the histories of both directions: `there` is the stream that it writes, `back` the one that it
-- reads.
-- Pinned by: `connection/figures`
use Rattle.std.specs.Prelude.{ℕ, ◌≡◌, ◌+◌, ◌<◌, ◌≤◌, ◌⊎◌, List, [], ◌∷◌, length, Bool, true, false, Option, Some, IfSome, slice_get}
use Rattle.tcp_stream.specs.Endpoint.{Item, Syn}
use Rattle.tcp_stream.specs.Network.{World, Event, Segment as Sent, Send, Segment_comes, Ack_comes, run, stream, is_ended, happens}
use Rattle.tcp_stream.specs.Items.{items_of, syn_of}
use Rattle.tcp_stream.specs.Stands.{Stands, SegmentComes, IsAnswer, Uses}
use Rattle.tcp_stream.specs.Waits.{Waits, AckComes}
use Rattle.tcp_stream.specs.declared.receiving.Receiving.{Receiving}
use Rattle.tcp_stream.specs.declared.sending.Sending.{Sending}
use Rattle.app_connection.specs.declared.connection.Connection.{Connection}
use Rattle.app_connection.specs.declared.segment.Segment.{Segment}
use Rattle.app_connection.specs.declared.segment.Reply.{Reply}
use Rattle.app_connection.specs.declared.state.Phase.TheVariants as phase
use Rattle.app_connection.specs.declared.state.State.{State}
use Rattle.app_connection.specs.declared.state.State.TheVariants.{Closed, Listen, SynSent, SynReceived, Established, FinWait1, FinWait2, CloseWait, Closing, LastAck, TimeWait}
use Rattle.app_connection.specs.Sequence.{after}

-- what the network carries of a segment: all but its window
pub record Said : Type 0 where
  pub number : ℕ
  pub items : List Item
  pub ack : Option ℕ
  pub rst : Bool

-- that of this one
abbrev pub said : Segment → Said
said s = record { number = s.number; items = items_of s.syn s.payload.now s.fin; ack = s.ack; rst = s.rst }

-- the same of a reply, which has no text
abbrev pub replied : Reply → Said
replied r = record { number = r.number; items = syn_of r.syn; ack = r.ack; rst = r.rst }

-- The items and the acknowledgement of a segment come: they were sent in these histories. One without items was sent in none.
pub record Brings (there back : World) (s : Said) : Type 0 where
  pub text : (s.items ≡ []) ⊎ ((which : ℕ) × SegmentComes back which s.number s.items)
  pub ack : IfSome s.ack (λ number. (which : ℕ) × AckComes there which number)

-- A segment of these histories comes. A RST counts as one.
abbrev pub Arrives : World → World → Segment → Type 0
Arrives there back s = (s.rst ≡ true) ⊎ Brings there back (said s)

-- These items with this number are in the network. When they were sent none of them was acknowledged.
pub record IsOut (w : World) (number : ℕ) (items : List Item) : Type 0 where
  pub which : ℕ
  pub segment : Sent
  pub there : slice_get w.segments which ≡ Some segment
  pub same : segment.number ≡ number
  pub brings : segment.items ≡ items
  pub recent : w.acked ≤ segment.place

-- The items of a segment are in one history, and its acknowledgement is what the receiver of the other one answers.
pub record Takes (there back : World) (s : Said) : Type 0 where
  pub text : (s.items ≡ []) ⊎ IsOut there s.number s.items
  pub ack : IfSome s.ack (λ number. IsAnswer back number)

-- A segment goes out into these histories. A RST is in none.
abbrev pub GoesOut : World → World → Said → Type 0
GoesOut there back s = (s.rst ≡ true) ⊎ Takes there back s

-- Both halves stand for these histories, of whose bytes the application has read the first. Before the connection is established
-- its SYN is in the network, and it took at most the SYN of the peer.
pub record Stand (there back : World) (consumed : List ℕ) (c : Connection) (outgoing incoming : List ℕ) : Type 0 where
  pub waits : Waits there c.sending outgoing
  pub stands : Stands back consumed c.receiving incoming
  pub sent : c.phase ≡ phase.SynSent → IsOut there c.iss (Syn ∷ []) × (c.receiving.is_open ≡ false)
  pub received :
      c.phase ≡ phase.SynReceived
      → IsOut there c.iss (Syn ∷ []) × (c.receiving.is_open ≡ true) × (c.receiving.next ≡ after c.irs)

-- events of the sending half: it sends, or takes an acknowledgement that was sent
abbrev pub OfSender : List Event → Type 0
OfSender [] = Unit {0}
OfSender (Send offset count ∷ events) = OfSender events
OfSender (Ack_comes which ∷ events) = OfSender events
OfSender (event ∷ events) = ⊥

-- events of the receiving half: it takes what was sent
abbrev pub OfReceiver : List Event → Type 0
OfReceiver [] = Unit {0}
OfReceiver (Segment_comes which room ∷ events) = OfReceiver events
OfReceiver (event ∷ events) = ⊥

-- They stand for these histories after further events, which are the endpoint's own: nothing is written or closed, and the peer does nothing.
pub record Went (there back : World) (consumed : List ℕ) (c : Connection) (outgoing incoming : List ℕ) : Type 0 where
  pub acks : List Event
  pub texts : List Event
  pub of_sender : OfSender acks
  pub of_receiver : OfReceiver texts
  pub stand : Stand (run acks there) (run texts back) consumed c outgoing incoming

-- The same, and the segment that this step returned goes out.
pub record Goes (there back : World) (consumed : List ℕ) (c : Connection) (outgoing incoming : List ℕ) (result : Option Said) : Type 0 where
  pub went : Went there back consumed c outgoing incoming
  pub out : IfSome result (λ s. GoesOut (run went.acks there) (run went.texts back) s)

-- the sending half waits in the history after further events
pub record WaitsLater (there : World) (s : Sending) (outgoing : List ℕ) : Type 0 where
  pub events : List Event
  pub own : OfSender events
  pub waits : Waits (run events there) s outgoing

-- An acknowledgement is taken: in each history in which it comes, it is the event Ack_comes.
pub record HearsAck (old new : Sending) (outgoing : List ℕ) (ack : ℕ) : Type 0 where
  pub waits :
      (there : World) (which : ℕ) → AckComes there which ack → Waits there old outgoing
      → Waits (happens there (Ack_comes which)) new outgoing

-- Text and FIN are taken, as far as there is room: in each history in which they come, it is the event Segment_comes. What is kept
-- after them is taken too, as if its segments came again.
pub record GetsText (old new : Receiving) (before after : List ℕ) (room number : ℕ) (items : List Item) : Type 0 where
  pub uses :
      (back : World) (which : ℕ) (consumed : List ℕ) → SegmentComes back which number items
      → Stands back consumed old before → Uses (happens back (Segment_comes which room)) consumed new after

-- the receiving half stands for the receiver after further events
pub record StandsLater (back : World) (consumed : List ℕ) (r : Receiving) (incoming : List ℕ) : Type 0 where
  pub events : List Event
  pub own : OfReceiver events
  pub stands : Stands (run events back) consumed r incoming

-- An acknowledgement that an endpoint made in these histories comes to its peer after further events. The peer has received
-- nothing that was sent after it, and it is not older than the sequence space allows.
pub record ComesNext (there back : World) (sent received : List Event) : Type 0 where
  pub first : length (run sent there).receiver.got ≤ there.sent
  pub alive : (run received back).sent ≤ length back.receiver.got + 2147483648

-- all that was written and the end were acknowledged
abbrev pub IsDone : World → Type 0
IsDone w = w.acked ≡ length (stream w.written w.closed)

-- what a state says of the histories
abbrev pub TellsState : State → World → World → Type 0
TellsState Closed there back = Unit {0}
TellsState Listen there back = Unit {0}
TellsState SynSent there back = Unit {0}
TellsState SynReceived there back = Unit {0}
TellsState Established there back = (there.closed ≡ false) × (is_ended back.receiver.got ≡ false)
TellsState FinWait1 there back =
    (there.closed ≡ true) × (there.acked < length (stream there.written there.closed))
    × (is_ended back.receiver.got ≡ false)
TellsState FinWait2 there back = (there.closed ≡ true) × IsDone there × (is_ended back.receiver.got ≡ false)
TellsState CloseWait there back = (there.closed ≡ false) × (is_ended back.receiver.got ≡ true)
TellsState Closing there back =
    (there.closed ≡ true) × (there.acked < length (stream there.written there.closed))
    × (is_ended back.receiver.got ≡ true)
TellsState LastAck there back =
    (there.closed ≡ true) × (there.acked < length (stream there.written there.closed))
    × (is_ended back.receiver.got ≡ true)
TellsState TimeWait there back = (there.closed ≡ true) × IsDone there × (is_ended back.receiver.got ≡ true)

-- the acknowledgement of a reply is what the receiver answers
abbrev pub IsAnswered : World → Reply → Type 0
IsAnswered back r = (r.rst ≡ true) ⊎ IfSome r.ack (λ number. IsAnswer back number)
