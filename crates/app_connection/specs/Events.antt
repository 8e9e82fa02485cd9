-- The events of a connection.
-- Pinned by: `connection/figures`
use Rattle.std.specs.Prelude.{ℕ, ◌≡◌, ◌⊎◌, ◌<◌, List, length, Bool, false, not, if◌then◌else◌}
use Rattle.tcp_stream.specs.Network.{World, Close, happens}
use Rattle.tcp_stream.specs.Waits.{from_of}
use Rattle.tcp_stream.specs.declared.receiving.Receiving.{Receiving}
use Rattle.tcp_stream.specs.declared.sending.Sending.{Sending}
use Rattle.app_connection.specs.Endpoints.{answers_bare, control_of, has_items, is_bare}
use Rattle.app_connection.specs.Promises.{GetsTextOf, HearsAckOf, SameNext, TakesAckOf}
use Rattle.app_connection.specs.declared.connection.Connection.{Connection}
use Rattle.app_connection.specs.SetUp.{Endpoint, In_closed, In_listen, In_syn_sent, hears}
use Rattle.app_connection.specs.Worlds.{Arrives}
use Rattle.app_connection.specs.declared.step.Event.{Event}
use Rattle.app_connection.specs.declared.step.Event.TheVariants as event

-- a segment has the size of one of TCP
abbrev pub IsShort : Event → Type 0
IsShort event.Listen = Unit {0}
IsShort (event.Open iss) = Unit {0}
IsShort (event.Arrives segment iss) = length segment.now.payload.now < 65536
IsShort (event.Send offset count) = Unit {0}
IsShort event.Close = Unit {0}
IsShort event.Abort = Unit {0}

-- events that go on with these histories: a segment is one of them
abbrev pub ComesBy : Event → World → World → Type 0
ComesBy event.Listen there back = Unit {0}
ComesBy (event.Open iss) there back = Unit {0}
ComesBy (event.Arrives segment iss) there back = Arrives there back segment.now
ComesBy (event.Send offset count) there back = Unit {0}
ComesBy event.Close there back = Unit {0}
ComesBy event.Abort there back = Unit {0}

-- The history that the endpoint writes, after the application's call: CLOSE ends its stream, in a state that may close.
abbrev pub called : Event → Bool → World → World
called event.Listen may there = there
called (event.Open iss) may there = there
called (event.Arrives segment iss) may there = there
called (event.Send offset count) may there = there
called event.Close may there = if may then happens there Close else there
called event.Abort may there = there

-- What an event makes of an endpoint with this window: a move of the set-up. A segment is heard, or resets the connection.
abbrev pub IsMove : Event → ℕ → Endpoint → Endpoint → Type 0
IsMove event.Listen window old new = (new ≡ old) ⊎ (new ≡ In_listen)
IsMove (event.Open iss) window old new = (new ≡ old) ⊎ (new ≡ In_syn_sent iss)
IsMove (event.Arrives segment iss) window old new =
    (new ≡ hears old (control_of segment.now) window iss) ⊎ (new ≡ In_closed)
IsMove (event.Send offset count) window old new = new ≡ old
IsMove event.Close window old new = (new ≡ old) ⊎ (new ≡ In_closed)
IsMove event.Abort window old new = new ≡ In_closed

-- the caller has a segment sent: no other event lets text or a FIN go
abbrev pub IsSending : Event → Type 0
IsSending event.Listen = ⊥
IsSending (event.Open iss) = ⊥
IsSending (event.Arrives segment iss) = ⊥
IsSending (event.Send offset count) = Unit {0}
IsSending event.Close = ⊥
IsSending event.Abort = ⊥

-- The item from which the segment of an event is cut. The segments of the other events have no items.
abbrev pub cut_from : Event → Sending → ℕ
cut_from event.Listen s = 0
cut_from (event.Open iss) s = 0
cut_from (event.Arrives segment iss) s = 0
cut_from (event.Send offset count) s = from_of s offset
cut_from event.Close s = 0
cut_from event.Abort s = 0

-- Whether an event begins another connection: an active open of an endpoint without a peer.
abbrev pub begins : Event → Bool → Bool
begins event.Listen has = false
begins (event.Open iss) has = not has
begins (event.Arrives segment iss) has = false
begins (event.Send offset count) has = false
begins event.Close has = false
begins event.Abort has = false

-- whether an event is a segment with items and an acknowledgement, without RST
abbrev pub brings_items : Event → Bool
brings_items event.Listen = false
brings_items (event.Open iss) = false
brings_items (event.Arrives segment iss) = has_items segment.now
brings_items (event.Send offset count) = false
brings_items event.Close = false
brings_items event.Abort = false

-- a segment without RST comes
abbrev pub ComesWithoutReset : Event → Type 0
ComesWithoutReset event.Listen = ⊥
ComesWithoutReset (event.Open iss) = ⊥
ComesWithoutReset (event.Arrives segment iss) = segment.now.rst ≡ false
ComesWithoutReset (event.Send offset count) = ⊥
ComesWithoutReset event.Close = ⊥
ComesWithoutReset event.Abort = ⊥

-- whether an event is a segment without items and RST
abbrev pub brings_bare : Event → Bool
brings_bare event.Listen = false
brings_bare (event.Open iss) = false
brings_bare (event.Arrives segment iss) = is_bare segment.now
brings_bare (event.Send offset count) = false
brings_bare event.Close = false
brings_bare event.Abort = false

-- whether a connection with this window answers an event that is a segment without items and RST
abbrev pub is_answered : Event → Connection → ℕ → Bool
is_answered event.Listen c window = false
is_answered (event.Open iss) c window = false
is_answered (event.Arrives segment iss) c window = answers_bare c window segment.now.number segment.now.ack
is_answered (event.Send offset count) c window = false
is_answered event.Close c window = false
is_answered event.Abort c window = false

-- The acknowledgement of a segment is taken (section 3.10.7.4): the segment is in the window, and acknowledges nothing that was
-- not sent.
abbrev pub TakesBy : Event → Connection → ℕ → Connection → Type 0
TakesBy event.Listen old window new = Unit {0}
TakesBy (event.Open iss) old window new = Unit {0}
TakesBy (event.Arrives segment iss) old window new = TakesAckOf old window segment.now new
TakesBy (event.Send offset count) old window new = Unit {0}
TakesBy event.Close old window new = Unit {0}
TakesBy event.Abort old window new = Unit {0}

-- The acknowledgement of a segment moves SND.UNA only: SND.NXT stays.
abbrev pub KeepsNext : Event → Sending → Sending → Type 0
KeepsNext event.Listen old new = Unit {0}
KeepsNext (event.Open iss) old new = Unit {0}
KeepsNext (event.Arrives segment iss) old new = SameNext old new
KeepsNext (event.Send offset count) old new = Unit {0}
KeepsNext event.Close old new = new.flight ≡ old.flight
KeepsNext event.Abort old new = Unit {0}

-- The same in the histories.
abbrev pub HearsBy : Event → Connection → ℕ → Connection → List ℕ → Type 0
HearsBy event.Listen old window new outgoing = Unit {0}
HearsBy (event.Open iss) old window new outgoing = Unit {0}
HearsBy (event.Arrives segment iss) old window new outgoing = HearsAckOf old window segment.now new outgoing
HearsBy (event.Send offset count) old window new outgoing = Unit {0}
HearsBy event.Close old window new outgoing = Unit {0}
HearsBy event.Abort old window new outgoing = Unit {0}

-- Text and FIN of a segment in the window are taken, as far as there is room, if it acknowledges nothing that was not sent.
abbrev pub GetsBy : Event → Connection → ℕ → Receiving → List ℕ → List ℕ → Type 0
GetsBy event.Listen old room new before after = Unit {0}
GetsBy (event.Open iss) old room new before after = Unit {0}
GetsBy (event.Arrives segment iss) old room new before after = GetsTextOf old room segment.now new before after
GetsBy (event.Send offset count) old room new before after = Unit {0}
GetsBy event.Close old room new before after = Unit {0}
GetsBy event.Abort old room new before after = Unit {0}
