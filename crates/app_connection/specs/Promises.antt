-- What the calls of a connection promise, by one name for each promise that several of them make. `old` and `new` are the
-- connection before and after the call.
-- Pinned by: `connection/figures`
use Rattle.std.specs.Prelude.{ℕ, ◌≡◌, ◌⊎◌, ◌+◌, ◌<◌, List, [], length, true, false, Option, is_some, IfSome}
use Rattle.tcp_stream.specs.Endpoint.{distance}
use Rattle.tcp_stream.specs.Network.{World, Send, happens}
use Rattle.tcp_stream.specs.Items.{items_of}
use Rattle.tcp_stream.specs.Stands.{IsAnswer, Stands}
use Rattle.tcp_stream.specs.Waits.{AckComes, IsSend, Waits}
use Rattle.tcp_stream.specs.declared.receiving.Receiving.{Receiving}
use Rattle.tcp_stream.specs.declared.sending.Sending.{Sending}
use Rattle.app_connection.specs.declared.connection.Connection.{Connection}
use Rattle.app_connection.specs.declared.segment.Reply.{Reply}
use Rattle.app_connection.specs.declared.segment.Segment.{Segment}
use Rattle.app_connection.specs.declared.state.Phase.TheVariants.{Open}
use Rattle.app_connection.specs.declared.state.State.TheVariants.{Closed}
use Rattle.app_connection.specs.Endpoints.{TakesAck, edge_of, endpoint_of, is_of_unsent, len_of, next_of}
use Rattle.app_connection.specs.Sequence.{is_of_sent, is_taken_at}
use Rattle.app_connection.specs.SetUp.{In_closed}
use Rattle.app_connection.specs.States.{state_from}
use Rattle.app_connection.specs.Worlds.{Arrives, GetsText, Goes, HearsAck, IsAnswered, Said, Stand, WaitsLater}

-- a fact about a connection in a synchronized state (RFC 9293, section 3.3.2)
abbrev pub WhenOpen : Connection → Type 0 → Type 0
WhenOpen old fact = old.phase ≡ Open → (state_from old ≡ Closed → ⊥) → fact

-- a fact about such a connection whose receiving half has taken the peer's SYN
abbrev pub WhenSynced : Connection → Type 0 → Type 0
WhenSynced old fact = WhenOpen old (old.receiving.is_open ≡ true → fact)

-- ---- the set-up

-- a connection stays in the set-up what it was, or it is closed
abbrev pub KeepsOrEnds : Connection → Connection → Type 0
KeepsOrEnds old new = (endpoint_of new ≡ endpoint_of old) ⊎ (endpoint_of new ≡ In_closed)

-- ---- streams

-- whatever histories the connection stood for, it goes on with them
abbrev pub GoesFrom : Connection → Connection → List ℕ → Option Said → Type 0
GoesFrom old new outgoing result =
    (there back : World) (consumed buffer : List ℕ) → Stand there back consumed old outgoing buffer
    → Goes there back consumed new outgoing buffer result

-- it goes on with those in which this segment comes
abbrev pub GoesWith : Connection → Connection → List ℕ → List ℕ → List ℕ → Segment → Option Said → Type 0
GoesWith old new outgoing before after s result =
    (there back : World) (consumed : List ℕ) → Arrives there back s → Stand there back consumed old outgoing before
    → Goes there back consumed new outgoing after result

-- a segment has no text and no FIN
abbrev pub HasNoText : Option Segment → Type 0
HasNoText given = IfSome given (λ s. (s.payload.now ≡ []) × (s.fin ≡ false))

-- The items of a segment are those of the stream, from this one after SND.UNA on.
abbrev pub IsCut : Sending → List ℕ → ℕ → Segment → Type 0
IsCut old outgoing from s =
    (there : World) → Waits there old outgoing → IsSend there from s.number (items_of s.syn s.payload.now s.fin)

-- That a segment goes is the event Send of the model.
abbrev pub IsEventSend : Sending → Sending → List ℕ → ℕ → Segment → Type 0
IsEventSend old new outgoing from s =
    (there : World) → Waits there old outgoing
    → Waits (happens there (Send from (length (items_of s.syn s.payload.now s.fin)))) new outgoing

-- only SND.NXT changes
abbrev pub ChangesOnlyNext : Connection → Connection → Type 0
ChangesOnlyNext old new = new ≡ record old { sending = record old.sending { flight = new.sending.flight } }

-- ---- what is acknowledged

-- in each history of the receiving half this is what the receiver answers
abbrev pub IsAnswerOf : Receiving → Option ℕ → Type 0
IsAnswerOf r ack =
    (back : World) (consumed buffer : List ℕ) → Stands back consumed r buffer
    → IfSome ack (λ number. IsAnswer back number)

-- a segment acknowledges what came, or is a RST
abbrev pub AnswersIn : Receiving → List ℕ → Segment → Type 0
AnswersIn r buffer s =
    (back : World) (consumed : List ℕ) → Stands back consumed r buffer
    → (s.rst ≡ true) ⊎ IfSome s.ack (λ number. IsAnswer back number)

-- so does a reply
abbrev pub RepliesIn : Receiving → List ℕ → Reply → Type 0
RepliesIn r buffer reply = (back : World) (consumed : List ℕ) → Stands back consumed r buffer → IsAnswered back reply

-- the right edge of the receive window stays, before the peer's FIN
abbrev pub KeepsEdge : Connection → Connection → ℕ → Type 0
KeepsEdge old new size =
    old.receiving.has_fin ≡ false → new.receiving.has_fin ≡ false
    → edge_of new.receiving size ≡ edge_of old.receiving size

-- ---- an acknowledgement comes

-- A fact about a segment whose acknowledgement is taken (section 3.10.7.4): it has no RST and no SYN, it is in the window, and it
-- acknowledges nothing that was not sent.
abbrev pub WhenTaken : Connection → ℕ → Segment → Type 0 → Type 0
WhenTaken c window s fact =
    s.rst ≡ false → s.syn ≡ false → is_taken_at c.receiving.next window s.number (len_of s) ≡ true
    → is_of_unsent c s.ack ≡ false → fact

-- SND.UNA and SND.WND after it
abbrev pub TakesAckOf : Connection → ℕ → Segment → Connection → Type 0
TakesAckOf old window s new = WhenTaken old window s (IfSome s.ack (λ ack. TakesAck old new s.number s.window ack))

-- in the histories it is the event Ack_comes
abbrev pub HearsAckOf : Connection → ℕ → Segment → Connection → List ℕ → Type 0
HearsAckOf old window s new outgoing =
    WhenTaken old window s
    (IfSome s.ack (λ ack. is_of_sent old.sending.una (next_of old) ack ≡ true
    → HearsAck old.sending new.sending outgoing ack))

-- Text and FIN are taken, as far as there is room. The segment has an acknowledgement (section 3.10.7.4).
abbrev pub GetsTextOf : Connection → ℕ → Segment → Receiving → List ℕ → List ℕ → Type 0
GetsTextOf old room s new before after =
    s.rst ≡ false → s.syn ≡ false → 0 < len_of s → is_taken_at old.receiving.next room s.number (len_of s) ≡ true
    → is_some s.ack ≡ true → is_of_unsent old s.ack ≡ false
    → GetsText old.receiving new before after room s.number (items_of false s.payload.now s.fin)

-- SND.NXT stays
abbrev pub SameNext : Sending → Sending → Type 0
SameNext old new = new.flight + distance new.una old.una ≡ old.flight

-- the sending half waits in each history in which this acknowledgement comes
abbrev pub WaitsOnAck : Sending → Sending → List ℕ → ℕ → Type 0
WaitsOnAck old new outgoing ack =
    (there : World) (which : ℕ) → AckComes there which ack → Waits there old outgoing → WaitsLater there new outgoing
