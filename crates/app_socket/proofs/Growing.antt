-- What a receiver took grows, and what a sender knows to be acknowledged.
use Rattle.std.proofs.Common.{◌≡◌, refl, ◌∙◌, ap, ℕ, ◌+◌, ◌-◌, ◌≤◌, List, [], ◌∷◌, true, length, take, drop, max, nat_lt, arith, length-append}
use Rattle.std.specs.Prelude.{Option, Some, None, slice_get}
use Rattle.std.proofs.lemmas.Bool.{cond_both}
use Rattle.tcp_stream.specs.Endpoint.{Item, Syn, Byte, Fin, Receiver, fresh, newly, opened, received}
use Rattle.tcp_stream.specs.Network.{World, Ack, Event, Write, Close, Send, Segment_comes, Resegment, Answer, Ack_comes, Segment as Sent, ack_comes, happens, is_alive, number_at, run, segment_comes, sends, stream}
use Rattle.tcp_stream.proofs.Numbers.{distance_after}
use Rattle.tcp_stream.specs.Endpoint.{distance}
use Rattle.tcp_stream.proofs.Standing.{reached_good}
use Rattle.tcp_stream.specs.Stands.{Stands}
use Rattle.tcp_stream.specs.Waits.{Waits}
use Rattle.tcp_stream.specs.declared.receiving.Receiving.{Receiving}
use Rattle.tcp_stream.specs.declared.sending.Sending.{Sending}
use Rattle.app_connection.specs.Worlds.{OfReceiver, OfSender}

le_then : (a b c : ℕ) → a ≤ b → b ≤ c → a ≤ c
le_then a b c one two = omega arith

le_self : (a : ℕ) → a ≤ a
le_self a = omega arith

-- ---- the receiver

got_opened : (r : Receiver) (number : ℕ) (items : List Item) (room : ℕ) → length r.got ≤ length (opened r number items room).got
got_opened r number [] room = omega arith
got_opened r number (Syn ∷ items) room = omega (arith, length-append r.got (fresh number number (Syn ∷ items) room))
got_opened r number (Byte b ∷ items) room = omega arith
got_opened r number (Fin ∷ items) room = omega arith

got_received : (r : Receiver) (number : ℕ) (items : List Item) (room : ℕ) → length r.got ≤ length (received r number items room).got
got_received r number items room =
    cond_both r.is_open _ _ (λ (x : Receiver). length r.got ≤ length x.got) (λ is. omega (arith, length-append r.got (fresh r.next number items room))) (λ shut. got_opened r number items room)

got_segment : (w : World) (room : ℕ) (o : Option Sent) → length w.receiver.got ≤ length (segment_comes w room o).receiver.got
got_segment w room None = omega arith
got_segment w room (Some s) =
    cond_both (is_alive (length w.receiver.got) s.place) _ _ (λ (v : World). length w.receiver.got ≤ length v.receiver.got) (λ alive. got_received w.receiver s.number s.items room) (λ dead. omega arith)

pub got_run : (es : List Event) (w : World) → OfReceiver es → length w.receiver.got ≤ length (run es w).receiver.got
got_run [] w own = omega arith
got_run (Segment_comes which room ∷ es) w own = le_then _ _ _ (got_segment w room (slice_get w.segments which)) (got_run es (happens w (Segment_comes which room)) own)
got_run (Write bytes ∷ es) w own = absurd own
got_run (Close ∷ es) w own = absurd own
got_run (Send offset count ∷ es) w own = absurd own
got_run (Resegment place count ∷ es) w own = absurd own
got_run (Answer ∷ es) w own = absurd own
got_run (Ack_comes which ∷ es) w own = absurd own

-- ---- the sender

-- after its events
pub record Later (w v : World) : Type 0 where
  pub acked : w.acked ≤ v.acked
  pub closed : v.closed ≡ w.closed

later_none : (w : World) → Later w w
later_none w = record { acked = omega arith; closed = refl }

later_then : (u v w : World) → Later u v → Later v w → Later u w
later_then u v w one two = record { acked = le_then u.acked v.acked w.acked one.acked two.acked; closed = two.closed ∙ one.closed }

later_ack : (w : World) (o : Option Ack) → Later w (ack_comes w o)
later_ack w None = later_none w
later_ack w (Some a) =
    cond_both (is_alive w.acked a.place) _ _ (Later w) (λ alive. record { acked = (let n = newly (number_at w.initial w.acked) (w.sent - w.acked) a.number in let e : w.acked ≤ w.acked + n = omega arith in e); closed = refl }) (λ dead. later_none w)

later_sends : (w : World) (place : ℕ) (items : List Item) → Later w (sends w place items)
later_sends w place items =
    let out : World = record w { sent = max w.sent (place + length items); segments = record { place = place; number = number_at w.initial place; items = items } ∷ w.segments } in
    cond_both (nat_lt (w.acked + 2147483648) (place + length items)) w out (Later w) (λ past. later_none w) (λ near. record { acked = le_self w.acked; closed = refl })

later_send : (w : World) (offset count : ℕ) → Later w (happens w (Send offset count))
later_send w offset count =
    let place = w.acked + offset in
    let items = take count (drop place (stream w.written w.closed)) in
    cond_both (nat_lt (length (stream w.written w.closed)) place) w (sends w place items) (Later w) (λ past. later_none w) (λ inside. later_sends w place items)

pub later_run : (es : List Event) (w : World) → OfSender es → Later w (run es w)
later_run [] w own = later_none w
later_run (Send offset count ∷ es) w own = later_then _ _ _ (later_send w offset count) (later_run es (happens w (Send offset count)) own)
later_run (Ack_comes which ∷ es) w own = later_then _ _ _ (later_ack w (slice_get w.acks which)) (later_run es (happens w (Ack_comes which)) own)
later_run (Segment_comes which room ∷ es) w own = absurd own
later_run (Write bytes ∷ es) w own = absurd own
later_run (Close ∷ es) w own = absurd own
later_run (Resegment place count ∷ es) w own = absurd own
later_run (Answer ∷ es) w own = absurd own

-- ---- both

-- how far RCV.NXT is after SND.UNA: what was received and is not known to be acknowledged
pub far : (w : World) (s : Sending) (outgoing consumed : List ℕ) (r : Receiving) (incoming : List ℕ) → Waits w s outgoing → Stands w consumed r incoming → r.is_open ≡ true
    → (w.acked + distance r.next s.una ≡ length w.receiver.got) × (length w.receiver.got ≤ w.acked + s.flight)
far w s outgoing consumed r incoming waits stands synced =
    let good = reached_good w stands.reached in
    let d : distance r.next s.una ≡ length w.receiver.got - w.acked =
    ap (λ (n : ℕ). distance n s.una) (stands.holds.next synced ∙ good.knows.0 (stands.holds.is_open ∙ synced))
    ∙ ap (λ (n : ℕ). distance (number_at w.initial (length w.receiver.got)) n) waits.una
    ∙ distance_after w.initial (length w.receiver.got) w.acked good.counted (omega (arith, good.behind, good.flight))
    in (omega (arith, d, good.counted), omega (arith, good.behind, waits.flight))
