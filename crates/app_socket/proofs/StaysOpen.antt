-- A receiver that is open stays open.
use Rattle.std.proofs.Common.{◌≡◌, ap, ℕ, List, [], ◌∷◌, true, length}
use Rattle.std.specs.Prelude.{Option, Some, None, slice_get}
use Rattle.std.proofs.lemmas.Bool.{cond_both, cond-true}
use Rattle.tcp_stream.specs.Endpoint.{Receiver, accepted, fresh}
use Rattle.tcp_stream.specs.Network.{World, Event, Write, Close, Send, Segment_comes, Resegment, Answer, Ack_comes, Segment as Sent, happens, is_alive, run, segment_comes}
use Rattle.app_connection.specs.Worlds.{OfReceiver}

open_segment : (w : World) (room : ℕ) (o : Option Sent) → w.receiver.is_open ≡ true → (segment_comes w room o).receiver.is_open ≡ true
open_segment w room None is = is
open_segment w room (Some s) is =
    cond_both (is_alive (length w.receiver.got) s.place) _ _ (λ (v : World). v.receiver.is_open ≡ true)
    (λ alive. ap (λ (r : Receiver). r.is_open) (cond-true w.receiver.is_open (accepted w.receiver.next w.receiver.got (fresh w.receiver.next s.number s.items room)) _ is)) (λ dead. is)

pub open_run : (es : List Event) (w : World) → OfReceiver es → w.receiver.is_open ≡ true → (run es w).receiver.is_open ≡ true
open_run [] w own is = is
open_run (Segment_comes which room ∷ es) w own is = open_run es (happens w (Segment_comes which room)) own (open_segment w room (slice_get w.segments which) is)
open_run (Write bytes ∷ es) w own is = absurd own
open_run (Close ∷ es) w own is = absurd own
open_run (Send offset count ∷ es) w own is = absurd own
open_run (Resegment place count ∷ es) w own is = absurd own
open_run (Answer ∷ es) w own is = absurd own
open_run (Ack_comes which ∷ es) w own is = absurd own
