-- What the events of one end leave of a history: those of its sender leave the receiver, and those of its receiver the sender.
use Rattle.std.proofs.Common.{◌≡◌, refl, sym, ◌∙◌, ap, subst, ℕ, suc, ◌+◌, List, [], ◌∷◌, length, nat_lt, take, drop}
use Rattle.std.specs.Prelude.{Option, Some, None, slice_get}
use Rattle.std.proofs.lemmas.Bool.{cond_both}
use Rattle.tcp_stream.specs.Endpoint.{Item, Receiver}
use Rattle.tcp_stream.specs.Network.{World, Event, Write, Close, Send, Segment_comes, Resegment, Answer, Ack_comes, Segment, Ack, ack_comes, happens, resegments, run, segment_comes, sends, start, stream}
use Rattle.tcp_stream.proofs.Standing.{keeps_still, reached_more}
use Rattle.tcp_stream.specs.Stands.{Holds, IsReached, Stands}
use Rattle.tcp_stream.specs.Waits.{Waits}
use Rattle.tcp_stream.specs.declared.receiving.Receiving.{Receiving}
use Rattle.tcp_stream.specs.declared.sending.Sending.{Sending}
use Rattle.app_connection.specs.Worlds.{OfReceiver, OfSender}

-- what is at a place of a list is in the other one too
abbrev pub Grows : {X : Type 0} → List X → List X → Type 0
Grows {X = X} old new = (n : ℕ) (x : X) → slice_get old n ≡ Some x → (m : ℕ) × (slice_get new m ≡ Some x)

grows_same : {X : Type 0} (old : List X) → Grows old old
grows_same old n x is = (n, is)

grows_one : {X : Type 0} (y : X) (old : List X) → Grows old (y ∷ old)
grows_one y old n x is = (suc n, is)

grows_both : {X : Type 0} (a b c : List X) → Grows a b → Grows b c → Grows a c
grows_both a b c one two n x is = let m = one n x is in two m.0 x m.1

-- a history after events of its sender
pub record BySender (w v : World) : Type 0 where
  pub same : v ≡ record w { written = v.written; closed = v.closed; acked = v.acked; sent = v.sent; segments = v.segments }
  pub segments : Grows w.segments v.segments
  pub reached : IsReached w → IsReached v

-- a history after events of its receiver
pub record ByReceiver (w v : World) : Type 0 where
  pub same : v ≡ record w { receiver = v.receiver; acks = v.acks }
  pub acks : Grows w.acks v.acks
  pub reached : IsReached w → IsReached v

pub sender_none : (w : World) → BySender w w
sender_none w = record { same = refl; segments = grows_same w.segments; reached = λ r. r }

pub receiver_none : (w : World) → ByReceiver w w
receiver_none w = record { same = refl; acks = grows_same w.acks; reached = λ r. r }

pub sender_then : (u v w : World) → BySender u v → BySender v w → BySender u w
sender_then u v w one two = record {
  same = two.same ∙ ap (λ (x : World). record x { written = w.written; closed = w.closed; acked = w.acked; sent = w.sent; segments = w.segments }) one.same;
  segments = grows_both u.segments v.segments w.segments one.segments two.segments;
  reached = λ r. two.reached (one.reached r);
}

pub receiver_then : (u v w : World) → ByReceiver u v → ByReceiver v w → ByReceiver u w
receiver_then u v w one two = record {
  same = two.same ∙ ap (λ (x : World). record x { receiver = w.receiver; acks = w.acks }) one.same;
  acks = grows_both u.acks v.acks w.acks one.acks two.acks;
  reached = λ r. two.reached (one.reached r);
}

-- one event, but for how it is reached
record SentBy (w v : World) : Type 0 where
  same : v ≡ record w { written = v.written; closed = v.closed; acked = v.acked; sent = v.sent; segments = v.segments }
  segments : Grows w.segments v.segments

record TakenBy (w v : World) : Type 0 where
  same : v ≡ record w { receiver = v.receiver; acks = v.acks }
  acks : Grows w.acks v.acks

sent_none : (w : World) → SentBy w w
sent_none w = record { same = refl; segments = grows_same w.segments }

taken_none : (w : World) → TakenBy w w
taken_none w = record { same = refl; acks = grows_same w.acks }

sends_by : (w : World) (place : ℕ) (items : List Item) → SentBy w (sends w place items)
sends_by w place items = cond_both (nat_lt (w.acked + 2147483648) (place + length items)) _ _ (SentBy w) (λ far. sent_none w) (λ near. record { same = refl; segments = grows_one _ w.segments })

send_by : (w : World) (offset count : ℕ) → SentBy w (happens w (Send offset count))
send_by w offset count = cond_both (nat_lt (length (stream w.written w.closed)) (w.acked + offset)) _ _ (SentBy w) (λ past. sent_none w) (λ within. sends_by w (w.acked + offset) (take count (drop (w.acked + offset) (stream w.written w.closed))))

acked_by : (w : World) (a : Option Ack) → SentBy w (ack_comes w a)
acked_by w None = sent_none w
acked_by w (Some a) = cond_both _ _ _ (SentBy w) (λ alive. record { same = refl; segments = grows_same w.segments }) (λ dead. sent_none w)

comes_by : (w : World) (room : ℕ) (s : Option Segment) → TakenBy w (segment_comes w room s)
comes_by w room None = taken_none w
comes_by w room (Some s) = cond_both _ _ _ (TakenBy w) (λ alive. record { same = refl; acks = grows_same w.acks }) (λ dead. taken_none w)

answered_by : (w : World) → TakenBy w (happens w Answer)
answered_by w = cond_both w.receiver.is_open _ _ (TakenBy w) (λ is. record { same = refl; acks = grows_one _ w.acks }) (λ not. taken_none w)

sent_then : (w : World) (e : Event) → SentBy w (happens w e) → BySender w (happens w e)
sent_then w e by = record { same = by.same; segments = by.segments; reached = reached_more w e }

taken_then : (w : World) (e : Event) → TakenBy w (happens w e) → ByReceiver w (happens w e)
taken_then w e by = record { same = by.same; acks = by.acks; reached = reached_more w e }

pub wrote_by : (w : World) (bytes : List ℕ) → BySender w (happens w (Write bytes))
wrote_by w bytes = sent_then w (Write bytes) (cond_both w.closed _ _ (SentBy w) (λ shut. sent_none w) (λ still. record { same = refl; segments = grows_same w.segments }))

pub closed_by : (w : World) → BySender w (happens w Close)
closed_by w = sent_then w Close (record { same = refl; segments = grows_same w.segments })

pub answer_by : (w : World) → ByReceiver w (happens w Answer)
answer_by w = taken_then w Answer (answered_by w)

resegments_by : (w : World) (place count : ℕ) → SentBy w (resegments w place count)
resegments_by w place count = cond_both (nat_lt w.sent (place + count)) _ _ (SentBy w) (λ unsent. sent_none w) (λ within. record { same = refl; segments = grows_one _ w.segments })

-- A history after events of the network: what is on the way.
pub record ByNetwork (w v : World) : Type 0 where
  pub same : v ≡ record w { segments = v.segments }
  pub by : BySender w v

pub resegmented_by : (w : World) (place count : ℕ) → ByNetwork w (happens w (Resegment place count))
resegmented_by w place count = record {
  same = cond_both (nat_lt w.sent (place + count)) _ _ (λ (v : World). v ≡ record w { segments = v.segments }) (λ unsent. refl) (λ within. refl);
  by = sent_then w (Resegment place count) (resegments_by w place count);
}

-- the events of a sender
pub by_sender : (es : List Event) (w : World) → OfSender es → BySender w (run es w)
by_sender [] w own = sender_none w
by_sender (Send offset count ∷ es) w own = sender_then w (happens w (Send offset count)) (run es (happens w (Send offset count))) (sent_then w (Send offset count) (send_by w offset count)) (by_sender es (happens w (Send offset count)) own)
by_sender (Ack_comes which ∷ es) w own = sender_then w (happens w (Ack_comes which)) (run es (happens w (Ack_comes which))) (sent_then w (Ack_comes which) (acked_by w (slice_get w.acks which))) (by_sender es (happens w (Ack_comes which)) own)
by_sender (Write bytes ∷ es) w own = absurd own
by_sender (Close ∷ es) w own = absurd own
by_sender (Segment_comes which room ∷ es) w own = absurd own
by_sender (Resegment place count ∷ es) w own = absurd own
by_sender (Answer ∷ es) w own = absurd own

-- the events of a receiver
pub by_receiver : (es : List Event) (w : World) → OfReceiver es → ByReceiver w (run es w)
by_receiver [] w own = receiver_none w
by_receiver (Segment_comes which room ∷ es) w own =
    let v = happens w (Segment_comes which room) in
    receiver_then w v (run es v) (taken_then w (Segment_comes which room) (comes_by w room (slice_get w.segments which))) (by_receiver es v own)
by_receiver (Write bytes ∷ es) w own = absurd own
by_receiver (Close ∷ es) w own = absurd own
by_receiver (Send offset count ∷ es) w own = absurd own
by_receiver (Resegment place count ∷ es) w own = absurd own
by_receiver (Answer ∷ es) w own = absurd own
by_receiver (Ack_comes which ∷ es) w own = absurd own

-- the events of a sender write nothing
pub written_still : (es : List Event) (w : World) → OfSender es → (run es w).written ≡ w.written
written_still [] w own = refl
written_still (Send offset count ∷ es) w own = written_still es (happens w (Send offset count)) own ∙ by_send w offset count
  where
    by_sends : (w : World) (place : ℕ) (items : List Item) → (sends w place items).written ≡ w.written
    by_sends w place items = cond_both (nat_lt (w.acked + 2147483648) (place + length items)) _ _ (λ (v : World). v.written ≡ w.written) (λ far. refl) (λ near. refl)

    by_send : (w : World) (offset count : ℕ) → (happens w (Send offset count)).written ≡ w.written
    by_send w offset count = cond_both (nat_lt (length (stream w.written w.closed)) (w.acked + offset)) _ _ (λ (v : World). v.written ≡ w.written) (λ past. refl) (λ within. by_sends w (w.acked + offset) (take count (drop (w.acked + offset) (stream w.written w.closed))))
written_still (Ack_comes which ∷ es) w own = written_still es (happens w (Ack_comes which)) own ∙ by_ack w (slice_get w.acks which)
  where
    by_ack : (w : World) (a : Option Ack) → (ack_comes w a).written ≡ w.written
    by_ack w None = refl
    by_ack w (Some a) = cond_both _ _ _ (λ (v : World). v.written ≡ w.written) (λ alive. refl) (λ dead. refl)
written_still (Write bytes ∷ es) w own = absurd own
written_still (Close ∷ es) w own = absurd own
written_still (Segment_comes which room ∷ es) w own = absurd own
written_still (Resegment place count ∷ es) w own = absurd own
written_still (Answer ∷ es) w own = absurd own

-- in a history without segments its receiver does nothing
pub receiver_idle : (es : List Event) (initial : ℕ) → OfReceiver es → run es (start initial) ≡ start initial
receiver_idle [] initial own = refl
receiver_idle (Segment_comes which room ∷ es) initial own = receiver_idle es initial own
receiver_idle (Write bytes ∷ es) initial own = absurd own
receiver_idle (Close ∷ es) initial own = absurd own
receiver_idle (Send offset count ∷ es) initial own = absurd own
receiver_idle (Resegment place count ∷ es) initial own = absurd own
receiver_idle (Answer ∷ es) initial own = absurd own
receiver_idle (Ack_comes which ∷ es) initial own = absurd own

-- the receiver of a history stands as it did after events of its sender
pub stands_kept : (w v : World) (consumed : List ℕ) (r : Receiving) (incoming : List ℕ) → BySender w v → Stands w consumed r incoming → Stands v consumed r incoming
stands_kept w v consumed r incoming by stands =
    let receiver : v.receiver ≡ w.receiver = ap (λ (x : World). x.receiver) by.same in
    record {
      reached = by.reached stands.reached;
      holds = subst (λ (x : Receiver). Holds x consumed r incoming) (sym receiver) stands.holds;
      keeps = keeps_still w v r incoming receiver (record { find = by.segments }) stands.keeps;
    }

-- the sender of a history waits as it did after events of its receiver
pub waits_kept : (w v : World) (s : Sending) (outgoing : List ℕ) → ByReceiver w v → Waits w s outgoing → Waits v s outgoing
waits_kept w v s outgoing by waits = subst (λ (x : World). Waits x s outgoing) (sym by.same) (record { una = waits.una; flight = waits.flight; within = waits.within; closed = waits.closed; still = waits.still; held = waits.held })
