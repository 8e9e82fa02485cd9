-- Rounds until all is acknowledged.
use Rattle.std.proofs.Common.{◌≡◌, inl, inr, refl, ℕ, ◌+◌, ◌≤◌, ◌<◌, List, [], ◌∷◌, ◌++◌, true, length, sym, ◌∙◌, ap, arith, nat_lt}
use Rattle.std.specs.Prelude.{Option, Some, None, slice_get}
use Rattle.std.proofs.lemmas.Bool.{cond_both, cond-true, cases_lt}
use Rattle.tcp_stream.specs.Endpoint.{Item, Receiver, accepted, fresh}
use Rattle.tcp_stream.specs.Network.{World, Segment, Ack, Event, Write, Close, Send, Segment_comes, Resegment, Answer, Ack_comes, ack_comes, happens, is_alive, resegments, round, run, segment_comes, sends, start, stream}
use Rattle.tcp_stream.specs.Rounds.{Round, AreOthers, AreRounds, IsOther, events_of, rounds_of}
use Rattle.tcp_stream.proofs.Kept.{Good, good_start, run_good}
use Rattle.tcp_stream.proofs.Round.{goes_further}

-- what no event of the network and the endpoints takes back
record Onward (w v : World) : Type 0 where
  acked : w.acked ≤ v.acked
  is_open : w.receiver.is_open ≡ true → v.receiver.is_open ≡ true
  same : stream v.written v.closed ≡ stream w.written w.closed

here : (w : World) → Onward w w
here w = record { acked = omega arith; is_open = λ is. is; same = refl }

-- only the network changes
beside : (w : World) (sent : ℕ) (segments : List Segment) (acks : List Ack) → Onward w (record w { sent = sent; segments = segments; acks = acks })
beside w sent segments acks = record { acked = omega arith; is_open = λ is. is; same = refl }

sends_on : (w : World) (place : ℕ) (items : List Item) → Onward w (sends w place items)
sends_on w place items = cond_both (nat_lt (w.acked + 2147483648) (place + length items)) _ _ (Onward w) (λ far. here w) (λ near. beside w _ _ w.acks)

segment_on : (w : World) (room : ℕ) (o : Option Segment) → Onward w (segment_comes w room o)
segment_on w room None = here w
segment_on w room (Some s) =
    cond_both (is_alive (length w.receiver.got) s.place) _ _ (Onward w)
    (λ alive. record {
      acked = omega arith;
      is_open = λ is. ap (λ (r : Receiver). r.is_open) (cond-true w.receiver.is_open (accepted w.receiver.next w.receiver.got (fresh w.receiver.next s.number s.items room)) _ is);
      same = refl;
    })
    (λ dead. here w)

resegments_on : (w : World) (place count : ℕ) → Onward w (resegments w place count)
resegments_on w place count = cond_both (nat_lt w.sent (place + count)) _ _ (Onward w) (λ unsent. here w) (λ within. beside w w.sent _ w.acks)

ack_on : (w : World) (o : Option Ack) → Onward w (ack_comes w o)
ack_on w None = here w
ack_on w (Some a) = cond_both (is_alive w.acked a.place) _ _ (Onward w) (λ yes. record { acked = omega arith; is_open = λ is. is; same = refl }) (λ no. here w)

happens_on : (w : World) (e : Event) → IsOther e → Onward w (happens w e)
happens_on w (Write bytes) other = absurd other
happens_on w Close other = absurd other
happens_on w (Send offset count) other = cond_both (nat_lt (length (stream w.written w.closed)) (w.acked + offset)) _ _ (Onward w) (λ past. here w) (λ within. sends_on w _ _)
happens_on w (Segment_comes which room) other = segment_on w room (slice_get w.segments which)
happens_on w (Resegment place count) other = resegments_on w place count
happens_on w Answer other = cond_both w.receiver.is_open _ _ (Onward w) (λ yes. beside w w.sent w.segments _) (λ no. here w)
happens_on w (Ack_comes which) other = ack_on w (slice_get w.acks which)

then_on : (u v w : World) → Onward u v → Onward v w → Onward u w
then_on u v w first next = record {
  acked = omega (arith, first.acked, next.acked);
  is_open = λ is. next.is_open (first.is_open is);
  same = next.same ∙ first.same;
}

run_on : (events : List Event) (w : World) → AreOthers events → Onward w (run events w)
run_on [] w others = here w
run_on (e ∷ es) w others = then_on w (happens w e) (run es (happens w e)) (happens_on w e others.0) (run_on es (happens w e) others.1)

run_append : (xs ys : List Event) (w : World) → run (xs ++ ys) w ≡ run ys (run xs w)
run_append [] ys w = refl
run_append (e ∷ xs) ys w = run_append xs ys (happens w e)

-- no more is acknowledged than there is
bounded : (w : World) → Good w → w.acked ≤ length (stream w.written w.closed)
bounded w good = omega (arith, good.counted, good.got.within)

-- the events of a round write nothing
round_others : (count room : ℕ) → AreOthers (round count room)
round_others count room = (tt, (tt, (tt, (tt, tt))))

all_from : (rs : List Round) (w : World) → Good w → w.receiver.is_open ≡ true → AreRounds rs → length (stream w.written w.closed) ≤ w.acked + length rs
    → (run (rounds_of rs) w).acked ≡ length (stream w.written w.closed)
all_from [] w good opened rounds few = omega (arith, few, bounded w good)
all_from (r ∷ rs) w good opened rounds few =
    sym (ap (λ (v : World). v.acked) split) ∙ (all_from rs v goodv (on.is_open opened) rounds.1 enough ∙ ap length on.same)
  where
    u : World
    u = run r.before w

    v : World
    v = run (round r.count r.room) u

    split : run (rounds_of rs) v ≡ run (rounds_of (r ∷ rs)) w
    split = sym (run_append (events_of r) (rounds_of rs) w ∙ ap (λ (x : World). run (rounds_of rs) x) (run_append r.before (round r.count r.room) w))

    first : Onward w u
    first = run_on r.before w rounds.0.others

    next : Onward u v
    next = run_on (round r.count r.room) u (round_others r.count r.room)

    on : Onward w v
    on = then_on w u v first next

    goodu : Good u
    goodu = run_good r.before w good

    goodv : Good v
    goodv = run_good (round r.count r.room) u goodu

    enough : length (stream v.written v.closed) ≤ v.acked + length rs
    enough = elim (cases_lt u.acked (length (stream u.written u.closed))) [
      | inl less ↦
          let more : u.acked < v.acked = goes_further u r.count r.room goodu (first.is_open opened) less rounds.0.some rounds.0.most (inl rounds.0.room) in
          omega (arith, more, few, first.acked, ap length on.same)
      | inr all ↦ omega (arith, all, next.acked, ap length next.same)
    ]

pub all_is_acknowledged : (initial : ℕ) (events : List Event) (rs : List Round) → let w : World = run events (start initial) in w.receiver.is_open ≡ true → AreRounds rs
    → length (stream w.written w.closed) ≤ w.acked + length rs → (run (rounds_of rs) w).acked ≡ length (stream w.written w.closed)
all_is_acknowledged initial events rs = all_from rs (run events (start initial)) (run_good events (start initial) (good_start initial))
