-- A round without loss.
use Rattle.std.proofs.Common.{◌≡◌, ◌⊎◌, inl, inr, refl, ℕ, ◌+◌, ◌-◌, ◌≤◌, ◌<◌, List, [], ◌∷◌, ◌++◌, Bool, true, false, length, map, take, drop, sym, ◌∙◌, ap, subst, arith, nat_lt}
use Rattle.std.specs.Prelude.{Option, Some, None, slice_get}
use Rattle.std.proofs.lemmas.Bool.{cond_both, cond-true}
use Rattle.std.proofs.lemmas.Bool.Decides.{nat_tests}
use Rattle.std.proofs.lemmas.List.{length-drop, length-append, length-map}
use Rattle.tcp_stream.specs.Endpoint.{Item, Byte, Receiver, accepted, fresh}
use Rattle.tcp_stream.specs.Network.{World, Segment, Ack, Event, Send, Segment_comes, Answer, Ack_comes, happens, segment_comes, ack_comes, run, start, stream, end_of, is_ended, is_alive}
use Rattle.tcp_stream.proofs.Kept.{Good, good_start, run_good}
use Rattle.tcp_stream.proofs.Parts.{part_first}
use Rattle.tcp_stream.proofs.Streams.{end_all}
use Rattle.tcp_stream.proofs.Round.{Came, brought, answered}
use Rattle.tcp_stream.specs.Stands.{Stands, SegmentComes, Uses, again, IsAnswer}
use Rattle.tcp_stream.specs.Waits.{Waits, AckComes, IsSend, pending}
use Rattle.tcp_stream.specs.GoesOn.{GoesOn}
use Rattle.tcp_stream.proofs.Pending.{short_pending, short_end}
use Rattle.tcp_stream.specs.Items.{items_of}
use Rattle.tcp_stream.proofs.Standing.{stands_still}
use Rattle.tcp_stream.specs.declared.receiving.Receiving.{Receiving}
use Rattle.tcp_stream.specs.declared.sending.Sending.{Sending}

-- a step of the sender leaves the receiver
send_still : (w : World) (offset count : ℕ) → (happens w (Send offset count)).receiver ≡ w.receiver
send_still w offset count =
    let items = take count (drop (w.acked + offset) (stream w.written w.closed)) in
    cond_both (nat_lt (length (stream w.written w.closed)) (w.acked + offset)) _ _ (λ (v : World). v.receiver ≡ w.receiver) (λ past. refl)
    (λ within. cond_both (nat_lt (w.acked + 2147483648) (w.acked + offset + length items)) _ _ (λ (v : World). v.receiver ≡ w.receiver) (λ far. refl) (λ near. refl))

answer_still : (w : World) → (happens w Answer).receiver ≡ w.receiver
answer_still w = cond_both w.receiver.is_open _ _ (λ (v : World). v.receiver ≡ w.receiver) (λ yes. refl) (λ no. refl)

ack_still : (w : World) (o : Option Ack) → (ack_comes w o).receiver ≡ w.receiver
ack_still w None = refl
ack_still w (Some a) = cond_both (is_alive w.acked a.place) _ _ (λ (v : World). v.receiver ≡ w.receiver) (λ yes. refl) (λ no. refl)

-- a step of the receiver leaves what the sender stands for
same_sender : (w : World) (receiver : Receiver) (acks : List Ack) (c : Sending) (b : List ℕ) → Waits w c b → Waits (record w { receiver = receiver; acks = acks }) c b
same_sender w receiver acks c b waits = record { una = waits.una; flight = waits.flight; within = waits.within; closed = waits.closed; still = waits.still; held = waits.held }

pub segment_sender : (w : World) (room : ℕ) (o : Option Segment) (c : Sending) (b : List ℕ) → Waits w c b → Waits (segment_comes w room o) c b
segment_sender w room None c b waits = waits
segment_sender w room (Some s) c b waits = cond_both (is_alive (length w.receiver.got) s.place) _ _ (λ (v : World). Waits v c b) (λ yes. same_sender w _ w.acks c b waits) (λ no. waits)

pub answer_sender : (w : World) (c : Sending) (b : List ℕ) → Waits w c b → Waits (happens w Answer) c b
answer_sender w c b waits = cond_both w.receiver.is_open _ _ (λ (v : World). Waits v c b) (λ yes. same_sender w w.receiver _ c b waits) (λ no. waits)

-- what the receiver does with a segment leaves the sender, and takes no less
record Takes (w v : World) : Type 0 where
  sender : (c : Sending) (b : List ℕ) → Waits w c b → Waits v c b
  is_open : v.receiver.is_open ≡ true
  more : length w.receiver.got ≤ length v.receiver.got

takes_none : (w : World) → w.receiver.is_open ≡ true → Takes w w
takes_none w is_open = record { sender = λ c b waits. waits; is_open = is_open; more = omega arith }

comes_takes : (w : World) (room : ℕ) (o : Option Segment) → w.receiver.is_open ≡ true → Takes w (segment_comes w room o)
comes_takes w room None is_open = takes_none w is_open
comes_takes w room (Some s) is_open =
    cond_both (is_alive (length w.receiver.got) s.place) _ _ (Takes w) (λ yes. subst (λ (r : Receiver). Takes w (record w { receiver = r })) (sym (cond-true w.receiver.is_open (accepted w.receiver.next w.receiver.got new) _ is_open)) taken) (λ no. takes_none w is_open)
  where
    new : List Item
    new = fresh w.receiver.next s.number s.items room

    taken : Takes w (record w { receiver = accepted w.receiver.next w.receiver.got new })
    taken = record { sender = λ c b. same_sender w _ w.acks c b; is_open = refl; more = omega (arith, length-append w.receiver.got new) }

again_takes : (segments : List ℕ) (w : World) → w.receiver.is_open ≡ true → Takes w (run (again segments) w)
again_takes [] w is_open = takes_none w is_open
again_takes (which ∷ more) w is_open =
    let one = comes_takes w 1 (slice_get w.segments which) is_open in
    let rest = again_takes more (happens w (Segment_comes which 1)) one.is_open in
    record { sender = λ c b waits. rest.sender c b (one.sender c b waits); is_open = rest.is_open; more = omega (arith, one.more, rest.more) }

again_first : (segments : List ℕ) (w : World) (events : List Event) → run (again segments ++ events) w ≡ run events (run (again segments) w)
again_first [] w events = refl
again_first (which ∷ more) w events = again_first more (happens w (Segment_comes which 1)) events

send_acked : (w : World) (offset count : ℕ) → (happens w (Send offset count)).acked ≡ w.acked
send_acked w offset count =
    let items = take count (drop (w.acked + offset) (stream w.written w.closed)) in
    cond_both (nat_lt (length (stream w.written w.closed)) (w.acked + offset)) _ _ (λ (v : World). v.acked ≡ w.acked) (λ past. refl)
    (λ within. cond_both (nat_lt (w.acked + 2147483648) (w.acked + offset + length items)) _ _ (λ (v : World). v.acked ≡ w.acked) (λ far. refl) (λ near. refl))

pub true_test : (a b : ℕ) → a < b → nat_lt a b ≡ true
true_test a b lt = grind (arith, nat_tests)

-- a receiver with a FIN has all
all_got : (w : World) → Good w → is_ended w.receiver.got ≡ true → length (stream w.written w.closed) ≤ length w.receiver.got
all_got w good ended = end_all w.written w.closed (length w.receiver.got) (subst (λ (l : List Item). is_ended l ≡ true) (part_first (stream w.written w.closed) w.receiver.got good.got) ended)

pub answer_acked : (w : World) → (happens w Answer).acked ≡ w.acked
answer_acked w = cond_both w.receiver.is_open _ _ (λ (v : World). v.acked ≡ w.acked) (λ yes. refl) (λ no. refl)

finish : (w : World) (consumed : List ℕ) (s : Sending) (o : List ℕ) (r : Receiving) (i : List ℕ) (events : List Event) (v : World) → v ≡ run events w → Waits v s o → Stands v consumed r i → w.acked < v.acked → GoesOn w consumed s o r i
finish w consumed s o r i events v is waits stands more = record {
  events = events;
  waits = subst (λ (u : World). Waits u s o) is waits;
  stands = subst (λ (u : World). Stands u consumed r i) is stands;
  more = subst (λ (u : World). w.acked < u.acked) is more;
}

-- the round of the code is one of the model
pub round_goes : (initial : ℕ) (events : List Event) (consumed o i0 i1 : List ℕ) (s0 s1 s2 : Sending) (r0 r1 : Receiving) (number next room : ℕ) (items : List Item)
    → Waits (run events (start initial)) s0 o → Stands (run events (start initial)) consumed r0 i0 → s0.start < length o → s0.len ≤ length o → length o < 1073741824
    → r0.is_open ≡ true → (0 < room) ⊎ (r0.has_fin ≡ true) → (run events (start initial)).acked < length (stream (run events (start initial)).written (run events (start initial)).closed)
    → 0 < length items → length items ≤ 2147483648
    → IsSend (run events (start initial)) 0 number items → Waits (happens (run events (start initial)) (Send 0 (length items))) s1 o
    → ((v : World) → SegmentComes v 0 number items → Stands v consumed r0 i0 → Uses (happens v (Segment_comes 0 room)) consumed r1 i1)
    → ((v : World) → Stands v consumed r1 i1 → IsAnswer v next)
    → ((v : World) → AckComes v 0 next → Waits v s1 o → Waits (happens v (Ack_comes 0)) s2 o)
    → GoesOn (run events (start initial)) consumed s2 o r1 i1
round_goes initial events consumed o i0 i1 s0 s1 s2 r0 r1 number next room items waits0 stands0 start0 len0 small is_open space less some few legal waits1 takes says acks =
    let w : World = run events (start initial) in
    let good : Good w = run_good events (start initial) (good_start initial) in
    let n = length items in
    let w1 : World = happens w (Send 0 n) in
    let came : World = happens w1 (Segment_comes 0 room) in
    let left : length (stream w.written w.closed) - w.acked ≡ length (pending s0 o) = sym (length-drop w.acked (stream w.written w.closed)) ∙ ap length waits0.held in
    let near : length w1.receiver.got < w.acked + 0 + 2147483648 = omega (arith, ap (λ (r : Receiver). length r.got) (send_still w 0 n), good.behind, waits0.within, waits0.flight, left, short_pending s0 o start0 len0) in
    let segment : Segment = record { place = w.acked + 0; number = number; items = items } in
    let it : SegmentComes w1 0 number items = record {
      segment = segment;
      there = ap (λ (l : List Segment). slice_get l 0) legal.last;
      same = refl;
      brings = refl;
      alive = true_test _ _ near;
    } in
    let used : Uses came consumed r1 i1 = takes w1 it (stands_still w (Send 0 n) consumed r0 i0 (send_still w 0 n) stands0) in
    let w2 : World = run (again used.segments) came in
    let w3 : World = happens w2 Answer in
    let ahead : (0 < room) ⊎ (w.acked < length w.receiver.got) = elim space [
      | inl wide ↦ inl wide
      | inr fin ↦ inr (let all = all_got w good (stands0.holds.ended ∙ fin) in omega arith)
    ] in
    let brings : Came w came = brought w n room good (stands0.holds.is_open ∙ is_open) less some few ahead in
    let good2 : Good w2 = run_good (again used.segments) came brings.good in
    let taken : Takes came w2 = again_takes used.segments came brings.is_open in
    let waits2 : Waits w2 s1 o = taken.sender s1 o (segment_sender w1 room (slice_get w1.segments 0) s1 o waits1) in
    let said : IsAnswer w2 next = says w2 used.stands in
    let ack : Ack = record { place = length w2.receiver.got; number = next } in
    let young : w3.acked < length w2.receiver.got + 2147483648 = omega (arith, answer_acked w2, good2.counted) in
    let answer : AckComes w3 0 next = record {
      ack = ack;
      there = ap (λ (l : List Ack). slice_get l 0) said.last;
      same = refl;
      alive = true_test _ _ young;
    } in
    let stands3 : Stands w3 consumed r1 i1 = stands_still w2 Answer consumed r1 i1 (answer_still w2) used.stands in
    let stands4 : Stands (happens w3 (Ack_comes 0)) consumed r1 i1 = stands_still w3 (Ack_comes 0) consumed r1 i1 (ack_still w3 (slice_get w3.acks 0)) stands3 in
    let all : (happens w3 (Ack_comes 0)).acked ≡ length w2.receiver.got = answered w2 good2 taken.is_open in
    finish w consumed s2 o r1 i1 (Send 0 n ∷ Segment_comes 0 room ∷ (again used.segments ++ (Answer ∷ Ack_comes 0 ∷ []))) (happens w3 (Ack_comes 0)) (sym (again_first used.segments came (Answer ∷ Ack_comes 0 ∷ [])))
    (acks w3 answer (answer_sender w2 s1 o waits2)) stands4 (omega (arith, all, brings.more, taken.more))

pub pending_some : (w : World) (c : Sending) (b : List ℕ) → Waits w c b → w.acked < length (stream w.written w.closed) → 0 < length (pending c b)
pending_some w c b waits less = omega (arith, length-drop w.acked (stream w.written w.closed), ap length waits.held)

pub items_few : (payload : List ℕ) (fin : Bool) → length payload < 1073741824 → length (items_of false payload fin) ≤ 2147483648
items_few payload fin small = omega (arith, length-append (map Byte payload) (end_of fin), length-map payload Byte, short_end fin)

pub by_fin : (fin : Bool) (room : ℕ) → (fin ≡ false → 0 < room) → (0 < room) ⊎ (fin ≡ true)
by_fin true room wide = inr refl
by_fin false room wide = inl (wide refl)
