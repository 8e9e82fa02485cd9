-- What the segment at SND.UNA makes of the other end.
use Rattle.std.proofs.Common.{◌≡◌, ◌⊎◌, inl, inr, refl, sym, ◌∙◌, ap, subst, ℕ, ◌+◌, ◌-◌, ◌%◌, ◌≤◌, ◌<◌, List, [], ◌∷◌, Bool, true, false, length, take, drop, arith, length-append, length-take, length-drop, Bor}
use Rattle.std.specs.Prelude.{Option, is_some, ◌==◌, ◌||◌}
use Rattle.std.proofs.lemmas.Bool.{cases_lt, cond-true, cond-false}
use Rattle.std.proofs.lemmas.Bool.Decides.{nat_tests}
use Rattle.tcp_stream.specs.Endpoint.{Item, Receiver, accepted, distance, fresh, is_earlier, received}
use Rattle.tcp_stream.specs.Network.{World, Event, Segment_comes, happens, is_ended, number_at, run, stream}
use Rattle.tcp_stream.proofs.Kept.{Good, fresh_from}
use Rattle.tcp_stream.proofs.Numbers.{number_more}
use Rattle.tcp_stream.proofs.Parts.{part_first}
use Rattle.tcp_stream.proofs.Streams.{end_all}
use Rattle.tcp_stream.proofs.GoesOn.{true_test}
use Rattle.tcp_stream.proofs.Standing.{comes, reached_good}
use Rattle.tcp_stream.specs.Stands.{SegmentComes, Stands, again, room_of}
use Rattle.tcp_stream.specs.Waits.{Waits, count_of}
use Rattle.tcp_stream.specs.declared.receiving.Receiving.{Receiving}
use Rattle.tcp_stream.specs.declared.sending.Sending.{Sending}
use Rattle.app_connection.specs.declared.connection.Connection.{Connection}
use Rattle.app_connection.specs.declared.segment.Segment.{Segment}
use Rattle.app_connection.specs.declared.state.Phase.TheVariants as phase
use Rattle.app_connection.specs.declared.step.Event.TheVariants as event
use Rattle.app_connection.specs.Endpoints.{OutFits, is_of_unsent, len_of, next_of}
use Rattle.app_connection.specs.Promises.{GetsTextOf}
use Rattle.app_connection.specs.Runs.{End, IsFrom}
use Rattle.app_connection.specs.Sequence.{is_taken_at}
use Rattle.app_connection.specs.Steps.{Steps}
use Rattle.app_connection.specs.Worlds.{Goes, OfReceiver, Said, Stand, said}
use Rattle.app_connection.proofs.Arrived.{all_acked}
use Rattle.app_connection.proofs.Going.{brought, comings, text_of}
use Rattle.app_connection.proofs.Moving.{by_receiver, waits_kept, written_still}
use Rattle.app_connection.proofs.Pair.{Pair}
use Rattle.app_connection.proofs.Resegments.{Coming, coming}
use Rattle.app_socket.proofs.ManyRounds.{counted}
use Rattle.app_socket.proofs.Rounds.{items_len, not_after}
use Rattle.app_socket.proofs.StaysOpen.{open_run}
use Rattle.app_socket.specs.Answered.{AtUna, IsSet}
use Rattle.app_socket.proofs.Growing.{Later, far, got_run, later_run}

-- the other end after it
pub record Arrived (a b : End) (new : Connection) : Type 0 where
  pub some : 0 < distance new.receiving.next a.connection.sending.una
  pub few : distance new.receiving.next a.connection.sending.una ≤ a.connection.sending.flight
  pub synced : new.receiving.is_open ≡ true
  pub closed : new.sending.is_closed ≡ b.connection.sending.is_closed
  pub idle : count_of b.connection.sending ≡ 0 → count_of new.sending ≡ 0

pub not_none : (n : ℕ) → 0 < n → (n == 0) ≡ false
not_none n some = grind (arith, nat_tests)

pub or_left : (b d : Bool) → b ≡ true → (b || d) ≡ true
or_left true d is = refl
or_left false d is = absurd (cc)

-- a segment at RCV.NXT is acceptable
at_next : (next window len : ℕ) → 0 < len → 0 < window → is_taken_at next window next len ≡ true
at_next next window len some room =
    cond-false (len == 0) _ _ (not_none len some)
    ∙ cond-false (len == 0) _ _ (not_none len some)
    ∙ cond-false (window == 0) _ _ (not_none window room)
    ∙ or_left _ _ (true_test (distance next next) window (omega arith))

some_items : (s : Segment) → 0 < len_of s → (said s).items ≡ [] → ⊥
some_items s some none = omega (arith, some, items_len s.syn s.fin s.payload.now, ap length none)

-- the text of a segment with items
text_comes : (v : World) (s : Segment) → 0 < len_of s → ((said s).items ≡ []) ⊎ ((which : ℕ) × SegmentComes v which s.number (said s).items) → (which : ℕ) × SegmentComes v which s.number (said s).items
text_comes v s some (inl none) = absurd (some_items s some none)
text_comes v s some (inr there) = there

-- there is room, unless all has come
room_there : (v : World) (s : Sending) (outgoing consumed : List ℕ) (r : Receiving) (incoming : List ℕ) → OutFits s (length outgoing) → Waits v s outgoing → Stands v consumed r incoming → 0 < count_of s → length v.receiver.got ≡ v.acked → r.len < length incoming
    → 0 < room_of r (length incoming)
room_there v s outgoing consumed r incoming fits waits stands some level space =
    let good = reached_good v stands.reached in
    elim (either r.has_fin) [
      | inl fin ↦
          let is : v.receiver.got ≡ take (length v.receiver.got) (stream v.written v.closed) = part_first (stream v.written v.closed) v.receiver.got good.got in
          let long = end_all v.written v.closed (length v.receiver.got) (subst (λ (l : List Item). is_ended l ≡ true) is (stands.holds.ended ∙ fin)) in
          absurd (omega (arith, long, level, some, counted v s outgoing fits waits))
      | inr more ↦ subst (λ (n : ℕ). 0 < n) (sym (cond-false r.has_fin 0 (length incoming - r.len) more)) (omega arith)
    ]
  where
    either : (b : Bool) → (b ≡ true) ⊎ (b ≡ false)
    either true = inl refl
    either false = inr refl

-- what is at RCV.NXT is taken
got_more : (v : World) (which room number : ℕ) (items : List Item) → Good v → v.receiver.is_open ≡ true → SegmentComes v which number items → number ≡ v.receiver.next → 0 < length items → 0 < room
    → length v.receiver.got < length (happens v (Segment_comes which room)).receiver.got
got_more v which room number items good opened comes_it is some space =
    let r = v.receiver in
    let taken : received r number items room ≡ accepted r.next r.got (fresh r.next number items room) = cond-true r.is_open _ _ opened in
    let all : fresh r.next number items room ≡ take room (drop 0 items) = fresh_from r.next number items room 0 (ap (λ (n : ℕ). distance r.next n) is ∙ (let e : distance r.next r.next ≡ 0 = omega arith in e)) (omega arith) in
    let long : 0 < length (fresh r.next number items room) = subst (λ (l : List Item). 0 < length l) (sym all) (omega (arith, length-take room (drop 0 items), length-drop 0 items)) in
    subst (λ (w : World). length r.got < length w.receiver.got) (sym (comes v which number room items comes_it))
    (subst (λ (x : Receiver). length r.got < length x.got) (sym taken) (omega (arith, long, length-append r.got (fresh r.next number items room))))

pub comes_further : (a b : End) (p : Pair b a) (s : Bor Segment) (iss : ℕ) (new : Connection) (incoming : List ℕ) (o : Option Said) → IsSet a → IsSet b → IsFrom a.sent (length a.wrote) (length b.wrote) (said s.now) → AtUna a s.now → 0 < count_of a.connection.sending
    → b.connection.receiving.len < length b.incoming → OutFits new.sending (length b.outgoing) → Steps b.connection new b.outgoing b.incoming incoming (event.Arrives s iss) o
    → GetsTextOf b.connection (room_of b.connection.receiving (length b.incoming)) s.now new.receiving b.incoming incoming → Arrived a b new
comes_further a b p s iss new incoming o here there may at some space fits steps gets = record {
  some = more.0;
  few = more.1;
  synced = sym goes.went.stand.stands.holds.is_open ∙ open_run goes.went.texts v goes.went.of_receiver (stands.holds.is_open ∙ there.synced);
  closed = goes.went.stand.waits.closed ∙ later.closed ∙ sym own.closed;
  idle = λ none.
      let all : u.acked ≡ length (stream u.written u.closed) = all_acked u b.connection.sending b.outgoing own none in
      let same : stream after.written after.closed ≡ stream u.written u.closed = ap (λ (l : List ℕ). stream l after.closed) (written_still goes.went.acks u goes.went.of_sender) ∙ ap (stream u.written) later.closed in
      omega (arith, all, later.acked, ap length same, counted after new.sending b.outgoing fits goes.went.stand.waits);
}
  where
    it : Coming b a (said s.now)
    it = coming b a p (said s.now) may

    u : World
    u = it.pair.there

    v : World
    v = it.pair.back

    waits : Waits v a.connection.sending a.outgoing
    waits = it.pair.reads.waits here.opened

    own : Waits u b.connection.sending b.outgoing
    own = it.pair.writes.waits there.opened

    stands : Stands v b.read b.connection.receiving b.incoming
    stands = it.pair.reads.carries.stands

    stand : Stand u v b.read b.connection b.outgoing b.incoming
    stand = record {
      waits = own;
      stands = stands;
      sent = λ is. absurd (let c : phase.Open ≡ phase.SynSent = sym there.open_phase ∙ is in cc);
      received = λ is. absurd (let c : phase.Open ≡ phase.SynReceived = sym there.open_phase ∙ is in cc);
    }

    goes : Goes u v b.read new b.outgoing incoming o
    goes = steps.goes there.has u v b.read it.comes stand

    after : World
    after = run goes.went.acks u

    later : Later u after
    later = later_run goes.went.acks u goes.went.of_sender

    before : (v.acked + distance b.connection.receiving.next a.connection.sending.una ≡ length v.receiver.got) × (length v.receiver.got ≤ v.acked + a.connection.sending.flight)
    before = far v a.connection.sending a.outgoing b.read b.connection.receiving b.incoming waits stands there.synced

    -- it acknowledges nothing that was not sent
    unsent : is_of_unsent b.connection s.now.ack ≡ false
    unsent =
        let good = reached_good u it.pair.writes.carries.reached in
        let back = it.pair.writes.carries.stands in
        let number : a.connection.receiving.next ≡ number_at u.initial (length u.receiver.got) = back.holds.next here.synced ∙ good.knows.0 (back.holds.is_open ∙ here.synced) in
        let last : next_of b.connection ≡ number_at u.initial u.sent =
        ap (λ (n : ℕ). (n + b.connection.sending.flight) % 4294967296) own.una
        ∙ number_more u.initial u.acked b.connection.sending.flight
        ∙ ap (λ (n : ℕ). number_at u.initial n) (let e : u.acked + b.connection.sending.flight ≡ u.sent = omega (arith, own.flight) in e)
        in
        ap (λ (o : Option ℕ). is_of_unsent b.connection o) at.ack
        ∙ ap (λ (n : ℕ). is_earlier n a.connection.receiving.next) last
        ∙ ap (λ (n : ℕ). is_earlier (number_at u.initial u.sent) n) number
        ∙ not_after u.initial (length u.receiver.got) u.sent good.behind (omega (arith, good.flight, good.counted))

    -- in a history after events of the receiver
    moved : (es : List Event) → OfReceiver es → Stands (run es v) b.read new.receiving incoming → v.acked < length (run es v).receiver.got → (0 < distance new.receiving.next a.connection.sending.una) × (distance new.receiving.next a.connection.sending.una ≤ a.connection.sending.flight)
    moved es own_events new_stands further =
        let by = by_receiver es v own_events in
        let still : (run es v).acked ≡ v.acked = ap (λ (w : World). w.acked) by.same in
        let synced : new.receiving.is_open ≡ true = sym new_stands.holds.is_open ∙ open_run es v own_events (stands.holds.is_open ∙ there.synced) in
        let new_far = far (run es v) a.connection.sending a.outgoing b.read new.receiving incoming (waits_kept v (run es v) a.connection.sending a.outgoing by waits) new_stands synced in
        (omega (arith, new_far.0, still, further), omega (arith, new_far.0, new_far.1, still))

    ahead : 0 < distance b.connection.receiving.next a.connection.sending.una → (0 < distance new.receiving.next a.connection.sending.una) × (distance new.receiving.next a.connection.sending.una ≤ a.connection.sending.flight)
    ahead more_before = moved goes.went.texts goes.went.of_receiver goes.went.stand.stands (omega (arith, got_run goes.went.texts v goes.went.of_receiver, before.0, more_before))

    level : distance b.connection.receiving.next a.connection.sending.una ≤ 0 → (0 < distance new.receiving.next a.connection.sending.una) × (distance new.receiving.next a.connection.sending.una ≤ a.connection.sending.flight)
    level none =
        let good = reached_good v stands.reached in
        let same : length v.receiver.got ≡ v.acked = omega (arith, before.0, none) in
        let opened : v.receiver.is_open ≡ true = stands.holds.is_open ∙ there.synced in
        let place : v.receiver.next ≡ a.connection.sending.una = good.knows.0 opened ∙ ap (λ (n : ℕ). number_at v.initial n) same ∙ sym waits.una in
        let next : s.now.number ≡ v.receiver.next = at.number ∙ sym place in
        let next_there : s.now.number ≡ b.connection.receiving.next = next ∙ sym (stands.holds.next there.synced) in
        let room = room_of b.connection.receiving (length b.incoming) in
        let free : 0 < room = room_there v a.connection.sending a.outgoing b.read b.connection.receiving b.incoming it.pair.there_sound.out waits stands some same space in
        let text = text_comes v s.now at.some (brought u v s.now at.rst it.comes).text in
        let plain = text_of v text.0 s.now.number s.now.syn s.now.payload.now s.now.fin at.syn text.1 in
        let taken : is_taken_at b.connection.receiving.next room s.now.number (len_of s.now) ≡ true =
        subst (λ (n : ℕ). is_taken_at b.connection.receiving.next room n (len_of s.now) ≡ true) (sym next_there) (at_next b.connection.receiving.next room (len_of s.now) at.some free)
        in
        let uses = (gets at.rst at.syn at.some taken (ap is_some at.ack) unsent).uses v text.0 b.read plain stands in
        let one = got_more v text.0 room s.now.number (said s.now).items good opened text.1 next (omega (arith, at.some, items_len s.now.syn s.now.fin s.now.payload.now)) free in
        let two = got_run (again uses.segments) (happens v (Segment_comes text.0 room)) (comings uses.segments) in
        moved (Segment_comes text.0 room ∷ again uses.segments) (comings uses.segments) uses.stands (omega (arith, one, two, same))

    more : (0 < distance new.receiving.next a.connection.sending.una) × (distance new.receiving.next a.connection.sending.una ≤ a.connection.sending.flight)
    more = elim (cases_lt 0 (distance b.connection.receiving.next a.connection.sending.una)) [ inl some_ahead ↦ ahead some_ahead | inr none ↦ level none ]
