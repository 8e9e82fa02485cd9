-- Every run of two connections delivers: what each application read begins what the other one wrote.
use Rattle.std.proofs.Common.{◌≡◌, ◌⊎◌, inl, inr, refl, sym, ◌∙◌, ap, subst, ℕ, ◌+◌, ◌≤◌, List, [], ◌∷◌, ◌++◌, Bool, true, false, length, arith}
use Rattle.std.specs.Prelude.{◌||◌, Option, Some, None, IfSome, slice_get}
use Rattle.std.proofs.lemmas.Bool.{cond_both, false≢true}
use Rattle.std.proofs.lemmas.List.{append-nil}
use Rattle.tcp_stream.specs.Endpoint.{Item, Receiver, Syn}
use Rattle.tcp_stream.specs.Network.{World, Ack, Answer, Close, Send, Write, IsPrefixOf, bytes_of, happens, run, start}
use Rattle.tcp_stream.proofs.Standing.{end_delivers, held_delivers, reached_good, stands_still}
use Rattle.tcp_stream.specs.Items.{items_of}
use Rattle.tcp_stream.specs.Stands.{IsAnswer, SegmentComes, Stands}
use Rattle.tcp_stream.specs.Waits.{Waits}
use Rattle.tcp_stream.specs.declared.receiving.Receiving.{Receiving}
use Rattle.tcp_stream.specs.declared.sending.Sending.{Sending}
use Rattle.app_connection.specs.declared.connection.Connection.{Connection}
use Rattle.app_connection.specs.declared.segment.Segment.{Segment as Packet}
use Rattle.app_connection.specs.declared.step.Event.{Event}
use Rattle.app_connection.specs.declared.step.Event.TheVariants as event
use Rattle.app_connection.specs.Endpoints.{OutFits}
use Rattle.app_connection.specs.Events.{ComesBy, called}
use Rattle.app_connection.specs.Sequence.{after}
use Rattle.app_connection.specs.States.{has_peer, may_close, state_from}
use Rattle.app_connection.specs.Steps.{IsFresh, Opens, Reads, Rests, Steps, Writes, first}
use Rattle.app_connection.specs.Runs.{BothRead, Calls, End, Ends, IsNew, MayCome, OpensOnce, Read, Runs, Sent, begins, here, reads, stepped, steps, there, with_returned, writes}
use Rattle.app_connection.specs.Worlds.{Goes, GoesOut, IsOut, Said, Stand, said}
use Rattle.app_connection.proofs.Going.{brought, fresh_stands, shut_phase}
use Rattle.app_connection.proofs.Moving.{ByReceiver, answer_by, by_receiver, by_sender, closed_by, receiver_idle, receiver_none, receiver_then, stands_kept, waits_kept, written_still, wrote_by}
use Rattle.app_connection.proofs.Pair.{AckIn, Carries, Direction, Each, IsKeptAck, IsSound, Pair, TextIn, acks_grow, carries_on, each_weaker, grows_as, out_kept, texts_grow, turned, wrote_near}
use Rattle.app_connection.proofs.Resegments.{coming}
use Rattle.app_connection.proofs.Stepping.{received_peer, sent_peer, shut_peerless}

either : (b : Bool) → (b ≡ true) ⊎ (b ≡ false)
either true = inl refl
either false = inr refl

-- ---- an end that went on

-- what was sent before, and what this step returned
with_each : (P : Sent → Type 0) (o : Option Said) (wrote peer_wrote : ℕ) (ts : List Sent) → IfSome o (λ s. P (record { said = s; wrote = wrote; peer_wrote = peer_wrote })) → Each P ts → Each P (with_returned o wrote peer_wrote ts)
with_each P None wrote peer_wrote ts new each = each
with_each P (Some s) wrote peer_wrote ts new each = (new, each)

-- each end wrote no more than a ring before SND.UNA
direction_near : (w : World) (a b : End) → Direction w a b → IsSound a → length a.wrote + 1 ≤ w.acked + 1073741824
direction_near w a b d sound = elim (either a.was_opened) [
  | inl opened ↦ let near = wrote_near w a.connection.sending a.outgoing sound.out (d.waits opened) in omega (arith, near, ap length d.carries.written)
  | inr shut ↦ let none : length a.wrote ≡ 0 = sym (ap length d.carries.written) ∙ ap (λ (x : World). length x.written) (d.idle shut) in omega arith
]

-- the text of a segment that goes out
new_text : (w v : World) (s : Said) (wrote peer_wrote : ℕ) → wrote + 1 ≤ w.acked + 1073741824 → GoesOut w v s → TextIn w (record { said = s; wrote = wrote; peer_wrote = peer_wrote })
new_text w v s wrote peer_wrote near (inl rst) = inl rst
new_text w v s wrote peer_wrote near (inr takes) = elim takes.text [
  | inl none ↦ inr (inl none)
  | inr out ↦ inr (inr (record { which = out.which; segment = out.segment; there = out.there; same = out.same; brings = out.brings; recent = omega (arith, out.recent) }))
]

answered : (v : World) (o : Option ℕ) (peer_wrote : ℕ) → peer_wrote + 1 ≤ length v.receiver.got + 1073741824 → IfSome o (λ number. IsAnswer v number) → IfSome o (λ number. IsKeptAck (happens v Answer) peer_wrote number)
answered v None peer_wrote near is = tt
answered v (Some number) peer_wrote near is = record { which = 0; ack = record { place = length v.receiver.got; number = number }; there = ap (λ (l : List Ack). slice_get l 0) is.last; same = refl; recent = near }

-- its acknowledgement
new_ack : (w v : World) (s : Said) (wrote peer_wrote : ℕ) → peer_wrote + 1 ≤ length v.receiver.got + 1073741824 → GoesOut w v s → AckIn (happens v Answer) (record { said = s; wrote = wrote; peer_wrote = peer_wrote })
new_ack w v s wrote peer_wrote near (inl rst) = inl rst
new_ack w v s wrote peer_wrote near (inr takes) = inr (answered v s.ack peer_wrote near takes.ack)

if_said : (P Q : Said → Type 0) (o : Option Said) → ((s : Said) → P s → Q s) → IfSome o P → IfSome o Q
if_said P Q None f h = tt
if_said P Q (Some s) f h = f s h

answer_stands : (v : World) (consumed : List ℕ) (r : Receiving) (incoming : List ℕ) → Stands v consumed r incoming → Stands (happens v Answer) consumed r incoming
answer_stands v consumed r incoming stands =
    stands_still v Answer consumed r incoming (cond_both v.receiver.is_open _ _ (λ (x : World). x.receiver ≡ v.receiver) (λ is. refl) (λ not. refl)) stands

-- what the peer's own half sees of a history after events of its receiver
direction_kept : (v u : World) (a c b : End) → ByReceiver v u → Carries u b c → (b.was_opened ≡ false → u ≡ start 0) → Direction v b a → Direction u b c
direction_kept v u a c b by carries idle d = record {
  carries = carries;
  waits = λ opened. waits_kept v u b.connection.sending b.outgoing by (d.waits opened);
  sent = λ opened is. out_kept v u b.connection.iss (Syn ∷ []) by (d.sent opened is);
  received = λ opened is. out_kept v u b.connection.iss (Syn ∷ []) by (d.received opened is);
  idle = idle;
}

-- Both ends after a step of one that has a peer by then.
went_pair : (a b : End) (w v : World) (new : Connection) (incoming : List ℕ) (result : Option Said) → (a.was_opened || has_peer (state_from new)) ≡ true → Carries w a b → Direction v b a → IsSound b
    → OutFits new.sending (length a.outgoing) → Goes w v a.read new a.outgoing incoming result → Pair (stepped a b new incoming result) b
went_pair a b w v new incoming result opened carries peer sound out goes =
    let acks = goes.went.acks in
    let texts = goes.went.texts in
    let stand = goes.went.stand in
    let next = stepped a b new incoming result in
    let ahead = run acks w in
    let taken = run texts v in
    let behind = happens taken Answer in
    let by_w = by_sender acks w goes.went.of_sender in
    let by_v = receiver_then v taken behind (by_receiver texts v goes.went.of_receiver) (answer_by taken) in
    let on = carries_on w ahead a b by_w (written_still acks w goes.went.of_sender) carries in
    let near : length a.wrote + 1 ≤ ahead.acked + 1073741824 = let h = wrote_near ahead new.sending a.outgoing out stand.waits in omega (arith, h, ap length on.written) in
    let peer_near : length b.wrote + 1 ≤ length taken.receiver.got + 1073741824 =
    let h = direction_near v b a peer sound in
    let same : taken.acked ≡ v.acked = ap (λ (x : World). x.acked) (by_receiver texts v goes.went.of_receiver).same in
    let counted = (reached_good taken ((by_receiver texts v goes.went.of_receiver).reached peer.carries.reached)).counted in
    omega (arith, h, same, counted)
    in
    let shut : next.was_opened ≡ false → ⊥ = λ no. false≢true (sym no ∙ opened) in
    let idle : b.was_opened ≡ false → behind ≡ start 0 = λ no. ap (λ (x : World). happens (run texts x) Answer) (peer.idle no) ∙ ap (λ (x : World). happens x Answer) (receiver_idle texts 0 goes.went.of_receiver) in
    record {
      there = ahead;
      back = behind;
      writes = record {
        carries = record {
          reached = on.reached;
          written = on.written;
          stands = on.stands;
          fresh = on.fresh;
          texts = with_each (TextIn ahead) result (length a.wrote) (length b.wrote) a.sent
              (if_said (GoesOut ahead taken) (λ s. TextIn ahead (record { said = s; wrote = length a.wrote; peer_wrote = length b.wrote })) result (λ s. new_text ahead taken s (length a.wrote) (length b.wrote) near) goes.out)
              on.texts;
          acks = on.acks;
        };
        waits = λ is. stand.waits;
        sent = λ is at. (stand.sent at).0;
        received = λ is at. (stand.received at).0;
        idle = λ no. absurd (shut no);
      };
      reads = direction_kept v behind a next b by_v
          (record {
            reached = by_v.reached peer.carries.reached;
            written = ap (λ (x : World). x.written) by_v.same ∙ peer.carries.written;
            stands = answer_stands taken a.read new.receiving incoming stand.stands;
            fresh = λ no. absurd (shut no);
            texts = texts_grow v behind b.sent (grows_as v.segments behind.segments (ap (λ (x : World). x.segments) by_v.same)) peer.carries.texts;
            acks = with_each (AckIn behind) result (length a.wrote) (length b.wrote) a.sent
                (if_said (GoesOut ahead taken) (λ s. AckIn behind (record { said = s; wrote = length a.wrote; peer_wrote = length b.wrote })) result (λ s. new_ack ahead taken s (length a.wrote) (length b.wrote) peer_near) goes.out)
                (acks_grow v behind a.sent by_v.acks peer.carries.acks);
          })
          idle peer;
      here_sound = record {
        out = out;
        peerless = λ no. absurd (shut no);
        sent = λ at. (stand.sent at).1;
        received = λ at. ((stand.received at).1, (stand.received at).2);
      };
      there_sound = sound;
    }

-- ---- a step without a peer

shut_or : (a b : Bool) → b ≡ false → (a || b) ≡ a
shut_or true b is = refl
shut_or false b is = is

-- a RST is in no history
reset_text : (w : World) (o : Option Said) (wrote peer_wrote : ℕ) (ts : List Sent) → IfSome o (λ s. s.rst ≡ true) → Each (TextIn w) ts → Each (TextIn w) (with_returned o wrote peer_wrote ts)
reset_text w o wrote peer_wrote ts reset each = with_each (TextIn w) o wrote peer_wrote ts (if_said (λ s. s.rst ≡ true) (λ s. TextIn w (record { said = s; wrote = wrote; peer_wrote = peer_wrote })) o (λ s rst. inl rst) reset) each

reset_ack : (w : World) (o : Option Said) (wrote peer_wrote : ℕ) (ts : List Sent) → IfSome o (λ s. s.rst ≡ true) → Each (AckIn w) ts → Each (AckIn w) (with_returned o wrote peer_wrote ts)
reset_ack w o wrote peer_wrote ts reset each = with_each (AckIn w) o wrote peer_wrote ts (if_said (λ s. s.rst ≡ true) (λ s. AckIn w (record { said = s; wrote = wrote; peer_wrote = peer_wrote })) o (λ s rst. inl rst) reset) each

pub rests_pair : (a b : End) (new : Connection) (incoming : List ℕ) (result : Option Said) → has_peer (state_from new) ≡ false → Rests a.connection new a.incoming incoming result → OutFits new.sending (length a.outgoing) → Pair a b → Pair (stepped a b new incoming result) b
rests_pair a b new incoming result none rests out p =
    let was : (a.was_opened || has_peer (state_from new)) ≡ a.was_opened = shut_or a.was_opened (has_peer (state_from new)) none in
    let c = p.writes.carries in
    let d = p.reads.carries in
    record {
      there = p.there;
      back = p.back;
      writes = record {
        carries = record { reached = c.reached; written = c.written; stands = c.stands; fresh = c.fresh; texts = reset_text p.there result (length a.wrote) (length b.wrote) a.sent rests.reset c.texts; acks = c.acks };
        waits = λ opened. subst (λ (s : Sending). Waits p.there s a.outgoing) (sym rests.sending) (p.writes.waits (sym was ∙ opened));
        sent = λ opened at. absurd (false≢true (sym none ∙ sent_peer new at));
        received = λ opened at. absurd (false≢true (sym none ∙ received_peer new at));
        idle = λ no. p.writes.idle (sym was ∙ no);
      };
      reads = record {
        carries = record {
          reached = d.reached;
          written = d.written;
          stands = subst (λ (l : List ℕ). Stands p.back a.read new.receiving l) (sym rests.incoming) (subst (λ (r : Receiving). Stands p.back a.read r a.incoming) (sym rests.receiving) d.stands);
          fresh = λ no. d.fresh (sym was ∙ no);
          texts = d.texts;
          acks = reset_ack p.back result (length a.wrote) (length b.wrote) a.sent rests.reset d.acks;
        };
        waits = p.reads.waits;
        sent = p.reads.sent;
        received = p.reads.received;
        idle = p.reads.idle;
      };
      here_sound = record {
        out = out;
        peerless = λ no. none;
        sent = λ at. absurd (false≢true (sym none ∙ sent_peer new at));
        received = λ at. absurd (false≢true (sym none ∙ received_peer new at));
      };
      there_sound = p.there_sound;
    }

-- ---- a step with a peer

opened_of : (a : End) → IsSound a → has_peer (state_from a.connection) ≡ true → a.was_opened ≡ true
opened_of a sound has = elim (either a.was_opened) [ inl is ↦ is | inr shut ↦ absurd (false≢true (sym (sound.peerless shut) ∙ has)) ]

or_left : (a b : Bool) → a ≡ true → (a || b) ≡ true
or_left true b is = refl
or_left false b is = absurd (cc)

or_right : (a b : Bool) → b ≡ true → (a || b) ≡ true
or_right true b is = refl
or_right false b is = is

-- what an event brings, after what the network did
record Brought (e : Event) (a b : End) : Type 0 where
  pair : Pair a b
  comes : ComesBy e pair.there pair.back

comes_by : (e : Event) (a b : End) (p : Pair a b) → MayCome e a b → Brought e a b
comes_by event.Listen a b p may = record { pair = p; comes = tt }
comes_by (event.Open iss) a b p may = record { pair = p; comes = tt }
comes_by (event.Arrives segment iss) a b p may = let c = coming a b p (said segment.now) may in record { pair = c.pair; comes = c.comes }
comes_by (event.Send offset count) a b p may = record { pair = p; comes = tt }
comes_by event.Close a b p may = record { pair = p; comes = tt }
comes_by event.Abort a b p may = record { pair = p; comes = tt }

-- the application's call
carries_called : (e : Event) (may : Bool) (w : World) (a b : End) → Carries w a b → Carries (called e may w) a b
carries_called event.Listen may w a b c = c
carries_called (event.Open iss) may w a b c = c
carries_called (event.Arrives segment iss) may w a b c = c
carries_called (event.Send offset count) may w a b c = c
carries_called event.Close true w a b c = carries_on w (happens w Close) a b (closed_by w) refl c
carries_called event.Close false w a b c = c
carries_called event.Abort may w a b c = c

stand_of : (a b : End) (p : Pair a b) → a.was_opened ≡ true → Stand p.there p.back a.read a.connection a.outgoing a.incoming
stand_of a b p opened = record {
  waits = p.writes.waits opened;
  stands = p.reads.carries.stands;
  sent = λ at. (p.writes.sent opened at, p.here_sound.sent at);
  received = λ at. (p.writes.received opened at, (p.here_sound.received at).0, (p.here_sound.received at).1);
}

goes_pair : (a b : End) (e : Event) (new : Connection) (incoming : List ℕ) (result : Option Said) → has_peer (state_from a.connection) ≡ true → MayCome e a b → OutFits new.sending (length a.outgoing)
    → Steps a.connection new a.outgoing a.incoming incoming e result → Pair a b → Pair (stepped a b new incoming result) b
goes_pair a b e new incoming result has may out s p =
    let opened = opened_of a p.here_sound has in
    let may_end = may_close (state_from a.connection) in
    let it = comes_by e a b p may in
    let q = it.pair in
    went_pair a b (called e may_end q.there) q.back new incoming result (or_left a.was_opened (has_peer (state_from new)) opened) (carries_called e may_end q.there a b q.writes.carries) q.reads q.there_sound out
    (s.goes has q.there q.back a.read it.comes (stand_of a b q opened))

-- ---- a step that opens

nil_of : (xs ys : List ℕ) → [] ≡ xs ++ ys → xs ≡ []
nil_of [] ys is = refl
nil_of (x ∷ xs) ys is = absurd (cc)

none_there : {X : Type 0} (n : ℕ) (x : X) → let xs : List X = [] in slice_get xs n ≡ Some x → ⊥
none_there n x is = absurd (cc)

start_text : (w : World) (t : Sent) → TextIn (start 0) t → TextIn w t
start_text w t (inl rst) = inl rst
start_text w t (inr (inl none)) = inr (inl none)
start_text w t (inr (inr k)) = absurd (none_there k.which k.segment k.there)

start_acked : (w : World) (o : Option ℕ) (peer_wrote : ℕ) → IfSome o (λ number. IsKeptAck (start 0) peer_wrote number) → IfSome o (λ number. IsKeptAck w peer_wrote number)
start_acked w None peer_wrote kept = tt
start_acked w (Some number) peer_wrote kept = absurd (none_there kept.which kept.ack kept.there)

start_ack : (w : World) (t : Sent) → AckIn (start 0) t → AckIn w t
start_ack w t (inl rst) = inl rst
start_ack w t (inr kept) = inr (start_acked w t.said.ack t.peer_wrote kept)

-- nothing is read of a history of which nothing was taken
unread : (w : World) (read : List ℕ) (r : Receiving) (incoming : List ℕ) → w.receiver.got ≡ [] → Stands w read r incoming → read ≡ []
unread w read r incoming empty stands = nil_of read _ (sym (ap bytes_of empty) ∙ stands.holds.held)

first_fresh : (iss : ℕ) → IsFresh (first iss)
first_fresh iss = record { reached = record { initial = iss; events = Send 0 1 ∷ []; is = refl }; shut = refl; empty = refl }

-- The history that begins carries what none carried, and its sender's ring may be another one.
carries_first : (a b : End) (ring : List ℕ) (iss : ℕ) → Carries (start 0) a b → Carries (first iss) (record a { outgoing = ring }) b
carries_first a b ring iss c =
    let none : b.read ≡ [] = unread (start 0) b.read b.connection.receiving b.incoming refl c.stands in
    record {
      reached = (first_fresh iss).reached;
      written = c.written;
      stands = subst (λ (l : List ℕ). Stands (first iss) l b.connection.receiving b.incoming) (sym none)
          (fresh_stands (start 0) (first iss) b.connection.receiving b.incoming refl refl (subst (λ (l : List ℕ). Stands (start 0) l b.connection.receiving b.incoming) none c.stands) (first_fresh iss));
      fresh = λ no. (refl, refl);
      texts = each_weaker (TextIn (start 0)) (TextIn (first iss)) (start_text (first iss)) a.sent c.texts;
      acks = each_weaker (AckIn (start 0)) (AckIn (first iss)) (start_ack (first iss)) b.sent c.acks;
    }

opened_pair : (a b : End) (ring : List ℕ) (iss : ℕ) (new : Connection) (incoming : List ℕ) (result : Option Said) → a.was_opened ≡ false → has_peer (state_from new) ≡ true → OutFits new.sending (length ring) → (p : Pair a b)
    → Goes (first iss) p.back [] new ring incoming result → Pair (stepped (record a { outgoing = ring }) b new incoming result) b
opened_pair a b ring iss new incoming result shut has out p goes =
    let d = p.reads.carries in
    let none : a.read ≡ [] = unread p.back a.read a.connection.receiving a.incoming (d.fresh shut).1 d.stands in
    let peer = direction_kept p.back p.back a (record a { outgoing = ring }) b (receiver_none p.back)
    (record { reached = d.reached; written = d.written; stands = d.stands; fresh = d.fresh; texts = d.texts; acks = d.acks }) p.reads.idle p.reads
    in
    went_pair (record a { outgoing = ring }) b (first iss) p.back new incoming result (or_right a.was_opened (has_peer (state_from new)) has)
    (carries_first a b ring iss (subst (λ (w : World). Carries w a b) (p.writes.idle shut) p.writes.carries)) peer p.there_sound out
    (subst (λ (l : List ℕ). Goes (first iss) p.back l new ring incoming result) (sym none) goes)

peer_fresh : (a b : End) (p : Pair a b) → a.was_opened ≡ false → IsFresh p.back
peer_fresh a b p shut = let f = p.reads.carries.fresh shut in record { reached = p.reads.carries.reached; shut = f.0; empty = f.1 }

syn_text : (w : World) (s : Packet) → s.syn ≡ true → (items_of s.syn s.payload.now s.fin ≡ []) ⊎ ((which : ℕ) × SegmentComes w which s.number (items_of s.syn s.payload.now s.fin)) → (which : ℕ) × SegmentComes w which s.number (items_of s.syn s.payload.now s.fin)
syn_text w s syn (inl none) = absurd (let e : items_of true s.payload.now s.fin ≡ [] = ap (λ (b : Bool). items_of b s.payload.now s.fin) (sym syn) ∙ none in cc)
syn_text w s syn (inr comes) = comes

pub opens_pair : (e : Event) (a b : End) (ring : List ℕ) (new : Connection) (incoming : List ℕ) (result : Option Said) → a.was_opened ≡ false → has_peer (state_from new) ≡ true → MayCome e a b → OutFits new.sending (length ring)
    → Opens e new ring incoming result → Pair a b → Pair (stepped (record a { outgoing = ring }) b new incoming result) b
opens_pair event.Listen a b ring new incoming result shut has may out opens p = absurd opens
opens_pair (event.Open iss) a b ring new incoming result shut has may out opens p = opened_pair a b ring iss new incoming result shut has out p (opens.goes p.back (peer_fresh a b p shut))
opens_pair (event.Arrives segment iss) a b ring new incoming result shut has may out opens p =
    let s = segment.now in
    let it = coming a b p (said s) may in
    let q = it.pair in
    let text = syn_text q.back s opens.syn (brought q.there q.back s opens.rst it.comes).text in
    opened_pair a b ring iss new incoming result shut has out q (opens.goes q.back text.0 (peer_fresh a b q shut) text.1)
opens_pair (event.Send offset count) a b ring new incoming result shut has may out opens p = absurd opens
opens_pair event.Close a b ring new incoming result shut has may out opens p = absurd opens
opens_pair event.Abort a b ring new incoming result shut has may out opens p = absurd opens

-- ---- each call

steps_pair : (a b : End) (e : Event) (new : Connection) (incoming : List ℕ) (result : Option Said) → MayCome e a b → OpensOnce a new → OutFits new.sending (length a.outgoing) → Steps a.connection new a.outgoing a.incoming incoming e result
    → Pair a b → Pair (stepped a b new incoming result) b
steps_pair a b e new incoming result may once out s p = elim (either (has_peer (state_from a.connection))) [
  | inl has ↦ goes_pair a b e new incoming result has may out s p
  | inr none ↦ (elim (either (has_peer (state_from new))) [
    | inl opened ↦ opens_pair e a b a.outgoing new incoming result (once none opened) opened may out (s.opens none opened) p
    | inr still ↦ rests_pair a b new incoming result still (s.rests none still) out p
  ])
]

-- what is out stays out while the application writes
out_writes : (w : World) (bytes : List ℕ) (number : ℕ) (items : List Item) → IsOut w number items → IsOut (happens w (Write bytes)) number items
out_writes w bytes number items out =
    cond_both w.closed _ _ (λ (v : World). IsOut v number items) (λ shut. out) (λ still. record { which = out.which; segment = out.segment; there = out.there; same = out.same; brings = out.brings; recent = out.recent })

writes_more : (w : World) (bytes : List ℕ) → (w.closed ≡ true → bytes ≡ []) → (happens w (Write bytes)).written ≡ w.written ++ bytes
writes_more w bytes none = cond_both w.closed _ _ (λ (v : World). v.written ≡ w.written ++ bytes) (λ shut. sym (ap (λ (l : List ℕ). w.written ++ l) (none shut) ∙ append-nil w.written)) (λ still. refl)

-- `write` of an end with a peer
wrote_pair : (a b : End) (new : Connection) (outgoing bytes : List ℕ) → has_peer (state_from a.connection) ≡ true → OutFits new.sending (length outgoing) → Writes a.connection new a.outgoing outgoing bytes → Pair a b
    → Pair (record a { connection = new; outgoing = outgoing; wrote = a.wrote ++ bytes }) b
wrote_pair a b new outgoing bytes has out s p =
    let opened = opened_of a p.here_sound has in
    let waits = p.writes.waits opened in
    let w = p.there in
    let v = happens w (Write bytes) in
    let c = p.writes.carries in
    let d = p.reads.carries in
    let by = wrote_by w bytes in
    let at : new.phase ≡ a.connection.phase = ap (λ (x : Connection). x.phase) s.same in
    let iss : new.iss ≡ a.connection.iss = ap (λ (x : Connection). x.iss) s.same in
    let receiving : new.receiving ≡ a.connection.receiving = ap (λ (x : Connection). x.receiving) s.same in
    let receiver : v.receiver ≡ w.receiver = ap (λ (x : World). x.receiver) by.same in
    let more : v.written ≡ w.written ++ bytes = writes_more w bytes (λ shut. s.closed (waits.closed ∙ shut)) in
    record {
      there = v;
      back = p.back;
      writes = record {
        carries = record {
          reached = by.reached c.reached;
          written = more ∙ ap (λ (l : List ℕ). l ++ bytes) c.written;
          stands = stands_kept w v b.read b.connection.receiving b.incoming by c.stands;
          fresh = λ no. (ap (λ (r : Receiver). r.is_open) receiver ∙ (c.fresh no).0, ap (λ (r : Receiver). r.got) receiver ∙ (c.fresh no).1);
          texts = texts_grow w v a.sent by.segments c.texts;
          acks = acks_grow w v b.sent (grows_as w.acks v.acks (ap (λ (x : World). x.acks) by.same)) c.acks;
        };
        waits = λ is. s.waits has w waits;
        sent = λ is sent. subst (λ (n : ℕ). IsOut v n (Syn ∷ [])) (sym iss) (out_writes w bytes a.connection.iss (Syn ∷ []) (p.writes.sent opened (sym at ∙ sent)));
        received = λ is received. subst (λ (n : ℕ). IsOut v n (Syn ∷ [])) (sym iss) (out_writes w bytes a.connection.iss (Syn ∷ []) (p.writes.received opened (sym at ∙ received)));
        idle = λ shut. absurd (false≢true (sym shut ∙ opened));
      };
      reads = direction_kept p.back p.back a (record a { connection = new; outgoing = outgoing; wrote = a.wrote ++ bytes }) b (receiver_none p.back)
          (record {
            reached = d.reached;
            written = d.written;
            stands = subst (λ (r : Receiving). Stands p.back a.read r a.incoming) (sym receiving) d.stands;
            fresh = d.fresh;
            texts = d.texts;
            acks = d.acks;
          })
          p.reads.idle p.reads;
      here_sound = record {
        out = out;
        peerless = λ shut. absurd (false≢true (sym shut ∙ opened));
        sent = λ sent. ap (λ (r : Receiving). r.is_open) receiving ∙ p.here_sound.sent (sym at ∙ sent);
        received = λ received.
            let known = p.here_sound.received (sym at ∙ received) in
            (ap (λ (r : Receiving). r.is_open) receiving ∙ known.0, ap (λ (r : Receiving). r.next) receiving ∙ known.1 ∙ ap (λ (x : Connection). after x.irs) (sym s.same));
      };
      there_sound = p.there_sound;
    }

writes_pair : (a b : End) (new : Connection) (outgoing bytes : List ℕ) → OutFits new.sending (length outgoing) → Writes a.connection new a.outgoing outgoing bytes → Pair a b → Pair (record a { connection = new; outgoing = outgoing; wrote = a.wrote ++ bytes }) b
writes_pair a b new outgoing bytes out s p = elim (either (has_peer (state_from a.connection))) [
  | inl has ↦ wrote_pair a b new outgoing bytes has out s p
  | inr none ↦
      let stays = s.stays none in
      let same : record a { connection = new; outgoing = outgoing; wrote = a.wrote ++ bytes } ≡ a =
      ap (λ (x : Connection). record a { connection = x; outgoing = outgoing; wrote = a.wrote ++ bytes }) stays.0 ∙ ap (λ (l : List ℕ). record a { outgoing = l; wrote = a.wrote ++ bytes }) stays.1
      ∙ ap (λ (l : List ℕ). record a { wrote = l }) (ap (λ (l : List ℕ). a.wrote ++ l) (s.none none) ∙ append-nil a.wrote)
      in
      subst (λ (x : End). Pair x b) (sym same) p
]

reads_pair : (a b : End) (new : Connection) (bytes : List ℕ) → Reads a.connection new a.incoming bytes → Pair a b → Pair (record a { connection = new; read = a.read ++ bytes }) b
reads_pair a b new bytes s p =
    let c = p.writes.carries in
    let d = p.reads.carries in
    let at : new.phase ≡ a.connection.phase = ap (λ (x : Connection). x.phase) s.same in
    let iss : new.iss ≡ a.connection.iss = ap (λ (x : Connection). x.iss) s.same in
    let sending : new.sending ≡ a.connection.sending = ap (λ (x : Connection). x.sending) s.same in
    record {
      there = p.there;
      back = p.back;
      writes = record {
        carries = record { reached = c.reached; written = c.written; stands = c.stands; fresh = c.fresh; texts = c.texts; acks = c.acks };
        waits = λ opened. subst (λ (x : Sending). Waits p.there x a.outgoing) (sym sending) (p.writes.waits opened);
        sent = λ opened sent. subst (λ (n : ℕ). IsOut p.there n (Syn ∷ [])) (sym iss) (p.writes.sent opened (sym at ∙ sent));
        received = λ opened received. subst (λ (n : ℕ). IsOut p.there n (Syn ∷ [])) (sym iss) (p.writes.received opened (sym at ∙ received));
        idle = p.writes.idle;
      };
      reads = direction_kept p.back p.back a (record a { connection = new; read = a.read ++ bytes }) b (receiver_none p.back)
          (record { reached = d.reached; written = d.written; stands = s.stands p.back a.read d.stands; fresh = d.fresh; texts = d.texts; acks = d.acks }) p.reads.idle p.reads;
      here_sound = record {
        out = subst (λ (x : Sending). OutFits x (length a.outgoing)) (sym sending) p.here_sound.out;
        peerless = λ shut. ap (λ (x : Connection). has_peer (state_from x)) s.same ∙ p.here_sound.peerless shut;
        sent = λ sent. ap (λ (x : Connection). x.receiving.is_open) s.same ∙ p.here_sound.sent (sym at ∙ sent);
        received = λ received.
            let known = p.here_sound.received (sym at ∙ received) in
            (ap (λ (x : Connection). x.receiving.is_open) s.same ∙ known.0, ap (λ (x : Connection). x.receiving.next) s.same ∙ known.1 ∙ ap (λ (x : Connection). after x.irs) (sym s.same));
      };
      there_sound = p.there_sound;
    }

pub calls_pair : (a b c : End) → Calls a b c → Pair a b → Pair c b
calls_pair a b c (steps e new incoming result may once out s) p = steps_pair a b e new incoming result may once out s p
calls_pair a b c (writes new outgoing bytes out s) p = writes_pair a b new outgoing bytes out s p
calls_pair a b c (reads new bytes s) p = reads_pair a b new bytes s p

-- ---- runs

new_direction : (a b : End) → IsNew a → IsNew b → Direction (start 0) a b
new_direction a b new peer = record {
  carries = record {
    reached = record { initial = 0; events = []; is = refl };
    written = sym new.wrote;
    stands = subst (λ (l : List ℕ). Stands (start 0) l b.connection.receiving b.incoming) (sym peer.read) peer.stands;
    fresh = λ shut. (refl, refl);
    texts = subst (λ (ts : List Sent). Each (TextIn (start 0)) ts) (sym new.sent) tt;
    acks = subst (λ (ts : List Sent). Each (AckIn (start 0)) ts) (sym peer.sent) tt;
  };
  waits = λ opened. absurd (false≢true (sym new.opened ∙ opened));
  sent = λ opened. absurd (false≢true (sym new.opened ∙ opened));
  received = λ opened. absurd (false≢true (sym new.opened ∙ opened));
  idle = λ shut. refl;
}

new_sound : (a : End) → IsNew a → IsSound a
new_sound a new =
    let none = shut_peerless a.connection (shut_phase a.connection new.endpoint) in
    record { out = new.out; peerless = λ shut. none; sent = λ at. absurd (false≢true (sym none ∙ sent_peer a.connection at)); received = λ at. absurd (false≢true (sym none ∙ received_peer a.connection at)) }

pub new_pair : (a b : End) → IsNew a → IsNew b → Pair a b
new_pair a b new peer = record { there = start 0; back = start 0; writes = new_direction a b new peer; reads = new_direction b a peer new; here_sound = new_sound a new; there_sound = new_sound b peer }

pub runs_pair : (p : Ends) → Runs p → Pair p.here p.there
runs_pair p (begins q here_new there_new) = new_pair p.here p.there here_new there_new
runs_pair p (here q new run calls) = calls_pair q.here q.there new calls (runs_pair q run)
runs_pair p (there q new run calls) = turned new q.here (calls_pair q.there q.here new calls (turned q.here q.there (runs_pair q run)))

reads_all : (w : World) (a b : End) → Direction w b a → Read a b
reads_all w a b d = record {
  prefix = subst (λ (l : List ℕ). IsPrefixOf a.read l) d.carries.written (held_delivers w a.read a.connection.receiving a.incoming d.carries.stands);
  whole = λ ended. (end_delivers w a.read a.connection.receiving a.incoming ended.0 ended.1 d.carries.stands).1 ∙ d.carries.written;
}

pub pair_reads : (a b : End) → Pair a b → BothRead (record { here = a; there = b })
pair_reads a b pair = record { here = reads_all pair.back a b pair.reads; there = reads_all pair.there b a pair.writes }

pub two_connections_deliver : (p : Ends) → Runs p → BothRead p
two_connections_deliver p run = pair_reads p.here p.there (runs_pair p run)
