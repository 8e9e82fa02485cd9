-- What the state of the receiver stands for in a history of the network.
use Rattle.std.proofs.Common.{◌≡◌, ◌⊎◌, refl, ℕ, suc, nat_lt, ◌+◌, ◌%◌, ◌≤◌, ◌<◌, List, [], ◌∷◌, ◌++◌, Bool, true, false, length, take, sym, ◌∙◌, ap, subst, arith, append_assoc}
use Rattle.std.specs.Prelude.{Option, Some, None, slice_get}
use Rattle.std.proofs.lemmas.List.{append-nil}
use Rattle.std.proofs.lemmas.Bool.{cond-true, cond_both, false≢true}
use Rattle.tcp_stream.specs.Endpoint.{Item, Syn, Receiver, distance, received}
use Rattle.tcp_stream.specs.Network.{World, Event, Segment, Ack, Write, Close, Send, Segment_comes, Resegment, Answer, Ack_comes, happens, segment_comes, resegments, sends, ack_comes, run, start, stream, is_alive, IsPrefixOf}
use Rattle.tcp_stream.proofs.Kept.{Good, good_start, run_good, good_delivers}
use Rattle.tcp_stream.specs.Stands.{Stands, Holds, Keeps, Came, IsReached, SegmentComes, Uses, IsAnswer}
use Rattle.tcp_stream.specs.Items.{items_of}
use Rattle.tcp_stream.specs.Ring.{ring}
use Rattle.tcp_stream.proofs.Received.{early, no_news, opened_stands}
use Rattle.tcp_stream.specs.declared.receiving.Receiving.{Receiving}

-- one more event
run_more : (events : List Event) (w : World) (e : Event) → happens (run events w) e ≡ run (events ++ (e ∷ [])) w
run_more [] w e = refl
run_more (first ∷ events) w e = run_more events (happens w first) e

pub reached_more : (w : World) (e : Event) → IsReached w → IsReached (happens w e)
reached_more w e reached = record {
  initial = reached.initial;
  events = reached.events ++ (e ∷ []);
  is = ap (λ (v : World). happens v e) reached.is ∙ run_more reached.events (start reached.initial) e;
}

pub reached_good : (w : World) → IsReached w → Good w
reached_good w reached = subst Good (sym reached.is) (run_good reached.events (start reached.initial) (good_start reached.initial))

-- all segments that were sent before are there
pub record Has (old new : List Segment) : Type 0 where
  pub find : (n : ℕ) (s : Segment) → slice_get old n ≡ Some s → (m : ℕ) × (slice_get new m ≡ Some s)

has_same : (l : List Segment) → Has l l
has_same l = record { find = λ n s is. (n, is) }

has_more : (x : Segment) (l : List Segment) → Has l (x ∷ l)
has_more x l = record { find = λ n s is. (suc n, is) }

has_comes : (w : World) (room : ℕ) (s : Option Segment) → Has w.segments (segment_comes w room s).segments
has_comes w room None = has_same w.segments
has_comes w room (Some s) = cond_both (is_alive (length w.receiver.got) s.place) _ _ (λ (v : World). Has w.segments v.segments) (λ yes. has_same w.segments) (λ no_more. has_same w.segments)

has_resegments : (w : World) (place count : ℕ) → Has w.segments (resegments w place count).segments
has_resegments w place count = cond_both (nat_lt w.sent (place + count)) _ _ (λ (v : World). Has w.segments v.segments) (λ unsent. has_same w.segments) (λ within. has_more _ w.segments)

has_ack : (w : World) (a : Option Ack) → Has w.segments (ack_comes w a).segments
has_ack w None = has_same w.segments
has_ack w (Some a) = cond_both (is_alive w.acked a.place) _ _ (λ (v : World). Has w.segments v.segments) (λ yes. has_same w.segments) (λ no_more. has_same w.segments)

has_sends : (w : World) (place : ℕ) (items : List Item) → Has w.segments (sends w place items).segments
has_sends w place items = cond_both (nat_lt (w.acked + 2147483648) (place + length items)) _ _ (λ (v : World). Has w.segments v.segments) (λ far. has_same w.segments) (λ near. has_more _ w.segments)

-- no event takes a segment back
pub has_all : (w : World) (e : Event) → Has w.segments (happens w e).segments
has_all w (Write bytes) = cond_both w.closed _ _ (λ (v : World). Has w.segments v.segments) (λ shut. has_same w.segments) (λ still. has_same w.segments)
has_all w Close = has_same w.segments
has_all w (Send offset count) = cond_both (nat_lt (length (stream w.written w.closed)) (w.acked + offset)) _ _ (λ (v : World). Has w.segments v.segments) (λ past. has_same w.segments) (λ within. has_sends w (w.acked + offset) _)
has_all w (Segment_comes which room) = has_comes w room (slice_get w.segments which)
has_all w (Resegment place count) = has_resegments w place count
has_all w Answer = cond_both w.receiver.is_open _ _ (λ (v : World). Has w.segments v.segments) (λ yes. has_same w.segments) (λ no_more. has_same w.segments)
has_all w (Ack_comes which) = has_ack w (slice_get w.acks which)

-- what came before came
pub came_later : (w v : World) (place : ℕ) (item : Item) → Has w.segments v.segments → Came w place item → Came v place item
came_later w v place item more came =
    let at = more.find came.which came.segment came.there in
    record { which = at.0; segment = came.segment; there = at.1; after = came.after; near = came.near; brings = came.brings }

pub came_as : (w : World) (p q : ℕ) (x y : Item) → p ≡ q → x ≡ y → Came w p x → Came w q y
came_as w p q x y place item came = subst (λ (n : ℕ). Came w n y) place (subst (λ (i : Item). Came w p i) item came)

-- what the state keeps, if the receiver is the same
pub keeps_still : (w v : World) (c : Receiving) (b : List ℕ) → v.receiver ≡ w.receiver → Has w.segments v.segments → Keeps w c b → Keeps v c b
keeps_still w v c b receiver more keeps =
    let got : length w.receiver.got ≡ length v.receiver.got = ap (λ (r : Receiver). length r.got) (sym receiver) in
    record {
      gap = keeps.gap;
      bytes = λ n is. came_as v _ _ _ _ (ap (λ (k : ℕ). k + n) got) refl (came_later w v _ _ more (keeps.bytes n is));
      fin = λ some. came_as v _ _ _ _ (ap (λ (k : ℕ). k + c.fin_at) got) refl (came_later w v _ _ more (keeps.fin some));
      opened = keeps.opened;
      opened_fin = keeps.opened_fin;
    }

-- an event that leaves the receiver
pub stands_still : (w : World) (e : Event) (consumed : List ℕ) (c : Receiving) (b : List ℕ) → (happens w e).receiver ≡ w.receiver → Stands w consumed c b → Stands (happens w e) consumed c b
stands_still w e consumed c b receiver stands = record {
  reached = reached_more w e stands.reached;
  holds = subst (λ (r : Receiver). Holds r consumed c b) (sym receiver) stands.holds;
  keeps = keeps_still w (happens w e) c b receiver (has_all w e) stands.keeps;
}

-- the world after a segment that comes
pub comes : (w : World) (which number room : ℕ) (items : List Item) → SegmentComes w which number items → happens w (Segment_comes which room) ≡ record w { receiver = received w.receiver number items room }
comes w which number room items it =
    ap (λ (x : Option Segment). segment_comes w room x) it.there
    ∙ cond-true (is_alive (length w.receiver.got) it.segment.place) _ _ it.alive
    ∙ ap (λ (n : ℕ). record w { receiver = received w.receiver n it.segment.items room }) it.same
    ∙ ap (λ (l : List Item). record w { receiver = received w.receiver number l room }) it.brings

-- a segment that brings nothing
pub comes_early : (w : World) (which number room : ℕ) (payload : List ℕ) (fin : Bool) (consumed : List ℕ) (c : Receiving) (b : List ℕ) → SegmentComes w which number (items_of false payload fin) → Stands w consumed c b → c.is_open ≡ false
    → happens w (Segment_comes which room) ≡ w
comes_early w which number room payload fin consumed c b it stands shut = comes w which number room _ it ∙ ap (λ (r : Receiver). record w { receiver = r }) (early w.receiver number payload fin room (stands.holds.is_open ∙ shut))

pub comes_in_vain : (w : World) (which number room : ℕ) (payload : List ℕ) (fin : Bool) (consumed : List ℕ) (c : Receiving) (b : List ℕ) → SegmentComes w which number (items_of false payload fin) → Stands w consumed c b → c.is_open ≡ true
    → c.next < 4294967296 → (2147483648 ≤ distance c.next number) ⊎ (length payload < distance c.next number) → happens w (Segment_comes which room) ≡ w
comes_in_vain w which number room payload fin consumed c b it stands is_open fits why =
    let same : c.next ≡ w.receiver.next = stands.holds.next is_open in
    comes w which number room _ it
    ∙ ap (λ (r : Receiver). record w { receiver = r })
    (no_news w.receiver number payload fin room (omega arith) (stands.holds.is_open ∙ is_open) (subst (λ (n : ℕ). (2147483648 ≤ distance n number) ⊎ (length payload < distance n number)) same why))

pub nothing_used : (w v : World) (consumed : List ℕ) (c : Receiving) (b : List ℕ) → v ≡ w → Stands w consumed c b → Uses v consumed c b
nothing_used w v consumed c b same stands = record { segments = []; stands = subst (λ (u : World). Stands u consumed c b) (sym same) stands }

-- the SYN that opens
pub opens : (w : World) (which number : ℕ) (rest : List Item) (consumed : List ℕ) (c d : Receiving) (b : List ℕ) → SegmentComes w which number (Syn ∷ rest) → Stands w consumed c b → c.is_open ≡ false → number < 4294967296
    → d ≡ record c { next = (number + 1) % 4294967296; is_open = true } → Stands (happens w (Segment_comes which 1)) consumed d b
opens w which number rest consumed c d b it stands shut small is = record {
  reached = reached_more w (Segment_comes which 1) stands.reached;
  holds = subst (λ (v : World). Holds v.receiver consumed d b) (sym (comes w which number 1 _ it)) (opened_stands w.receiver consumed c d b number rest small stands.holds shut is);
  keeps = subst (λ (e : Receiving). Keeps (happens w (Segment_comes which 1)) e b) (sym is) (record {
    gap = stands.keeps.gap;
    bytes = λ n some. absurd (false≢true (sym shut ∙ stands.keeps.opened n some));
    fin = λ some. absurd (false≢true (sym shut ∙ stands.keeps.opened_fin some));
    opened = λ n some. refl;
    opened_fin = λ some. refl;
  });
}

-- what a receiver holds begins what was written
pub held_delivers : (w : World) (consumed : List ℕ) (c : Receiving) (b : List ℕ) → Stands w consumed c b → IsPrefixOf consumed w.written
held_delivers w consumed c b stands =
    let prefix = (good_delivers w (reached_good w stands.reached)).prefix in
    (take c.len (ring c.start b) ++ prefix.0, sym (append_assoc consumed (take c.len (ring c.start b)) prefix.0) ∙ ap (λ (l : List ℕ). l ++ prefix.0) (sym stands.holds.held) ∙ prefix.1)

pub end_delivers : (w : World) (consumed : List ℕ) (c : Receiving) (b : List ℕ) → c.has_fin ≡ true → c.len ≡ 0 → Stands w consumed c b → (w.closed ≡ true) × (consumed ≡ w.written)
end_delivers w consumed c b fin none stands =
    let whole = (good_delivers w (reached_good w stands.reached)).whole (stands.holds.ended ∙ fin) in
    (whole.0, sym (stands.holds.held ∙ ap (λ (n : ℕ). consumed ++ take n (ring c.start b)) none ∙ append-nil consumed) ∙ whole.1)

pub answers : (w : World) (consumed : List ℕ) (c : Receiving) (b : List ℕ) → c.is_open ≡ true → Stands w consumed c b → IsAnswer w c.next
answers w consumed c b is_open stands = record {
  last = ap (λ (v : World). v.acks) (cond-true w.receiver.is_open _ _ (stands.holds.is_open ∙ is_open)) ∙ ap (λ (n : ℕ). record { place = length w.receiver.got; number = n } ∷ w.acks) (sym (stands.holds.next is_open));
}
