-- What every event keeps.
use Rattle.std.proofs.Common.{◌≡◌, refl, ℕ, zero, suc, ◌+◌, ◌-◌, ◌%◌, ◌≤◌, ◌<◌, List, [], ◌∷◌, ◌++◌, Bool, true, false, length, get_or, take, drop, max, sym, ◌∙◌, ap, subst, arith, length-append, length-take, length-drop, nat_lt}
use Rattle.std.specs.Prelude.{Option, Some, None, slice_get}
use Rattle.std.proofs.lemmas.Bool.{false≢true, cond_both, cond-true, cases_lt}
use Rattle.std.proofs.lemmas.Bool.Decides.{nat_tests}
use Rattle.std.proofs.lemmas.List.{drop_all, get_or_append_left, get_or-append_right}
use mathlib.Core.Logic.{inl, inr}
use Rattle.tcp_stream.specs.Endpoint.{Item, Syn, Byte, Fin, Receiver, distance, fresh, accepted, opened, received, newly}
use Rattle.tcp_stream.specs.Network.{Segment, Ack, World, Event, Write, Close, Send, Segment_comes, Resegment, Answer, Ack_comes, stream, number_at, is_alive, segment_comes, resegments, ack_comes, sends, happens, run, start, bytes_of, is_ended, IsPrefixOf, Delivers}
use Rattle.tcp_stream.proofs.Numbers.{distance_after, distance_before, number_more}
use Rattle.tcp_stream.proofs.Parts.{IsPart, part_grow, part_nil, part_drop, part_take, part_append, part_cut, part_first}
use Rattle.tcp_stream.proofs.Streams.{bytes_first, end_last, syn_first, Grows, grows_write, grows_close}

pub record GoodSegment (initial sent : ℕ) (s : List Item) (x : Segment) : Type 0 where
  pub part : IsPart s x.place x.items
  pub number : x.number ≡ number_at initial x.place
  pub before : x.place + length x.items ≤ sent

pub record GoodAck (initial : ℕ) (got : ℕ) (a : Ack) : Type 0 where
  pub place : a.place ≤ got
  pub number : a.number ≡ number_at initial a.place

abbrev Each : {X : Type 0} → (X → Type 0) → List X → Type 0
Each P [] = Unit {0}
Each P (x ∷ xs) = P x × Each P xs

each_weaker : {X : Type 0} (P Q : X → Type 0) → ((x : X) → P x → Q x) → (xs : List X) → Each P xs → Each Q xs
each_weaker P Q f [] each = tt
each_weaker P Q f (x ∷ xs) each = (f x each.0, each_weaker P Q f xs each.1)

pub each_get : {X : Type 0} (P : X → Type 0) (xs : List X) (n : ℕ) (x : X) → Each P xs → slice_get xs n ≡ Some x → P x
each_get P [] n x each is = absurd (cc)
each_get P (y ∷ xs) zero x each is = subst P (let e : y ≡ x = cc in e) each.0
each_get P (y ∷ xs) (suc n) x each is = each_get P xs n x each.1 is

-- an open receiver knows its number; another has nothing
abbrev Knows : ℕ → Receiver → Type 0
Knows initial r = (r.is_open ≡ true → r.next ≡ number_at initial (length r.got)) × (r.is_open ≡ false → r.got ≡ [])

pub record Good (w : World) : Type 0 where
  pub got : IsPart (stream w.written w.closed) 0 w.receiver.got
  pub knows : Knows w.initial w.receiver
  pub counted : w.acked ≤ length w.receiver.got
  pub behind : length w.receiver.got ≤ w.sent
  pub flight : w.sent ≤ w.acked + 2147483648
  pub within : w.sent ≤ length (stream w.written w.closed)
  pub segments : Each (GoodSegment w.initial w.sent (stream w.written w.closed)) w.segments
  pub acks : Each (GoodAck w.initial (length w.receiver.got)) w.acks

pub good_start : (initial : ℕ) → Good (start initial)
good_start initial = record {
  got = part_nil _ 0 (omega arith);
  knows = ((λ is. absurd (false≢true is)), (λ is. refl));
  counted = omega arith;
  behind = omega arith;
  flight = omega arith;
  within = omega arith;
  segments = tt;
  acks = tt;
}

pub good_delivers : (w : World) → Good w → Delivers w
good_delivers w good =
    let is = part_first (stream w.written w.closed) w.receiver.got good.got in
    record {
      prefix = subst (λ (l : List Item). IsPrefixOf (bytes_of l) w.written) (sym is) (bytes_first w.written w.closed (length w.receiver.got));
      whole = λ ended. subst (λ (l : List Item). (w.closed ≡ true) × (bytes_of l ≡ w.written)) (sym is) (end_last w.written w.closed (length w.receiver.got) (subst (λ (l : List Item). is_ended l ≡ true) is ended));
      counted = good.counted;
    }

fresh_gap : (next number : ℕ) (items : List Item) (room : ℕ) → 2147483648 ≤ distance next number → fresh next number items room ≡ []
fresh_gap next number items room far = grind (arith, nat_tests)

pub fresh_from : (next number : ℕ) (items : List Item) (room d : ℕ) → distance next number ≡ d → d < 2147483648 → fresh next number items room ≡ take room (drop d items)
fresh_from next number items room d is near = cond-true _ _ _ (let t : nat_lt (distance next number) 2147483648 ≡ true = grind (arith, nat_tests) in t) ∙ ap (λ (n : ℕ). take room (drop n items)) is

-- a part that begins here and was sent
record Goes (s : List Item) (now sent : ℕ) (items : List Item) : Type 0 where
  part : IsPart s now items
  before : now + length items ≤ sent

goes_nil : (s : List Item) (now sent : ℕ) → now ≤ length s → now ≤ sent → Goes s now sent []
goes_nil s now sent within le = record { part = part_nil s now within; before = omega arith }

-- what the receiver takes goes on where it stands
fresh_part : (initial now place room sent : ℕ) (s items : List Item) → IsPart s place items → place + length items ≤ sent → now ≤ length s → now ≤ sent → now < place + 2147483648 → place ≤ now + 2147483648
    → Goes s now sent (fresh (number_at initial now) (number_at initial place) items room)
fresh_part initial now place room sent s items part before within least alive ahead =
    elim (cases_lt now place) [
      | inl gap ↦
          let d : distance (number_at initial now) (number_at initial place) ≡ now + 4294967296 - place = distance_before initial now place gap (omega arith) in
          let none : fresh (number_at initial now) (number_at initial place) items room ≡ [] = fresh_gap _ _ items room (omega arith) in
          subst (λ (l : List Item). Goes s now sent l) (sym none) (goes_nil s now sent within least)
      | inr le ↦
          let d : distance (number_at initial now) (number_at initial place) ≡ now - place = distance_after initial now place le (omega arith) in
          let some : fresh (number_at initial now) (number_at initial place) items room ≡ take room (drop (now - place) items) = fresh_from _ _ items room (now - place) d (omega arith) in
          subst (λ (l : List Item). Goes s now sent l) (sym some) (cut le (dropped le))
    ]
  where
    dropped : place ≤ now → Goes s now sent (drop (now - place) items)
    dropped le = elim (cases_lt (length items) (now - place)) [
      | inl past ↦ subst (λ (l : List Item). Goes s now sent l) (sym (drop_all (now - place) items (omega arith))) (goes_nil s now sent within least)
      | inr inside ↦
          let e : place + (now - place) ≡ now = omega arith in
          record { part = subst (λ (p : ℕ). IsPart s p (drop (now - place) items)) e (part_drop s place items (now - place) inside part); before = omega (arith, length-drop (now - place) items) }
    ]

    cut : place ≤ now → Goes s now sent (drop (now - place) items) → Goes s now sent (take room (drop (now - place) items))
    cut le whole = record { part = part_take s now (drop (now - place) items) room whole.part; before = omega (arith, whole.before, length-take room (drop (now - place) items)) }

pub test_true : (a b : ℕ) → nat_lt a b ≡ true → a < b
test_true a b is = grind (arith, nat_tests)

pub test_false : (a b : ℕ) → nat_lt a b ≡ false → b ≤ a
test_false a b is = grind (arith, nat_tests)

-- the receiver takes what goes on
accepted_good : (w : World) (new : List Item) → Good w → Goes (stream w.written w.closed) (length w.receiver.got) w.sent new → (next : ℕ) → next ≡ number_at w.initial (length w.receiver.got)
    → Good (record w { receiver = accepted next w.receiver.got new })
accepted_good w new good goes next is =
    let long : length (w.receiver.got ++ new) ≡ length w.receiver.got + length new = length-append w.receiver.got new in
    record {
      got = part_append (stream w.written w.closed) w.receiver.got new good.got goes.part;
      knows = (
        (λ open_now. ap (λ (n : ℕ). (n + length new) % 4294967296) is ∙ number_more w.initial (length w.receiver.got) (length new) ∙ ap (λ (n : ℕ). number_at w.initial n) (sym long)),
        (λ shut. absurd (false≢true (sym shut))),
      );
      counted = omega (arith, good.counted);
      behind = omega (arith, goes.before);
      flight = good.flight;
      within = good.within;
      segments = good.segments;
      acks = each_weaker _ _ (λ a fine. record { place = omega (arith, fine.place); number = fine.number }) w.acks good.acks;
    }

-- the segment that opens begins the stream
opened_good : (w : World) (place number : ℕ) (items : List Item) (room : ℕ) → Good w → w.receiver.is_open ≡ false → IsPart (stream w.written w.closed) place items → number ≡ number_at w.initial place → place + length items ≤ w.sent
    → Good (record w { receiver = opened w.receiver number items room })
opened_good w place number [] room good shut part is before = good
opened_good w place number (Byte b ∷ items) room good shut part is before = good
opened_good w place number (Fin ∷ items) room good shut part is before = good
opened_good w place number (Syn ∷ items) room good shut part is before =
    let at : place + 0 ≡ place = omega arith in
    let first : place ≡ 0 = syn_first w.written w.closed place (omega (arith, part.within)) (part.same 0 (omega arith) ∙ ap (λ (n : ℕ). get_or (stream w.written w.closed) n Syn) at) in
    let none : length w.receiver.got ≡ 0 = ap length (good.knows.1 shut) in
    let now : number ≡ number_at w.initial (length w.receiver.got) = is ∙ ap (λ (n : ℕ). number_at w.initial n) (first ∙ sym none) in
    let goes = fresh_part w.initial (length w.receiver.got) place room w.sent (stream w.written w.closed) (Syn ∷ items) part before (omega (arith, good.got.within)) good.behind (omega arith) (omega arith) in
    let same : fresh (number_at w.initial (length w.receiver.got)) (number_at w.initial place) (Syn ∷ items) room ≡ fresh number number (Syn ∷ items) room =
    ap (λ (n : ℕ). fresh n (number_at w.initial place) (Syn ∷ items) room) (sym now) ∙ ap (λ (n : ℕ). fresh number n (Syn ∷ items) room) (sym is) in
    accepted_good w _ good (subst (λ (l : List Item). Goes (stream w.written w.closed) (length w.receiver.got) w.sent l) same goes) number now

received_good : (w : World) (x : Segment) (room : ℕ) → Good w → GoodSegment w.initial w.sent (stream w.written w.closed) x → length w.receiver.got < x.place + 2147483648
    → Good (record w { receiver = received w.receiver x.number x.items room })
received_good w x room good fine alive =
    cond_both w.receiver.is_open _ _ (λ (r : Receiver). Good (record w { receiver = r })) when_open (λ shut. opened_good w x.place x.number x.items room good shut fine.part fine.number fine.before)
  where
    when_open : w.receiver.is_open ≡ true → Good (record w { receiver = accepted w.receiver.next w.receiver.got (fresh w.receiver.next x.number x.items room) })
    when_open is_open =
        let is : w.receiver.next ≡ number_at w.initial (length w.receiver.got) = good.knows.0 is_open in
        let goes = fresh_part w.initial (length w.receiver.got) x.place room w.sent (stream w.written w.closed) x.items fine.part fine.before (omega (arith, good.got.within)) good.behind alive (omega (arith, fine.before, good.counted, good.flight)) in
        let same : fresh (number_at w.initial (length w.receiver.got)) (number_at w.initial x.place) x.items room ≡ fresh w.receiver.next x.number x.items room =
        ap (λ (n : ℕ). fresh n (number_at w.initial x.place) x.items room) (sym is) ∙ ap (λ (n : ℕ). fresh w.receiver.next n x.items room) (sym fine.number) in
        accepted_good w _ good (subst (λ (l : List Item). Goes (stream w.written w.closed) (length w.receiver.got) w.sent l) same goes) w.receiver.next is

segment_good : (w : World) (room : ℕ) (x : Option Segment) → Good w → ((s : Segment) → x ≡ Some s → GoodSegment w.initial w.sent (stream w.written w.closed) s) → Good (segment_comes w room x)
segment_good w room None good fine = good
segment_good w room (Some x) good fine =
    cond_both (is_alive (length w.receiver.got) x.place) _ _ Good (λ alive. received_good w x room good (fine x refl) (test_true _ _ alive)) (λ dead. good)

-- an acknowledgement never passes what was received
newly_le : (initial acked flight place : ℕ) (got : ℕ) → place ≤ got → acked ≤ got → acked < place + 2147483648 → got ≤ acked + 2147483648 → flight ≤ 2147483648
    → acked + newly (number_at initial acked) flight (number_at initial place) ≤ got
newly_le initial acked flight place got le counted alive near small =
    elim (cases_lt place acked) [
      | inl old ↦
          let d : distance (number_at initial place) (number_at initial acked) ≡ place + 4294967296 - acked = distance_before initial place acked old (omega arith) in
          let none : newly (number_at initial acked) flight (number_at initial place) ≡ 0 = cond-true _ _ _ (let t : nat_lt flight (distance (number_at initial place) (number_at initial acked)) ≡ true = grind (arith, nat_tests) in t) in
          omega arith
      | inr new ↦
          let d : distance (number_at initial place) (number_at initial acked) ≡ place - acked = distance_after initial place acked new (omega arith) in
          cond_both (nat_lt flight (distance (number_at initial place) (number_at initial acked))) _ _ (λ (n : ℕ). acked + n ≤ got) (λ far. omega arith) (λ near. omega arith)
    ]

ack_good : (w : World) (x : Option Ack) → Good w → ((a : Ack) → x ≡ Some a → GoodAck w.initial (length w.receiver.got) a) → Good (ack_comes w x)
ack_good w None good fine = good
ack_good w (Some a) good fine = cond_both (is_alive w.acked a.place) _ _ Good counts (λ dead. good)
  where
    counts : is_alive w.acked a.place ≡ true → Good (record w { acked = w.acked + newly (number_at w.initial w.acked) (w.sent - w.acked) a.number })
    counts alive =
        let here = fine a refl in
        let bound = newly_le w.initial w.acked (w.sent - w.acked) a.place (length w.receiver.got) here.place good.counted (test_true _ _ alive) (omega (arith, good.behind, good.flight)) (omega (arith, good.flight)) in
        record {
          got = good.got;
          knows = good.knows;
          counted = subst (λ (n : ℕ). w.acked + newly (number_at w.initial w.acked) (w.sent - w.acked) n ≤ length w.receiver.got) (sym here.number) bound;
          behind = good.behind;
          flight = omega (arith, good.flight);
          within = good.within;
          segments = good.segments;
          acks = good.acks;
        }

sends_good : (w : World) (place : ℕ) (items : List Item) → Good w → IsPart (stream w.written w.closed) place items → Good (sends w place items)
sends_good w place items good part = cond_both (nat_lt (w.acked + 2147483648) (place + length items)) _ _ Good (λ far. good) goes_out
  where
    goes_out : nat_lt (w.acked + 2147483648) (place + length items) ≡ false → Good (record w { sent = max w.sent (place + length items); segments = record { place = place; number = number_at w.initial place; items = items } ∷ w.segments })
    goes_out near =
        let close = test_false _ _ near in
        record {
          got = good.got;
          knows = good.knows;
          counted = good.counted;
          behind = omega (arith, good.behind);
          flight = omega (arith, good.flight);
          within = omega (arith, good.within, part.within);
          segments = (
            record { part = part; number = refl; before = omega arith },
            each_weaker _ _ (λ x fine. record { part = fine.part; number = fine.number; before = omega (arith, fine.before) }) w.segments good.segments,
          );
          acks = good.acks;
        }

-- more to bring across
grown_good : (w : World) (written : List ℕ) (closed : Bool) → Good w → Grows (stream w.written w.closed) (stream written closed) → Good (record w { written = written; closed = closed })
grown_good w written closed good grows = record {
  got = grown 0 w.receiver.got good.got;
  knows = good.knows;
  counted = good.counted;
  behind = good.behind;
  flight = good.flight;
  within = omega (arith, good.within, ap length grows.is, length-append (stream w.written w.closed) grows.more);
  segments = each_weaker _ _ (λ x fine. record { part = grown x.place x.items fine.part; number = fine.number; before = fine.before }) w.segments good.segments;
  acks = good.acks;
}
  where
    grown : (p : ℕ) (xs : List Item) → IsPart (stream w.written w.closed) p xs → IsPart (stream written closed) p xs
    grown p xs part = subst (λ (l : List Item). IsPart l p xs) (sym grows.is) (part_grow (stream w.written w.closed) grows.more p xs part)

resegments_good : (w : World) (place count : ℕ) → Good w → Good (resegments w place count)
resegments_good w place count good = cond_both (nat_lt w.sent (place + count)) _ _ Good (λ unsent. good) made
  where
    made : nat_lt w.sent (place + count) ≡ false → Good (record w { segments = record { place = place; number = number_at w.initial place; items = take count (drop place (stream w.written w.closed)) } ∷ w.segments })
    made within =
        let near = test_false _ _ within in
        record {
          got = good.got;
          knows = good.knows;
          counted = good.counted;
          behind = good.behind;
          flight = good.flight;
          within = good.within;
          segments = (
            record {
              part = part_cut (stream w.written w.closed) place count (omega (arith, good.within));
              number = refl;
              before = omega (arith, length-take count (drop place (stream w.written w.closed)));
            },
            good.segments,
          );
          acks = good.acks;
        }

pub part_join : (s : List Item) (p : ℕ) (xs ys : List Item) → IsPart s p xs → IsPart s (p + length xs) ys → IsPart s p (xs ++ ys)
part_join s p xs ys a b = record {
  within = omega (arith, length-append xs ys, b.within);
  same = λ i h. elim (cases_lt i (length xs)) [
    | inl lt ↦ get_or_append_left xs ys Syn i lt ∙ a.same i lt
    | inr ge ↦ get_or-append_right xs ys (length xs) i Syn refl ge ∙ b.same (i - length xs) (omega (arith, length-append xs ys)) ∙ ap (λ (k : ℕ). get_or s k Syn) (let e : p + length xs + (i - length xs) ≡ p + i = omega arith in e)
  ];
}

pub happens_good : (w : World) (e : Event) → Good w → Good (happens w e)
happens_good w (Write bytes) good = cond_both w.closed _ _ Good (λ shut. good) (λ still. grown_good w (w.written ++ bytes) w.closed good (grows_write w.written bytes w.closed still))
happens_good w Close good = grown_good w w.written true good (grows_close w.written w.closed)
happens_good w (Send offset count) good =
    cond_both (nat_lt (length (stream w.written w.closed)) (w.acked + offset)) _ _ Good (λ past. good)
    (λ within. sends_good w (w.acked + offset) _ good (part_cut (stream w.written w.closed) (w.acked + offset) count (test_false _ _ within)))
happens_good w (Segment_comes which room) good = segment_good w room (slice_get w.segments which) good (λ x is. each_get _ w.segments which x good.segments is)
happens_good w (Resegment place count) good = resegments_good w place count good
happens_good w Answer good = cond_both w.receiver.is_open _ _ Good answers (λ shut. good)
  where
    answers : w.receiver.is_open ≡ true → Good (record w { acks = record { place = length w.receiver.got; number = w.receiver.next } ∷ w.acks })
    answers is_open = record {
      got = good.got;
      knows = good.knows;
      counted = good.counted;
      behind = good.behind;
      flight = good.flight;
      within = good.within;
      segments = good.segments;
      acks = (record { place = omega arith; number = good.knows.0 is_open }, good.acks);
    }
happens_good w (Ack_comes which) good = ack_good w (slice_get w.acks which) good (λ a is. each_get _ w.acks which a good.acks is)

pub run_good : (events : List Event) (w : World) → Good w → Good (run events w)
run_good [] w good = good
run_good (e ∷ events) w good = run_good events (happens w e) (happens_good w e good)

pub run_delivers : (initial : ℕ) (events : List Event) → Delivers (run events (start initial))
run_delivers initial events = good_delivers (run events (start initial)) (run_good events (start initial) (good_start initial))
