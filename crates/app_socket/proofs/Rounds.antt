-- A round of a socket is one of the model.
use Rattle.std.proofs.Common.{◌≡◌, inl, inr, refl, ◌∙◌, sym, ap, subst, ℕ, ◌+◌, ◌%◌, ◌≤◌, ◌<◌, List, [], ◌∷◌, Bool, true, false, length, map, take, arith, length-append, length-take, nat_lt}
use Rattle.std.specs.Prelude.{Option, Some, None, IfSome, ◌==◌, ◌&&◌, not, slice_get}
use Rattle.std.proofs.lemmas.Bool.{cond-true, cases_lt}
use Rattle.std.proofs.lemmas.Bool.Decides.{nat_tests}
use Rattle.std.proofs.lemmas.List.{length-map}
use Rattle.tcp_stream.specs.Endpoint.{Item, Byte, Fin, distance, is_earlier}
use Rattle.tcp_stream.specs.Network.{Ack, World, Event, Send, Segment_comes, Answer, end_of, happens, number_at, run, start, stream}
use Rattle.tcp_stream.proofs.Kept.{Good, good_start, run_good}
use Rattle.tcp_stream.proofs.Numbers.{distance_after, distance_before, number_more}
use Rattle.tcp_stream.proofs.Round.{Came, brought, goes_on}
use Rattle.tcp_stream.specs.Items.{items_of, syn_of}
use Rattle.tcp_stream.specs.Ring.{ring}
use Rattle.tcp_stream.specs.Waits.{AckComes, Waits, count_of, rest_of}
use Rattle.tcp_stream.specs.declared.sending.Sending.{Sending}
use Rattle.tcp_stream.proofs.GoesOn.{answer_acked, answer_sender, pending_some, segment_sender, true_test}
use Rattle.app_connection.specs.declared.connection.Connection.{Connection}
use Rattle.app_connection.specs.declared.segment.Segment.{Segment}
use Rattle.app_connection.specs.Endpoints.{is_of_unsent, next_of, one}
use Rattle.app_connection.specs.Sequence.{is_of_sent, is_taken_at}
use Rattle.app_connection.specs.Worlds.{HearsAck}
use Rattle.app_connection.proofs.Going.{ack_of}
use Rattle.app_socket.specs.Resends.{ComesAcross, GoesRound, SendsFirst}

-- something is held that is not acknowledged
pub count_some : (w : World) (c : Sending) (b : List ℕ) → Waits w c b → w.acked < length (stream w.written w.closed) → 0 < count_of c
count_some w c b waits less =
    let bytes = take c.len (ring c.start b) in
    omega (arith, pending_some w c b waits less, length-append (syn_of c.has_syn) (rest_of c b), length-append (map Byte bytes) (end_of c.has_fin), length-map bytes Byte, length-take c.len (ring c.start b))

-- SEG.LEN counts the items
pub items_len : (syn fin : Bool) (payload : List ℕ) → length (items_of syn payload fin) ≡ length payload + one syn + one fin
items_len true true payload = omega (arith, length-append (map Byte payload) (Fin ∷ []), length-map payload Byte)
items_len true false payload = let none : List Item = [] in omega (arith, length-append (map Byte payload) none, length-map payload Byte)
items_len false true payload = omega (arith, length-append (map Byte payload) (Fin ∷ []), length-map payload Byte)
items_len false false payload = let none : List Item = [] in omega (arith, length-append (map Byte payload) none, length-map payload Byte)

one_small : (b : Bool) → one b ≤ 1
one_small true = omega arith
one_small false = omega arith

-- what went first
pub record Went (old new : Sending) (outgoing : List ℕ) : Type 0 where
  pub count : ℕ
  pub some : 0 < count
  pub most : count ≤ 2147483648
  pub waits : (w : World) → Waits w old outgoing → Waits (happens w (Send 0 count)) new outgoing

pub went : (old new : Sending) (outgoing : List ℕ) (o : Option Segment) → SendsFirst old new outgoing o → length outgoing < 1073741824 → Went old new outgoing
went old new outgoing None sends small = absurd sends
went old new outgoing (Some s) sends small = record {
  count = length (items_of s.syn s.payload.now s.fin);
  some = omega (arith, sends.some, items_len s.syn s.fin s.payload.now);
  most = omega (arith, sends.inner, items_len s.syn s.fin s.payload.now, one_small s.syn, one_small s.fin);
  waits = sends.waits;
}

pub across : (initial room : ℕ) (events : List Event) (old new : Sending) (outgoing : List ℕ) (o : Option Segment) → SendsFirst old new outgoing o → length outgoing < 1073741824
    → let w : World = run events (start initial) in Waits w old outgoing → w.acked < length (stream w.written w.closed) → w.receiver.is_open ≡ true → 0 < room → ComesAcross w new outgoing room
across initial room events old new outgoing o sends small waits less opened space =
    let out = went old new outgoing o sends small in
    record {
      count = out.count;
      some = out.some;
      waits = out.waits (run events (start initial)) waits;
      more = goes_on initial out.count room events opened less out.some out.most (inl space);
    }

pub false_test : (a b : ℕ) → b ≤ a → nat_lt a b ≡ false
false_test a b le = grind (arith, nat_tests)

same_test : (n : ℕ) → (n == n) ≡ true
same_test n = grind (arith, nat_tests)

and_false : (b : Bool) → (b && false) ≡ false
and_false true = refl
and_false false = refl

-- what was received is between SND.UNA and SND.NXT
pub of_sent : (i acked got sent : ℕ) → acked ≤ got → got ≤ sent → sent ≤ acked + 2147483648 → is_of_sent (number_at i acked) (number_at i sent) (number_at i got) ≡ true
of_sent i acked got sent first last near =
    ap not (false_test (distance (number_at i sent) (number_at i acked)) (distance (number_at i got) (number_at i acked))
    (omega (arith, distance_after i sent acked (omega arith) (omega arith), distance_after i got acked (omega arith) (omega arith))))

pub not_after : (i got sent : ℕ) → got ≤ sent → sent ≤ got + 2147483648 → is_earlier (number_at i sent) (number_at i got) ≡ false
not_after i got sent last near = elim (cases_lt got sent) [
  | inl less ↦
      let far : nat_lt (distance (number_at i got) (number_at i sent)) 2147483648 ≡ false = false_test _ _ (omega (arith, distance_before i got sent less (omega arith))) in
      ap (λ (b : Bool). not (number_at i sent == number_at i got) && b) far ∙ and_false (not (number_at i sent == number_at i got))
  | inr level ↦
      let same : got ≡ sent = omega arith in
      let equal : (number_at i sent == number_at i got) ≡ true = subst (λ (n : ℕ). (number_at i sent == number_at i n) ≡ true) (sym same) (same_test (number_at i sent)) in
      ap (λ (b : Bool). not b && nat_lt (distance (number_at i got) (number_at i sent)) 2147483648) equal
]

pub round_of : (initial room : ℕ) (events : List Event) (old mid new : Connection) (outgoing : List ℕ) (o : Option Segment) (ack : Option ℕ) → SendsFirst old.sending mid.sending outgoing o → length outgoing < 1073741824
    → let w : World = run events (start initial) in Waits w old.sending outgoing → w.acked < length (stream w.written w.closed) → w.receiver.is_open ≡ true → 0 < room
    → (is_of_unsent mid ack ≡ false → IfSome ack (λ a. is_of_sent mid.sending.una (next_of mid) a ≡ true → HearsAck mid.sending new.sending outgoing a))
    → GoesRound w new.sending outgoing room ack
round_of initial room events old mid new outgoing o ack sends small waits less opened space hears = record {
  count = out.count;
  some = out.some;
  more = goes_on initial out.count room events opened less out.some out.most (inl space);
  waits = λ is.
      let sent : is_of_unsent mid ack ≡ false = subst (λ (x : Option ℕ). is_of_unsent mid x ≡ false) (sym is) unsent in
      (ack_of (λ a. is_of_sent mid.sending.una (next_of mid) a ≡ true → HearsAck mid.sending new.sending outgoing a) ack w2.receiver.next is (hears sent) between).waits w3 0 comes waits3;
}
  where
    w : World
    w = run events (start initial)

    good : Good w
    good = run_good events (start initial) (good_start initial)

    out : Went old.sending mid.sending outgoing
    out = went old.sending mid.sending outgoing o sends small

    w1 : World
    w1 = happens w (Send 0 out.count)

    w2 : World
    w2 = happens w1 (Segment_comes 0 room)

    w3 : World
    w3 = happens w2 Answer

    came : Came w w2
    came = brought w out.count room good opened less out.some out.most (inl space)

    waits2 : Waits w2 mid.sending outgoing
    waits2 = segment_sender w1 room (slice_get w1.segments 0) mid.sending outgoing (out.waits w waits)

    waits3 : Waits w3 mid.sending outgoing
    waits3 = answer_sender w2 mid.sending outgoing waits2

    got : ℕ
    got = length w2.receiver.got

    number : w2.receiver.next ≡ number_at w2.initial got
    number = came.good.knows.0 came.is_open

    last : next_of mid ≡ number_at w2.initial w2.sent
    last =
        ap (λ (n : ℕ). (n + mid.sending.flight) % 4294967296) waits2.una
        ∙ number_more w2.initial w2.acked mid.sending.flight
        ∙ ap (λ (n : ℕ). number_at w2.initial n) (let e : w2.acked + mid.sending.flight ≡ w2.sent = omega (arith, waits2.flight) in e)

    unsent : is_of_unsent mid (Some w2.receiver.next) ≡ false
    unsent =
        ap (λ (n : ℕ). is_earlier n w2.receiver.next) last
        ∙ ap (λ (n : ℕ). is_earlier (number_at w2.initial w2.sent) n) number
        ∙ not_after w2.initial got w2.sent came.good.behind (omega (arith, came.good.flight, came.good.counted))

    between : is_of_sent mid.sending.una (next_of mid) w2.receiver.next ≡ true
    between =
        ap (λ (n : ℕ). is_of_sent n (next_of mid) w2.receiver.next) waits2.una
        ∙ ap (λ (n : ℕ). is_of_sent (number_at w2.initial w2.acked) n w2.receiver.next) last
        ∙ ap (λ (n : ℕ). is_of_sent (number_at w2.initial w2.acked) (number_at w2.initial w2.sent) n) number
        ∙ of_sent w2.initial w2.acked got w2.sent came.good.counted came.good.behind came.good.flight

    said : w3.acks ≡ record { place = got; number = w2.receiver.next } ∷ w2.acks
    said = ap (λ (v : World). v.acks) (cond-true w2.receiver.is_open _ _ came.is_open)

    comes : AckComes w3 0 w2.receiver.next
    comes = record {
      ack = record { place = got; number = w2.receiver.next };
      there = ap (λ (l : List Ack). slice_get l 0) said;
      same = refl;
      alive = true_test _ _ (omega (arith, answer_acked w2, came.good.counted));
    }

pub no_flag : (b : Bool) → one b ≡ 0 → b ≡ false
no_flag true is = absurd (omega (arith, is))
no_flag false is = refl

-- a bare acknowledgement at RCV.NXT is taken
taken_at : (next window : ℕ) → is_taken_at next window next 0 ≡ true
taken_at next window = true_test (distance next next) (window + 2) (omega arith)

pub bare_taken : (next window number len : ℕ) → number ≡ next → len ≡ 0 → is_taken_at next window number len ≡ true
bare_taken next window number len same none =
    subst (λ (n : ℕ). is_taken_at next window number n ≡ true) (sym none) (subst (λ (n : ℕ). is_taken_at next window n 0 ≡ true) (sym same) (taken_at next window))

-- a segment whose timestamp is taken is not rejected
pub none_rejected : (a b t : Bool) → t ≡ true → (a && (b && not t)) ≡ false
none_rejected true true true is = refl
none_rejected true false true is = refl
none_rejected false true true is = refl
none_rejected false false true is = refl
none_rejected a b false is = absurd (cc)
