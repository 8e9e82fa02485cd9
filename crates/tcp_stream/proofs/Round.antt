-- A round without loss.
use Rattle.std.proofs.Common.{◌≡◌, ◌⊎◌, ℕ, ◌+◌, ◌-◌, ◌≤◌, ◌<◌, List, [], ◌∷◌, true, false, length, take, drop, max, sym, ◌∙◌, ap, subst, arith, length-append, length-take, length-drop, nat_lt}
use Rattle.std.proofs.lemmas.Bool.{cond_both, cond-true, cond-false, cases_lt}
use Rattle.std.proofs.lemmas.Bool.Decides.{nat_tests}
use mathlib.Core.Logic.{inl, inr}
use Rattle.tcp_stream.specs.Endpoint.{Item, Receiver, distance, fresh, accepted, received, newly}
use Rattle.tcp_stream.specs.Network.{World, Event, Send, Segment_comes, Answer, Ack_comes, stream, number_at, is_alive, happens, run, start, round}
use Rattle.tcp_stream.proofs.Numbers.{distance_after}
use Rattle.tcp_stream.proofs.Kept.{Good, good_start, happens_good, run_good, fresh_from}

true_test : (a b : ℕ) → a < b → nat_lt a b ≡ true
true_test a b lt = grind (arith, nat_tests)

false_test : (a b : ℕ) → b ≤ a → nat_lt a b ≡ false
false_test a b le = grind (arith, nat_tests)

-- an acknowledgement that comes says all
pub answered : (w : World) → Good w → w.receiver.is_open ≡ true → (run (Answer ∷ Ack_comes 0 ∷ []) w).acked ≡ length w.receiver.got
answered w good is_open =
    let answer : happens w Answer ≡ record w { acks = record { place = length w.receiver.got; number = w.receiver.next } ∷ w.acks } = cond-true w.receiver.is_open _ _ is_open in
    let alive : is_alive w.acked (length w.receiver.got) ≡ true = true_test _ _ (omega (arith, good.counted)) in
    ap (λ (v : World). (happens v (Ack_comes 0)).acked) answer
    ∙ ap (λ (v : World). v.acked) (cond-true (is_alive w.acked (length w.receiver.got)) _ _ alive)
    ∙ ap (λ (n : ℕ). w.acked + newly (number_at w.initial w.acked) (w.sent - w.acked) n) (good.knows.0 is_open)
    ∙ all
  where
    all : w.acked + newly (number_at w.initial w.acked) (w.sent - w.acked) (number_at w.initial (length w.receiver.got)) ≡ length w.receiver.got
    all =
        let d : distance (number_at w.initial (length w.receiver.got)) (number_at w.initial w.acked) ≡ length w.receiver.got - w.acked = distance_after w.initial (length w.receiver.got) w.acked good.counted (omega (arith, good.behind, good.flight)) in
        let near : nat_lt (w.sent - w.acked) (distance (number_at w.initial (length w.receiver.got)) (number_at w.initial w.acked)) ≡ false = false_test _ _ (omega (arith, good.behind)) in
        ap (λ (n : ℕ). w.acked + n) (cond-false _ _ _ near ∙ d) ∙ (let e : w.acked + (length w.receiver.got - w.acked) ≡ length w.receiver.got = omega (arith, good.counted) in e)

-- what the sender sends comes
pub record Came (w v : World) : Type 0 where
  pub good : Good v
  pub is_open : v.receiver.is_open ≡ true
  pub more : w.acked < length v.receiver.got

pub brought : (w : World) (count room : ℕ) → Good w → w.receiver.is_open ≡ true → w.acked < length (stream w.written w.closed) → 0 < count → count ≤ 2147483648 → (0 < room) ⊎ (w.acked < length w.receiver.got)
    → Came w (happens (happens w (Send 0 count)) (Segment_comes 0 room))
brought w count room good is_open less some most space =
    subst (λ (v : World). Came w (happens v (Segment_comes 0 room))) (sym sent) (record { good = happens_good out (Segment_comes 0 room) out_good; is_open = still; more = more })
  where
    place : ℕ
    place = w.acked + 0

    items : List Item
    items = take count (drop (w.acked + 0) (stream w.written w.closed))

    out : World
    out = record w { sent = max w.sent (place + length items); segments = record { place = place; number = number_at w.initial place; items = items } ∷ w.segments }

    sent : happens w (Send 0 count) ≡ out
    sent =
        cond-false (nat_lt (length (stream w.written w.closed)) (w.acked + 0)) _ _ (false_test _ _ (omega arith))
        ∙ cond-false (nat_lt (w.acked + 2147483648) (w.acked + 0 + length (take count (drop (w.acked + 0) (stream w.written w.closed))))) _ _ (false_test _ _ (omega (arith, length-take count (drop (w.acked + 0) (stream w.written w.closed)))))

    taken : received w.receiver (number_at w.initial (w.acked + 0)) (take count (drop (w.acked + 0) (stream w.written w.closed))) room ≡ accepted w.receiver.next w.receiver.got (fresh w.receiver.next (number_at w.initial (w.acked + 0)) (take count (drop (w.acked + 0) (stream w.written w.closed))) room)
    taken = cond-true w.receiver.is_open _ _ is_open

    out_good : Good out
    out_good = subst Good sent (happens_good w (Send 0 count) good)

    still : (happens out (Segment_comes 0 room)).receiver.is_open ≡ true
    still = cond_both (is_alive (length w.receiver.got) place) _ _ (λ (v : World). v.receiver.is_open ≡ true) (λ alive. ap (λ (r : Receiver). r.is_open) taken) (λ dead. is_open)

    longer : w.acked < length w.receiver.got → w.acked < length (received w.receiver (number_at w.initial (w.acked + 0)) (take count (drop (w.acked + 0) (stream w.written w.closed))) room).got
    longer ahead = subst (λ (r : Receiver). w.acked < length r.got) (sym taken) (omega (arith, length-append w.receiver.got (fresh w.receiver.next (number_at w.initial (w.acked + 0)) (take count (drop (w.acked + 0) (stream w.written w.closed))) room)))

    grown : length w.receiver.got ≤ w.acked → w.acked < length (received w.receiver (number_at w.initial (w.acked + 0)) (take count (drop (w.acked + 0) (stream w.written w.closed))) room).got
    grown level =
        let cut = take count (drop (w.acked + 0) (stream w.written w.closed)) in
        let d : distance w.receiver.next (number_at w.initial (w.acked + 0)) ≡ length w.receiver.got - (w.acked + 0) =
        ap (λ (n : ℕ). distance n (number_at w.initial (w.acked + 0))) (good.knows.0 is_open) ∙ distance_after w.initial (length w.receiver.got) (w.acked + 0) (omega (arith, good.counted)) (omega arith) in
        let is : fresh w.receiver.next (number_at w.initial (w.acked + 0)) cut room ≡ take room (drop (length w.receiver.got - (w.acked + 0)) cut) = fresh_from _ _ cut room (length w.receiver.got - (w.acked + 0)) d (omega arith) in
        let space_here : 0 < room = elim space [ inl some ↦ some | inr ahead ↦ absurd (omega arith) ] in
        let long : 0 < length (take room (drop (length w.receiver.got - (w.acked + 0)) cut)) =
        omega (arith, length-take room (drop (length w.receiver.got - (w.acked + 0)) cut), length-drop (length w.receiver.got - (w.acked + 0)) cut, length-take count (drop (w.acked + 0) (stream w.written w.closed)), length-drop (w.acked + 0) (stream w.written w.closed)) in
        subst (λ (r : Receiver). w.acked < length r.got) (sym taken) (omega (arith, length-append w.receiver.got (fresh w.receiver.next (number_at w.initial (w.acked + 0)) cut room), ap length is, long, good.counted))

    more : w.acked < length (happens out (Segment_comes 0 room)).receiver.got
    more = elim (cases_lt w.acked (length w.receiver.got)) [
      | inl ahead ↦ cond_both (is_alive (length w.receiver.got) (w.acked + 0)) _ _ (λ (v : World). w.acked < length v.receiver.got) (λ alive. longer ahead) (λ dead. ahead)
      | inr level ↦
          let alive : is_alive (length w.receiver.got) (w.acked + 0) ≡ true = true_test _ _ (omega arith) in
          subst (λ (v : World). w.acked < length v.receiver.got) (sym (cond-true (is_alive (length w.receiver.got) (w.acked + 0)) _ _ alive)) (grown level)
    ]

pub goes_further : (w : World) (count room : ℕ) → Good w → w.receiver.is_open ≡ true → w.acked < length (stream w.written w.closed) → 0 < count → count ≤ 2147483648 → (0 < room) ⊎ (w.acked < length w.receiver.got) → w.acked < (run (round count room) w).acked
goes_further w count room good is_open less some most space =
    let came = brought w count room good is_open less some most space in
    let e : (run (round count room) w).acked ≡ length (happens (happens w (Send 0 count)) (Segment_comes 0 room)).receiver.got = answered _ came.good came.is_open in
    subst (λ (n : ℕ). w.acked < n) (sym e) came.more

pub goes_on : (initial count room : ℕ) (events : List Event) → let w : World = run events (start initial) in w.receiver.is_open ≡ true → w.acked < length (stream w.written w.closed) → 0 < count → count ≤ 2147483648 → (0 < room) ⊎ (w.acked < length w.receiver.got) → w.acked < (run (round count room) w).acked
goes_on initial count room events = goes_further (run events (start initial)) count room (run_good events (start initial) (good_start initial))
