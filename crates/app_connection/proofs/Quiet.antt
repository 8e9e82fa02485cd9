-- An acknowledgement that comes next is neither before RCV.NXT nor of something not yet sent.
use Rattle.std.proofs.Common.{◌≡◌, refl, sym, ◌∙◌, ap, subst, ℕ, zero, suc, ◌+◌, ◌-◌, ◌≤◌, ◌<◌, List, [], ◌∷◌, Bool, true, false, length, arith, nat_lt}
use Rattle.std.specs.Prelude.{◌&&◌, ◌==◌, not, Option, Some, None, slice_get, if◌then◌else◌}
use Rattle.std.proofs.lemmas.Bool.{false≢true, cond_both}
use Rattle.std.proofs.lemmas.Bool.Decides.{nat_tests}
use Rattle.tcp_stream.specs.Endpoint.{distance, is_earlier}
use Rattle.tcp_stream.specs.Network.{World, Segment, Ack, Event, Write, Close, Send, Segment_comes, Resegment, Answer, Ack_comes, number_at, segment_comes, resegments, ack_comes, happens, run}
use Rattle.tcp_stream.proofs.Kept.{Good}
use Rattle.tcp_stream.proofs.Numbers.{distance_after}
use Rattle.tcp_stream.proofs.Standing.{reached_good}
use Rattle.tcp_stream.specs.Stands.{Stands}
use Rattle.tcp_stream.specs.Waits.{Waits}
use Rattle.app_connection.specs.Sequence.{is_taken_at}
use Rattle.app_connection.specs.Endpoints.{one, next_of, acknowledgement_of, is_of_unsent, answers_bare}
use Rattle.app_connection.specs.Worlds.{Stand, ComesNext}
use Rattle.app_connection.specs.declared.connection.Connection.{Connection}

-- no event changes the initial number or takes back what was sent
record Later (w v : World) : Type 0 where
  initial : v.initial ≡ w.initial
  sent : w.sent ≤ v.sent

same : (w : World) → Later w w
same w = record { initial = refl; sent = omega arith }

both : (b : Bool) (w u v : World) → Later w u → Later w v → Later w (if b then u else v)
both b w u v one other = cond_both b u v (Later w) (λ is. one) (λ is. other)

later_comes : (w : World) (room : ℕ) (s : Option Segment) → Later w (segment_comes w room s)
later_comes w room None = same w
later_comes w room (Some s) = both _ w _ w (record { initial = refl; sent = omega arith }) (same w)

later_resegments : (w : World) (place count : ℕ) → Later w (resegments w place count)
later_resegments w place count = both (nat_lt w.sent (place + count)) w w _ (same w) (record { initial = refl; sent = omega arith })

later_ack : (w : World) (a : Option Ack) → Later w (ack_comes w a)
later_ack w None = same w
later_ack w (Some a) = both _ w _ w (record { initial = refl; sent = omega arith }) (same w)

later : (w : World) (e : Event) → Later w (happens w e)
later w (Write bytes) = both w.closed w w _ (same w) (record { initial = refl; sent = omega arith })
later w Close = record { initial = refl; sent = omega arith }
later w (Send offset count) = both _ w w _ (same w) (both _ w w _ (same w) (record { initial = refl; sent = omega arith }))
later w (Segment_comes which room) = later_comes w room (slice_get w.segments which)
later w (Resegment place count) = later_resegments w place count
later w Answer = both w.receiver.is_open w _ w (record { initial = refl; sent = omega arith }) (same w)
later w (Ack_comes which) = later_ack w (slice_get w.acks which)

later_run : (es : List Event) (w : World) → Later w (run es w)
later_run [] w = same w
later_run (e ∷ es) w =
    let one = later w e in
    let rest = later_run es (happens w e) in
    record { initial = rest.initial ∙ one.initial; sent = omega (arith, one.sent, rest.sent) }

-- a number that is at most 2^31 after another one is not before it
not_earlier : (i a b : ℕ) → b ≤ a → a ≤ b + 2147483648 → is_earlier (number_at i a) (number_at i b) ≡ false
not_earlier i a b le near = grind (arith, nat_tests)

not_earlier_as : (i a b x y : ℕ) → x ≡ number_at i a → y ≡ number_at i b → b ≤ a → a ≤ b + 2147483648 → is_earlier x y ≡ false
not_earlier_as i a b x y is same le near = subst (λ (n : ℕ). is_earlier n y ≡ false) (sym is) (subst (λ (n : ℕ). is_earlier (number_at i a) n ≡ false) (sym same) (not_earlier i a b le near))

-- SND.NXT
next_sent : (w : World) (c : Connection) (outgoing : List ℕ) → Waits w c.sending outgoing → next_of c ≡ number_at w.initial w.sent
next_sent w c outgoing waits = omega (arith, waits.una, waits.flight)

-- RCV.NXT
next_got : (w : World) (consumed : List ℕ) (c : Connection) (incoming : List ℕ) → Stands w consumed c.receiving incoming → c.receiving.is_open ≡ true → c.receiving.next ≡ number_at w.initial (length w.receiver.got)
next_got w consumed c incoming stands opened =
    let good = reached_good w stands.reached in
    stands.holds.next opened ∙ good.knows.0 (stands.holds.is_open ∙ opened)

and_false : (a b : Bool) → (a ≡ true → b ≡ false) → (a && b) ≡ false
and_false true b is = is refl
and_false false b is = refl

-- a segment of no number is taken up to one past the window
taken_bare : (next window number len d : ℕ) → len ≡ 0 → distance number next ≡ d → d < window + 2 → is_taken_at next window number len ≡ true
taken_bare next window number zero d none is lt = let t : nat_lt (distance number next) (window + 2) ≡ true = grind (arith, nat_tests) in t
taken_bare next window number (suc n) d none is lt = absurd (omega arith)

-- an acknowledgement if the endpoint has one
of_unsent : (opened : Bool) (c : Connection) (next : ℕ) → (opened ≡ true → is_earlier (next_of c) next ≡ false) → is_of_unsent c (if opened then Some next else None) ≡ false
of_unsent true c next is = is refl
of_unsent false c next is = refl

module _ (there back : World) (sent received : List Event) (consumed read : List ℕ) (s r : Connection) (o i p j : List ℕ) (sender : Stand there back consumed s o i)
    (receiver : Stand (run received back) (run sent there) read r p j) (comes : ComesNext there back sent received)
  where
    u : World
    u = run sent there

    v : World
    v = run received back

    later_there : Later there (run sent there)
    later_there = later_run sent there

    later_back : Later back (run received back)
    later_back = later_run received back

    good_there : Good (run sent there)
    good_there = reached_good (run sent there) receiver.stands.reached

    good_back : Good back
    good_back = reached_good back sender.stands.reached

    at_next : next_of s ≡ number_at there.initial there.sent
    at_next = next_sent there s o sender.waits

    at_got : r.receiving.is_open ≡ true → r.receiving.next ≡ number_at there.initial (length (run sent there).receiver.got)
    at_got opened = next_got (run sent there) read r j receiver.stands opened ∙ ap (λ (n : ℕ). number_at n (length (run sent there).receiver.got)) later_there.initial

    early : r.receiving.is_open ≡ true → is_earlier (next_of s) r.receiving.next ≡ false
    early opened = not_earlier_as there.initial there.sent (length (run sent there).receiver.got) (next_of s) r.receiving.next at_next (at_got opened) comes.first (omega (arith, later_there.sent, good_there.flight, good_there.counted))

    acked : s.receiving.is_open ≡ true → is_earlier (next_of r) s.receiving.next ≡ false
    acked opened =
        not_earlier_as back.initial (run received back).sent (length back.receiver.got) (next_of r) s.receiving.next
        (next_sent (run received back) r p receiver.waits ∙ ap (λ (n : ℕ). number_at n (run received back).sent) later_back.initial)
        (next_got back consumed s i sender.stands opened)
        (omega (arith, good_back.behind, later_back.sent)) comes.alive

    pub unsent : is_of_unsent r (acknowledgement_of s).ack ≡ false
    unsent = of_unsent s.receiving.is_open r s.receiving.next acked

    pub quiet : (window : ℕ) → answers_bare r window (acknowledgement_of s).number (acknowledgement_of s).ack ≡ false
    quiet window =
        and_false r.receiving.is_open _ (λ opened. cond_both (is_taken_at r.receiving.next window (next_of s) 0) _ _ (λ (b : Bool). b ≡ false) (λ taken. unsent) (λ other. early opened))

    pub taken : (window len : ℕ) → r.receiving.is_open ≡ true → there.sent ≤ length (run sent there).receiver.got + window + 1 → len ≡ 0 → is_taken_at r.receiving.next window (acknowledgement_of s).number len ≡ true
    taken window len opened few none =
        taken_bare r.receiving.next window (next_of s) len (there.sent - length (run sent there).receiver.got) none
        (ap (λ (n : ℕ). distance n r.receiving.next) at_next ∙ ap (λ (n : ℕ). distance (number_at there.initial there.sent) n) (at_got opened)
        ∙ distance_after there.initial there.sent (length (run sent there).receiver.got) comes.first (omega (arith, later_there.sent, good_there.flight, good_there.counted)))
        (omega arith)

-- a segment without text, SYN and FIN
pub no_len : (syn : Bool) (n : ℕ) → syn ≡ false → n ≡ 0 → n + one syn + one false ≡ 0
no_len false n no_syn none = omega (arith, none)
no_len true n no_syn none = absurd (false≢true (sym no_syn))

-- the same without RST
pub bare : (syn rst : Bool) (n : ℕ) → syn ≡ false → rst ≡ false → n ≡ 0 → (not rst && (n + one syn + one false == 0)) ≡ true
bare false false zero no_syn no_rst none = refl
bare syn true n no_syn no_rst none = absurd (false≢true (sym no_rst))
bare true false n no_syn no_rst none = absurd (false≢true (sym no_syn))
bare false false (suc n) no_syn no_rst none = absurd (omega arith)
