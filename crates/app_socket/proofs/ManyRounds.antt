-- Many rounds of a socket.
use Rattle.std.proofs.Common.{◌≡◌, ◌⊎◌, inl, inr, refl, ◌∙◌, sym, ap, subst, ℕ, ◌+◌, ◌-◌, ◌%◌, ◌≤◌, ◌<◌, List, [], ◌∷◌, Bool, true, false, length, map, take, drop, max, min, arith, length-append, length-take, length-drop, nat_lt, get_or, Bor}
use Rattle.std.specs.Prelude.{Option, Some, None, IfSome, MatchOption, is_some, if◌then◌else◌, nat_le, not, option_map}
use Rattle.std.proofs.lemmas.Bool.{cases_lt, cond-true, cond-false}
use Rattle.std.proofs.lemmas.Bool.Decides.{nat_tests}
use Rattle.std.proofs.lemmas.List.{at_drop_more, length-map, length-take-le}
use Rattle.tcp_stream.specs.Endpoint.{Byte, distance, is_earlier, newly}
use Rattle.tcp_stream.specs.Network.{World, Send, Ack_comes, end_of, happens, is_alive, number_at, run, sends, stream}
use Rattle.tcp_stream.proofs.Numbers.{distance_after, number_more}
use Rattle.tcp_stream.specs.Items.{syn_of}
use Rattle.app_options.specs.declared.agreed.Agreed.{Agreed}
use Rattle.tcp_stream.specs.Ring.{ring}
use Rattle.tcp_stream.specs.Stands.{room_of}
use Rattle.tcp_stream.specs.Waits.{AckComes, Waits, count_of, pending, rest_of, unsent_of}
use Rattle.tcp_stream.specs.declared.sending.Sending.{Sending}
use Rattle.tcp_stream.proofs.Pending.{short_end}
use Rattle.tcp_stream.proofs.Places.{length-ring}
use Rattle.tcp_stream.proofs.GoesOn.{true_test}
use Rattle.app_connection.specs.declared.connection.Connection.{Connection}
use Rattle.app_connection.specs.declared.segment.Segment.{Segment}
use Rattle.app_connection.specs.declared.state.Phase.{Phase}
use Rattle.app_connection.specs.declared.state.Phase.TheVariants as phase
use Rattle.app_connection.specs.declared.state.State.{State}
use Rattle.app_connection.specs.declared.state.State.TheVariants as state
use Rattle.app_connection.specs.declared.step.Event.TheVariants as move
use Rattle.app_connection.specs.Endpoints.{OutFits, endpoint_of, is_of_unsent, len_of, next_of}
use Rattle.app_connection.specs.Sequence.{is_of_sent}
use Rattle.app_connection.specs.States.{has_peer, state_at, state_from, state_in}
use Rattle.app_connection.specs.Steps.{Steps}
use Rattle.app_connection.specs.Worlds.{Brings, HearsAck, Said, Stand, said}
use Rattle.app_connection.proofs.Arrived.{all_acked}
use Rattle.app_connection.proofs.Going.{ack_of, same_phase}
use Rattle.app_connection.proofs.Telling.{done}
use Rattle.app_socket.specs.declared.socket.Socket.{Socket}
use Rattle.app_socket.specs.Probes.{timer_of}
use Rattle.app_socket.specs.Resends.{IsArmed, Learns, Resends, SendsFirst, is_due, newly_in, scaled_by}
use Rattle.app_socket.specs.Rounds.{AcknowledgesItems, AreBefore, AreRounds, GoesFurther, IsAllAcknowledged, IsRound, IsWaiting, StandsFor, StillWaits, expires_by}
use Rattle.app_socket.specs.declared.laws.Round.{Round}
use Rattle.app_socket.specs.Times.{is_open, later, resend_or_probe}
use Rattle.app_socket.proofs.Opened.{open_has_peer, open_phase}
use Rattle.app_socket.proofs.Rounds.{bare_taken, false_test, no_flag, not_after, of_sent, went}
use Rattle.app_socket.proofs.StaysOpen.{open_run}
use Rattle.app_socket.proofs.Stepping.{no_len}
use Rattle.app_socket.proofs.Syn.{syn_gone}

-- ---- how many items wait

-- the items that are held
count_is : (c : Sending) (b : List ℕ) → c.start < length b → c.len ≤ length b → length (pending c b) ≡ count_of c
count_is c b start len =
    let bytes = take c.len (ring c.start b) in
    let long : length bytes ≡ c.len = length-take-le c.len (ring c.start b) (omega (arith, length-ring c.start b (omega arith))) in
    omega (arith, long, length-append (syn_of c.has_syn) (rest_of c b), length-append (map Byte bytes) (end_of c.has_fin), length-map bytes Byte)

-- those that are not acknowledged
pub counted : (w : World) (c : Sending) (b : List ℕ) → OutFits c (length b) → Waits w c b → w.acked + count_of c ≡ length (stream w.written w.closed)
counted w c b fits waits =
    let left : length (stream w.written w.closed) - w.acked ≡ length (pending c b) = sym (length-drop w.acked (stream w.written w.closed)) ∙ ap length waits.held in
    omega (arith, left, count_is c b fits.start fits.len, waits.within, waits.flight)

pub all_done : (s : Sending) (outgoing : List ℕ) → count_of s ≡ 0 → IsAllAcknowledged s outgoing
all_done s outgoing nothing = record { none = nothing; done = λ there waits. all_acked there s outgoing waits nothing }

syn_few : (b : Bool) → length (syn_of b) ≤ 1
syn_few true = omega arith
syn_few false = omega arith

-- what is in flight waits, and is at most a ring
pub flight_few : (w : World) (c : Sending) (b : List ℕ) → OutFits c (length b) → Waits w c b → (c.flight ≤ count_of c) × (c.flight ≤ 2147483648)
flight_few w c b fits waits =
    let all = counted w c b fits waits in
    (omega (arith, all, waits.flight, waits.within), omega (arith, all, waits.flight, waits.within, fits.len, fits.small, syn_few c.has_syn, short_end c.has_fin))

-- something is in flight after something went
pub in_flight : (w : World) (c : Sending) (b : List ℕ) (n : ℕ) → 0 < n → n ≤ 2147483648 → w.acked < length (stream w.written w.closed) → Waits (happens w (Send 0 n)) c b → 0 < c.flight
in_flight w c b n some most less waits =
    let place : ℕ = w.acked + 0 in
    let rest = drop (w.acked + 0) (stream w.written w.closed) in
    let items = take n rest in
    let few : length items ≤ n = omega (arith, length-take n rest) in
    let out : World = record w { sent = max w.sent (place + length items); segments = record { place = place; number = number_at w.initial place; items = items } ∷ w.segments } in
    let is : happens w (Send 0 n) ≡ out =
    cond-false (nat_lt (length (stream w.written w.closed)) (w.acked + 0)) _ _ (false_test _ _ (omega arith))
    ∙ cond-false (nat_lt (w.acked + 2147483648) (w.acked + 0 + length items)) _ _ (false_test _ _ (omega arith))
    in
    let sent : Waits out c b = subst (λ (v : World). Waits v c b) is waits in
    omega (arith, sent.flight, length-take n rest, length-drop (w.acked + 0) (stream w.written w.closed))

-- ---- the timer

pub le_true : (a b : ℕ) → a ≤ b → nat_le a b ≡ true
le_true a b le = grind (arith, nat_tests)

pub timer_due : (o : Option ℕ) (by now : ℕ) → MatchOption o ⊥ (λ at. at ≤ by) → by ≤ now → is_due o now ≡ true
timer_due None by now timer le = absurd timer
timer_due (Some at) by now timer le = le_true at now (omega (arith, timer))

timer_on : (old new : Option ℕ) (by now : ℕ) → MatchOption old ⊥ (λ at. at ≤ by) → IsArmed old new now → MatchOption new ⊥ (λ at. at ≤ max by (now + 60000))
timer_on old None by now timer armed = absurd armed
timer_on old (Some at) by now timer armed = elim armed [
  | inl same ↦ (let before : at ≤ by = subst (λ (t : Option ℕ). MatchOption t ⊥ (λ (a : ℕ). a ≤ by)) same timer in omega arith)
  | inr soon ↦ omega (arith, soon)
]

still_patient : (o : Option ℕ) (by old new : ℕ) → MatchOption o ⊥ (λ at. at ≤ by) → IfSome o (λ at. new ≡ old) → new ≡ old
still_patient None by old new timer still = absurd timer
still_patient (Some at) by old new timer still = still

-- ---- time passes

stands_tick : (old new : Connection) (outgoing before after : List ℕ) (o : Option Said) → has_peer (state_from old) ≡ true → Steps old new outgoing before after (move.Send 0 0) o → StandsFor old outgoing before → StandsFor new outgoing after
stands_tick old new outgoing before after o has steps s =
    let goes = steps.goes has s.there s.back s.consumed tt s.stand in
    record { there = run goes.went.acks s.there; back = run goes.went.texts s.back; consumed = s.consumed; stand = goes.went.stand }

pub ticked : (old new : Socket) (outgoing before after : List ℕ) (now by end : ℕ) (o : Option Segment) → Steps old.connection new.connection outgoing before after (move.Send 0 0) (option_map said o) → Resends old new outgoing now o
    → 0 < count_of old.connection.sending → IsWaiting old by end → StandsFor old.connection outgoing before → StillWaits old new outgoing after (max by (now + 60000)) end
ticked old new outgoing before after now by end o steps r some waits stands = record {
  waiting = record {
    opened = ap (λ (x : Connection). is_open (state_from x)) r.only ∙ waits.opened;
    synced = ap (λ (x : Connection). x.receiving.is_open) r.only ∙ waits.synced;
    timer = timer_on old.timers.resend_at new.timers.resend_at by now waits.timer (r.armed some);
    patient = omega (arith, waits.patient, still_patient old.timers.resend_at by _ _ waits.timer (r.patience some));
  };
  count = ap (λ (x : Connection). count_of x.sending) r.only;
  agreed = r.agreed;
  stands = stands_tick old.connection new.connection outgoing before after (option_map said o) (open_has_peer old.connection waits.opened) steps stands;
}

pub still_then : (a b c : Socket) (outgoing mid incoming : List ℕ) (by1 by2 end : ℕ) → StillWaits a b outgoing mid by1 end → StillWaits b c outgoing incoming by2 end → StillWaits a c outgoing incoming by2 end
still_then a b c outgoing mid incoming by1 by2 end one two = record { waiting = two.waiting; count = two.count ∙ one.count; agreed = two.agreed ∙ one.agreed; stands = two.stands }

-- ---- the end

-- the own FIN was acknowledged in TIME-WAIT, and where an established connection has ended
ended_at : (closed fin came first : Bool) → (is_open (state_at closed (not fin) came first) ≡ false) ⊎ (state_at closed (not fin) came first ≡ state.TimeWait) → (closed ≡ true) × (fin ≡ false)
ended_at false fin false first (inl shut) = absurd (cc)
ended_at false fin false first (inr is) = absurd (cc)
ended_at false fin true first (inl shut) = absurd (cc)
ended_at false fin true first (inr is) = absurd (cc)
ended_at true true false first (inl shut) = absurd (cc)
ended_at true true false first (inr is) = absurd (cc)
ended_at true false false first (inl shut) = absurd (cc)
ended_at true false false first (inr is) = absurd (cc)
ended_at true true true false (inl shut) = absurd (cc)
ended_at true true true false (inr is) = absurd (cc)
ended_at true true true true (inl shut) = absurd (cc)
ended_at true true true true (inr is) = absurd (cc)
ended_at true false true false (inl shut) = absurd (cc)
ended_at true false true false (inr is) = (refl, refl)
ended_at true false true true (inl shut) = (refl, refl)
ended_at true false true true (inr is) = absurd (cc)

open_state : (p : Phase) (s : State) → p ≡ phase.Open → state_in p s ≡ s
open_state phase.Closed s is = absurd (cc)
open_state phase.Listen s is = absurd (cc)
open_state phase.SynSent s is = absurd (cc)
open_state phase.SynReceived s is = absurd (cc)
open_state phase.Open s is = refl

-- then nothing waits
none_waits : (w : World) (c : Connection) (outgoing : List ℕ) → c.phase ≡ phase.Open → OutFits c.sending (length outgoing) → Waits w c.sending outgoing
    → (is_open (state_from c) ≡ false) ⊎ (state_from c ≡ state.TimeWait) → count_of c.sending ≡ 0
none_waits w c outgoing at fits waits h =
    let s = state_at c.sending.is_closed (not c.sending.has_fin) c.receiving.has_fin c.is_peer_first in
    let ended = ended_at c.sending.is_closed c.sending.has_fin c.receiving.has_fin c.is_peer_first (subst (λ (x : State). (is_open x ≡ false) ⊎ (x ≡ state.TimeWait)) (open_state c.phase s at) h) in
    let all : w.acked ≡ length (stream w.written w.closed) = done w c.sending outgoing waits ended.0 ended.1 in
    omega (arith, all, counted w c.sending outgoing fits waits)

-- ---- the acknowledgement comes

either : (b : Bool) → (b ≡ true) ⊎ (b ≡ false)
either true = inl refl
either false = inr refl

is_wait : (s : State) → (s ≡ state.TimeWait) ⊎ (s ≡ state.TimeWait → ⊥)
is_wait state.Closed = inr (λ is. absurd (cc))
is_wait state.Listen = inr (λ is. absurd (cc))
is_wait state.SynSent = inr (λ is. absurd (cc))
is_wait state.SynReceived = inr (λ is. absurd (cc))
is_wait state.Established = inr (λ is. absurd (cc))
is_wait state.FinWait1 = inr (λ is. absurd (cc))
is_wait state.FinWait2 = inr (λ is. absurd (cc))
is_wait state.CloseWait = inr (λ is. absurd (cc))
is_wait state.Closing = inr (λ is. absurd (cc))
is_wait state.LastAck = inr (λ is. absurd (cc))
is_wait state.TimeWait = inl refl

-- a timer that was started anew
timer_anew : (o : Option ℕ) (at now : ℕ) → o ≡ Some at → IfSome o (λ t. t ≤ later now 60000) → MatchOption o ⊥ (λ t. t ≤ now + 60000)
timer_anew None at now is armed = absurd (cc)
timer_anew (Some t) at now is armed = omega (arith, armed)

-- the history in which the peer sent it
abbrev with_ack : World → ℕ → World
with_ack w taken = record w { acks = record { place = w.acked + taken; number = number_at w.initial (w.acked + taken) } ∷ w.acks }

acked_waits : (w : World) (taken : ℕ) (c : Sending) (b : List ℕ) → Waits w c b → Waits (with_ack w taken) c b
acked_waits w taken c b waits = record { una = waits.una; flight = waits.flight; within = waits.within; closed = waits.closed; still = waits.still; held = waits.held }

acked_comes : (w : World) (taken : ℕ) → AckComes (with_ack w taken) 0 (number_at w.initial (w.acked + taken))
acked_comes w taken = record {
  ack = record { place = w.acked + taken; number = number_at w.initial (w.acked + taken) };
  there = refl;
  same = refl;
  alive = true_test _ _ (omega arith);
}

-- that acknowledgement
number_is : (w : World) (c : Sending) (b : List ℕ) (taken : ℕ) → Waits w c b → (c.una + taken) % 4294967296 ≡ number_at w.initial (w.acked + taken)
number_is w c b taken waits = ap (λ (n : ℕ). (n + taken) % 4294967296) waits.una ∙ number_more w.initial w.acked taken

-- it stands for the histories after that
stands_acked : (old new : Connection) (outgoing before after : List ℕ) (s : Bor Segment) (taken iss : ℕ) (o : Option Said) → old.phase ≡ phase.Open → has_peer (state_from old) ≡ true → old.receiving.is_open ≡ true
    → AcknowledgesItems old s.now taken → Steps old new outgoing before after (move.Arrives s iss) o → StandsFor old outgoing before
    → StandsFor new outgoing after × (new.receiving.is_open ≡ true)
stands_acked old new outgoing before after s taken iss o at has synced a steps stands =
    let w = stands.there in
    let st = stands.stand in
    let there = with_ack w taken in
    let is : s.now.ack ≡ Some (number_at w.initial (w.acked + taken)) = a.ack ∙ ap Some (number_is w old.sending outgoing taken st.waits) in
    let stand : Stand there stands.back stands.consumed old outgoing before = record {
      waits = acked_waits w taken old.sending outgoing st.waits;
      stands = st.stands;
      sent = λ is. absurd (let c : phase.Open ≡ phase.SynSent = sym at ∙ is in cc);
      received = λ is. absurd (let c : phase.Open ≡ phase.SynReceived = sym at ∙ is in cc);
    } in
    let brings : Brings there stands.back (said s.now) = record {
      text = inl (no_len s.now.syn s.now.payload.now s.now.fin a.bare);
      ack = subst (λ (x : Option ℕ). IfSome x (λ number. (which : ℕ) × AckComes there which number)) (sym is) (0, acked_comes w taken);
    } in
    let goes = steps.goes has there stands.back stands.consumed (inr brings) stand in
    let back = run goes.went.texts stands.back in (
      record { there = run goes.went.acks there; back = back; consumed = stands.consumed; stand = goes.went.stand },
      sym goes.went.stand.stands.holds.is_open ∙ open_run goes.went.texts stands.back goes.went.of_receiver (st.stands.holds.is_open ∙ synced),
    )

-- after an acknowledgement was heard so many items less wait, and no SYN
heard_less : (w : World) (old new : Sending) (outgoing : List ℕ) (taken : ℕ) → OutFits old (length outgoing) → OutFits new (length outgoing) → Waits w old outgoing → taken ≤ old.flight
    → HearsAck old new outgoing (number_at w.initial (w.acked + taken)) → (taken + count_of new ≡ count_of old) × (0 < taken → new.has_syn ≡ false)
heard_less w old new outgoing taken fits fits2 waits few hears =
    let there = with_ack w taken in
    let n = number_at w.initial (w.acked + taken) in
    let small = flight_few w old outgoing fits waits in
    let after : Waits (happens there (Ack_comes 0)) new outgoing = hears.waits there 0 (acked_comes w taken) (acked_waits w taken old outgoing waits) in
    let alive : is_alive w.acked (w.acked + taken) ≡ true = true_test _ _ (omega arith) in
    let v : World = record there { acked = w.acked + newly (number_at w.initial w.acked) (w.sent - w.acked) n } in
    let is : happens there (Ack_comes 0) ≡ v = cond-true (is_alive w.acked (w.acked + taken)) v there alive in
    let last : Waits v new outgoing = subst (λ (x : World). Waits x new outgoing) is after in
    let far : distance n (number_at w.initial w.acked) ≡ taken = distance_after w.initial (w.acked + taken) w.acked (omega arith) (omega (arith, few, small.1)) ∙ (let e : w.acked + taken - w.acked ≡ taken = omega arith in e) in
    let within : nat_lt (w.sent - w.acked) (distance n (number_at w.initial w.acked)) ≡ false = false_test _ _ (omega (arith, far, few, waits.flight)) in
    let new_ones : newly (number_at w.initial w.acked) (w.sent - w.acked) n ≡ taken = cond-false (nat_lt (w.sent - w.acked) (distance n (number_at w.initial w.acked))) _ _ within ∙ far in
    (omega (arith, counted w old outgoing fits waits, counted v new outgoing fits2 last, new_ones), λ some. syn_gone v new outgoing last (omega (arith, new_ones, some)))

pub acknowledges_scaled : (c : Connection) (g : Agreed) (s : Segment) (taken : ℕ) → AcknowledgesItems c s taken → AcknowledgesItems c (scaled_by g s) taken
acknowledges_scaled c g s taken a = record { number = a.number; ack = a.ack; rst = a.rst; bare = a.bare; some = a.some; few = a.few }

-- what the socket learns from it
pub record Learned (old new : Socket) (s : Segment) (taken : ℕ) : Type 0 where
  pub less : taken + count_of new.connection.sending ≡ count_of old.connection.sending
  pub newly : newly_in old new ≡ taken
  pub ack : s.ack ≡ Some new.connection.sending.una
  pub syn : new.connection.sending.has_syn ≡ false

pub learned : (w : World) (old new : Socket) (outgoing : List ℕ) (incoming now taken : ℕ) (s : Segment) (t : Option (ℕ × ℕ)) → OutFits old.connection.sending (length outgoing) → OutFits new.connection.sending (length outgoing)
    → Waits w old.connection.sending outgoing → old.connection.receiving.is_open ≡ true → AcknowledgesItems old.connection s taken → Learns old new outgoing incoming now s t
    → Learned old new s taken
learned w old new outgoing incoming now taken s t fits fits2 waits synced a learns =
    let c = old.connection in
    let n = number_at w.initial (w.acked + taken) in
    let is : s.ack ≡ Some n = a.ack ∙ ap Some (number_is w c.sending outgoing taken waits) in
    let small = flight_few w c.sending outgoing fits waits in
    let last : next_of c ≡ number_at w.initial w.sent =
    ap (λ (m : ℕ). (m + c.sending.flight) % 4294967296) waits.una
    ∙ number_more w.initial w.acked c.sending.flight
    ∙ ap (λ (m : ℕ). number_at w.initial m) (let e : w.acked + c.sending.flight ≡ w.sent = omega (arith, waits.flight) in e)
    in
    let unsent : is_of_unsent c s.ack ≡ false =
    subst (λ (x : Option ℕ). is_of_unsent c x ≡ false) (sym is)
    (ap (λ (m : ℕ). is_earlier m n) last ∙ not_after w.initial (w.acked + taken) w.sent (omega (arith, a.few, waits.flight)) (omega (arith, small.1, waits.flight)))
    in
    let between : is_of_sent c.sending.una (next_of c) n ≡ true =
    ap (λ (m : ℕ). is_of_sent m (next_of c) n) waits.una
    ∙ ap (λ (m : ℕ). is_of_sent (number_at w.initial w.acked) m n) last
    ∙ of_sent w.initial w.acked (w.acked + taken) w.sent (omega arith) (omega (arith, a.few, waits.flight)) (omega (arith, small.1, waits.flight))
    in
    let syn : s.syn ≡ false = no_flag s.syn (omega (arith, a.bare)) in
    let here = bare_taken c.receiving.next (room_of c.receiving incoming) s.number (len_of s) a.number a.bare in
    let una : new.connection.sending.una ≡ n =
    ack_of (λ ack. new.connection.sending.una ≡ (if is_of_sent c.sending.una (next_of c) ack then ack else c.sending.una)) s.ack n is (learns.una synced a.rst syn here unsent)
    ∙ cond-true (is_of_sent c.sending.una (next_of c) n) n c.sending.una between
    in
    let hears = ack_of (λ ack. is_of_sent c.sending.una (next_of c) ack ≡ true → HearsAck c.sending new.connection.sending outgoing ack) s.ack n is (learns.hears synced a.rst syn here unsent) between in
    let heard = heard_less w c.sending new.connection.sending outgoing taken fits fits2 waits a.few hears in
    record {
      less = heard.0;
      newly =
          ap (λ (m : ℕ). distance m c.sending.una) una
          ∙ ap (λ (m : ℕ). distance n m) waits.una
          ∙ distance_after w.initial (w.acked + taken) w.acked (omega arith) (omega (arith, a.few, small.1))
          ∙ (let e : w.acked + taken - w.acked ≡ taken = omega arith in e);
      ack = is ∙ ap Some (sym una);
      syn = heard.1 a.some;
    }

-- after it fewer items wait
pub further : (old new : Socket) (outgoing before after : List ℕ) (incoming now by end taken iss : ℕ) (s : Bor Segment) (t : Option (ℕ × ℕ)) (o : Option Said) → OutFits old.connection.sending (length outgoing) → OutFits new.connection.sending (length outgoing)
    → IsWaiting old by end → AcknowledgesItems old.connection s.now taken → endpoint_of new.connection ≡ endpoint_of old.connection → Steps old.connection new.connection outgoing before after (move.Arrives s iss) o
    → (is_open (state_from new.connection) ≡ true → Learns old new outgoing incoming now (scaled_by old.agreed s.now) t) → StandsFor old.connection outgoing before → GoesFurther old new outgoing after now
further old new outgoing before after incoming now by end taken iss s t o fits fits2 waiting a same steps learns stands =
    let at = open_phase old.connection waiting.opened in
    let at2 : new.connection.phase ≡ phase.Open = same_phase old.connection new.connection same ∙ at in
    let came = stands_acked old.connection new.connection outgoing before after s taken iss o at (open_has_peer old.connection waiting.opened) waiting.synced a steps stands in
    let nothing = none_waits came.0.there new.connection outgoing at2 fits2 came.0.stand.waits in
    let some_before : 0 < count_of old.connection.sending = omega (arith, a.some, a.few, (flight_few stands.there old.connection.sending outgoing fits stands.stand.waits).0) in
    elim (either (is_open (state_from new.connection))) [
      | inl opened ↦
          let l = learns opened in
          let is = learned stands.there old new outgoing incoming now taken (scaled_by old.agreed s.now) t fits fits2 stands.stand.waits waiting.synced (acknowledges_scaled old.connection old.agreed s.now taken a) l in
          let some : 0 < newly_in old new = omega (arith, is.newly, a.some) in
          record {
            less = omega (arith, is.less, a.some);
            waiting = λ rest.
                let runs : nat_lt 0 (new.connection.sending.flight + unsent_of new.connection.sending) ≡ true = true_test _ _ (omega (arith, rest)) in
                record {
                  opened = opened;
                  synced = came.1;
                  timer = timer_anew new.timers.resend_at (later now (timer_of new.flow)) now (l.restarts some ∙ cond-true (nat_lt 0 (new.connection.sending.flight + unsent_of new.connection.sending)) _ _ runs) (l.armed some);
                  patient = elim (is_wait (state_from new.connection)) [ inl is ↦ absurd (omega (arith, rest, nothing (inr is))) | inr other ↦ l.lives other some ];
                };
            stands = came.0;
          }
      | inr shut ↦ record { less = omega (arith, some_before, nothing (inl shut)); waiting = λ rest. absurd (omega (arith, rest, nothing (inl shut))); stands = came.0 }
    ]

-- ---- the timer expires twice

-- what went is at SND.UNA
first_number : (o : Option Segment) (old new : Sending) (outgoing : List ℕ) (una : ℕ) → una ≡ old.una → SendsFirst old new outgoing o → MatchOption o ⊥ (λ s. s.number ≡ una)
first_number None old new outgoing una same sends = sends
first_number (Some s) old new outgoing una same sends = sends.number ∙ sym same

-- after the second time
pub record Resent (old new : Socket) (outgoing incoming : List ℕ) (by end : ℕ) (o : Option Segment) : Type 0 where
  pub still : StillWaits old new outgoing incoming by end
  pub first : MatchOption o ⊥ (λ s. s.number ≡ new.connection.sending.una)
  pub flight : 0 < new.connection.sending.flight

pub resent : (a b c : Socket) (outgoing i1 i2 i3 : List ℕ) (first second by end : ℕ) (o p : Option Segment) → OutFits b.connection.sending (length outgoing) → 0 < count_of a.connection.sending → IsWaiting a by end → StandsFor a.connection outgoing i1
    → by ≤ first → first + 60000 ≤ second → second < end
    → Steps a.connection b.connection outgoing i1 i2 (move.Send 0 0) (option_map said o) → (is_open (state_from a.connection) ≡ true → first < a.timers.ends_at → Resends a b outgoing first o)
    → Steps b.connection c.connection outgoing i2 i3 (move.Send 0 0) (option_map said p) → (is_open (state_from b.connection) ≡ true → second < b.timers.ends_at → Resends b c outgoing second p)
    → Resent a c outgoing i3 (max (max by (first + 60000)) (second + 60000)) end p
resent a b c outgoing i1 i2 i3 first second by end o p fits some waiting stands le minute patient steps resends steps2 resends2 =
    let ra = resends waiting.opened (omega (arith, waiting.patient)) in
    let due = timer_due a.timers.resend_at by first waiting.timer le in
    let one = ticked a b outgoing i1 i2 first by end o steps ra some waiting stands in
    let some2 : 0 < count_of b.connection.sending = omega (arith, some, one.count) in
    let rb = resends2 one.waiting.opened (omega (arith, one.waiting.patient)) in
    let due2 = timer_due b.timers.resend_at (max by (first + 60000)) second one.waiting.timer (omega arith) in
    let sends = rb.expires some2 due2 (ra.probed some due) in
    let two = ticked b c outgoing i2 i3 second (max by (first + 60000)) end p steps2 rb some2 one.waiting one.stands in
    let g = went b.connection.sending c.connection.sending outgoing p sends fits.small in
    let w = one.stands.there in
    let waits = one.stands.stand.waits in
    let less : w.acked < length (stream w.written w.closed) = omega (arith, some2, counted w b.connection.sending outgoing fits waits) in
    record {
      still = still_then a b c outgoing i2 i3 (max by (first + 60000)) (max (max by (first + 60000)) (second + 60000)) end one two;
      first = first_number p b.connection.sending c.connection.sending outgoing c.connection.sending.una (ap (λ (x : Connection). x.sending.una) rb.only) sends;
      flight = in_flight w c.connection.sending outgoing g.count g.some g.most less (g.waits w waits);
    }

-- ---- what is lost

at_drop : (xs : List ℕ) (i : ℕ) → i < length xs → drop i xs ≡ get_or xs i 0 ∷ drop (i + 1) xs
at_drop xs i within = at_drop_more (λ (l : List ℕ). l) xs i 0 within

-- so far as these calls are left
pub record Losing (old new : Socket) (outgoing incoming times left : List ℕ) (by end : ℕ) : Type 0 where
  pub until : ℕ
  pub waits : StillWaits old new outgoing incoming until end
  pub same : expires_by until left ≡ expires_by by times
  pub before : AreBefore left end

pub lose_none : (s : Socket) (outgoing incoming times : List ℕ) (by end : ℕ) → IsWaiting s by end → AreBefore times end → StandsFor s.connection outgoing incoming → Losing s s outgoing incoming times (drop 0 times) by end
lose_none s outgoing incoming times by end waiting before stands = record {
  until = by;
  waits = record { waiting = waiting; count = refl; agreed = refl; stands = stands };
  same = refl;
  before = before;
}

pub lose_more : (old mid new : Socket) (outgoing before after times : List ℕ) (i by end : ℕ) (o : Option Segment) → i < length times → 0 < count_of old.connection.sending
    → Steps mid.connection new.connection outgoing before after (move.Send 0 0) (option_map said o)
    → (is_open (state_from mid.connection) ≡ true → get_or times i 0 < mid.timers.ends_at → Resends mid new outgoing (get_or times i 0) o)
    → Losing old mid outgoing before times (drop i times) by end → Losing old new outgoing after times (drop (i + 1) times) by end
lose_more old mid new outgoing before after times i by end o within some steps resends l =
    let time = get_or times i 0 in
    let first : drop i times ≡ time ∷ drop (i + 1) times = at_drop times i within in
    let left : AreBefore (time ∷ drop (i + 1) times) end = subst (λ (ts : List ℕ). AreBefore ts end) first l.before in
    let waits = l.waits.waiting in
    let r = resends waits.opened (omega (arith, left.0, waits.patient)) in
    record {
      until = max l.until (time + 60000);
      waits = still_then old mid new outgoing before after l.until (max l.until (time + 60000)) end l.waits
          (ticked mid new outgoing before after time l.until end o steps r (omega (arith, some, l.waits.count)) waits l.waits.stands);
      same = ap (λ (ts : List ℕ). expires_by l.until ts) (sym first) ∙ l.same;
      before = left.1;
    }

pub lose_all : (old new : Socket) (outgoing incoming times left : List ℕ) (by end : ℕ) → left ≡ [] → Losing old new outgoing incoming times left by end → StillWaits old new outgoing incoming (expires_by by times) end
lose_all old new outgoing incoming times left by end none l =
    subst (λ (n : ℕ). StillWaits old new outgoing incoming n end) (ap (λ (ts : List ℕ). expires_by l.until ts) (sym none) ∙ l.same) l.waits

-- ---- many rounds

-- the rounds that are left
pub record Ahead (s : Socket) (rounds : List Round) : Type 0 where
  pub by : ℕ
  pub end : ℕ
  pub waiting : IsWaiting s by end
  pub are : AreRounds by end rounds

-- after so many rounds
pub record Going (s : Socket) (outgoing incoming : List ℕ) (left : List Round) (index n : ℕ) : Type 0 where
  pub stands : StandsFor s.connection outgoing incoming
  pub few : 0 < count_of s.connection.sending → count_of s.connection.sending + index ≤ n
  pub ahead : 0 < count_of s.connection.sending → Ahead s left

pub timer_self : (o : Option ℕ) (probe : ℕ) → is_some o ≡ true → MatchOption o ⊥ (λ at. at ≤ resend_or_probe o probe)
timer_self None probe is = absurd (cc)
timer_self (Some at) probe is = omega arith

pub going_first : (s : Socket) (outgoing incoming : List ℕ) (rounds : List Round) → is_open (state_from s.connection) ≡ true → s.connection.receiving.is_open ≡ true → is_some s.timers.resend_at ≡ true
    → AreRounds (resend_or_probe s.timers.resend_at s.timers.probe_at) s.timers.ends_at rounds → StandsFor s.connection outgoing incoming → Going s outgoing incoming (drop 0 rounds) 0 (count_of s.connection.sending)
going_first s outgoing incoming rounds opened synced runs are stands = record {
  stands = stands;
  few = λ some. omega arith;
  ahead = λ some. record {
    by = resend_or_probe s.timers.resend_at s.timers.probe_at;
    end = s.timers.ends_at;
    waiting = record { opened = opened; synced = synced; timer = timer_self s.timers.resend_at s.timers.probe_at runs; patient = omega arith };
    are = are;
  };
}

at_drop_round : (rs : List Round) (i : ℕ) (d : Round) → i < length rs → drop i rs ≡ get_or rs i d ∷ drop (i + 1) rs
at_drop_round rs i d within = at_drop_more (λ (l : List Round). l) rs i d within

-- the next round
next_round : (s : Socket) (outgoing incoming : List ℕ) (rounds : List Round) (i n : ℕ) (d : Round) → i < length rounds → 0 < count_of s.connection.sending → Going s outgoing incoming (drop i rounds) i n
    → Ahead s (get_or rounds i d ∷ drop (i + 1) rounds)
next_round s outgoing incoming rounds i n d within some g = subst (λ (rs : List Round). Ahead s rs) (at_drop_round rounds i d within) (g.ahead some)

pub going_more : (s new : Socket) (outgoing before after : List ℕ) (rounds : List Round) (i n : ℕ) (d : Round) (result : Bool) → i < length rounds → 0 < count_of s.connection.sending → result ≡ true
    → ((by end : ℕ) → 0 < count_of s.connection.sending → IsWaiting s by end → IsRound by end (get_or rounds i d) → StandsFor s.connection outgoing before → result ≡ true → GoesFurther s new outgoing after (get_or rounds i d).answered)
    → Going s outgoing before (drop i rounds) i n → Going new outgoing after (drop (i + 1) rounds) (i + 1) n
going_more s new outgoing before after rounds i n d result within some passed goes g =
    let r = get_or rounds i d in
    let a = next_round s outgoing before rounds i n d within some g in
    let f = goes a.by a.end some a.waiting a.are.0 g.stands passed in
    record {
      stands = f.stands;
      few = λ rest. omega (arith, g.few some, f.less);
      ahead = λ rest. record { by = r.answered + 60000; end = later r.answered 300000; waiting = f.waiting rest; are = a.are.1 };
    }

-- it is taken if no timestamps were agreed on
pub round_taken : (s new : Socket) (outgoing incoming : List ℕ) (rounds : List Round) (i n : ℕ) (d : Round) (result : Bool) → i < length rounds → 0 < count_of s.connection.sending
    → ((by end : ℕ) → 0 < count_of s.connection.sending → IsWaiting s by end → IsRound by end (get_or rounds i d) → StandsFor s.connection outgoing incoming → s.agreed.recent ≡ None → (result ≡ true) × (new.agreed.recent ≡ None))
    → Going s outgoing incoming (drop i rounds) i n → s.agreed.recent ≡ None → (result ≡ true) × (new.agreed.recent ≡ None)
round_taken s new outgoing incoming rounds i n d result within some taken g none = let a = next_round s outgoing incoming rounds i n d within some g in taken a.by a.end some a.waiting a.are.0 g.stands none

-- something waits if the socket says so
pub some_waits : (s : Socket) (outgoing incoming : List ℕ) (n : ℕ) → OutFits s.connection.sending (length outgoing) → StandsFor s.connection outgoing incoming
    → n ≡ min 18446744073709551615 (s.connection.sending.flight + unsent_of s.connection.sending) → (n ≡ 0 → ⊥) → 0 < count_of s.connection.sending
some_waits s outgoing incoming n fits stands is some = elim (cases_lt 0 (count_of s.connection.sending)) [
  | inl waits ↦ waits
  | inr none ↦ absurd (some (omega (arith, is, none, (flight_few stands.there s.connection.sending outgoing fits stands.stand.waits).0)))
]

pub none_left : (s : Socket) (n : ℕ) → n ≡ min 18446744073709551615 (s.connection.sending.flight + unsent_of s.connection.sending) → n ≡ 0 → count_of s.connection.sending ≡ 0
none_left s n is none = omega (arith, is, none)

-- after as many rounds as items nothing waits
pub all_went : (s : Socket) (outgoing incoming : List ℕ) (left : List Round) (index n : ℕ) → Going s outgoing incoming left index n → n ≤ index → count_of s.connection.sending ≡ 0
all_went s outgoing incoming left index n g le = elim (cases_lt 0 (count_of s.connection.sending)) [
  | inl some ↦ absurd (omega (arith, g.few some, some, le))
  | inr none ↦ omega (arith, none)
]
