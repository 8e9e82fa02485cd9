-- The segment at SND.UNA goes, and its acknowledgement comes back.
use Rattle.std.proofs.Common.{◌≡◌, sym, ◌∙◌, ap, subst, ℕ, ◌+◌, ◌<◌, List, true, false, length, max, arith, Bor}
use Rattle.std.specs.Prelude.{Option, None, Some, option_map}
use Rattle.tcp_stream.specs.Waits.{count_of}
use Rattle.app_connection.specs.declared.connection.Connection.{Connection}
use Rattle.app_connection.specs.declared.segment.Segment.{Segment}
use Rattle.app_connection.specs.declared.step.Event.TheVariants as move
use Rattle.app_connection.specs.Endpoints.{OutFits}
use Rattle.app_connection.specs.Promises.{ChangesOnlyNext}
use Rattle.app_connection.specs.Runs.{IsFrom}
use Rattle.app_connection.specs.States.{has_peer, state_from}
use Rattle.app_connection.specs.Steps.{Steps}
use Rattle.app_connection.specs.Worlds.{said}
use Rattle.app_connection.proofs.Delivery.{runs_pair}
use Rattle.app_connection.proofs.Pair.{Pair}
use Rattle.app_options.specs.Timestamps.{takes}
use Rattle.app_options.specs.declared.agreed.Agreed.{Agreed}
use Rattle.wire_tcp_options.specs.declared.tcp.summary.TcpOptionSummary.{TcpOptionSummary}
use Rattle.app_socket.specs.declared.socket.Socket.{Socket}
use Rattle.app_socket.specs.declared.step.Event.TheVariants as event
use Rattle.app_socket.specs.Promises.{AcknowledgesInTime, Continues, HearsTimestamp, LearnsFrom, ResendsInTime, SendsStream, StaysOpen}
use Rattle.app_socket.specs.Resends.{Acknowledges, GoesFirst, Resends, SendsFirst, scaled_by}
use Rattle.app_socket.specs.Rounds.{AcknowledgesItems, GoesFurther, StillWaits}
use Rattle.app_socket.specs.Runs.{End, Ends, Runs, end_of, ends_of, here}
use Rattle.app_socket.specs.Segments.{StaysOrUpdates, rejects}
use Rattle.app_socket.proofs.Delivery.{runs_of}
use Rattle.app_socket.proofs.ManyRounds.{Learned, acknowledges_scaled, further, learned, still_then, ticked, timer_due}
use Rattle.app_socket.proofs.Arriving.{or_left}
use Rattle.app_socket.proofs.Opened.{open_has_peer}
use Rattle.app_socket.proofs.Rounds.{none_rejected}
use Rattle.app_socket.proofs.Stepping.{choice_false, steps_by}
use Rattle.app_socket.specs.declared.laws.pair.Exchange.{Exchange}
use Rattle.app_socket.specs.Answered.{Answered, AtUna, IsSet}
use Rattle.app_socket.specs.Pair.{Exchanged, MaySend, Past, end_at, past_after}
use Rattle.app_socket.proofs.Answering.{from_last, is_set}
use Rattle.app_socket.proofs.Calling.{ack_some, arrive_call, no_syn, stands_for, tick_call}

-- both ends of a run, this one first
pub pair_here : (a b : End) → Runs (record { here = a; there = b }) → Pair (end_of a) (end_of b)
pair_here a b run = let p : Ends = record { here = a; there = b } in runs_pair (ends_of p) (runs_of p run)

-- after the first call
pub record Once (s0 s1 : Socket) (out i1 : List ℕ) (r : Exchange) : Type 0 where
  pub one : StillWaits s0 s1 out i1 (max r.first (r.first + 60000)) (r.second + 1)
  pub only : ChangesOnlyNext s0.connection s1.connection
  pub some : 0 < count_of s1.connection.sending
  pub in_time : r.second < s1.timers.ends_at
  pub sends : (s2 : Socket) (q : Option Segment) → ResendsInTime s1 s2 out r.second q → SendsFirst s1.connection.sending s2.connection.sending out q

pub once : (s0 s1 : Socket) (out i0 i1 : List ℕ) (h : Past) (b : End) (r : Exchange) (o : Option Segment) → Runs (record { here = end_at s0 out i0 h; there = b }) → MaySend s0 r
    → Continues s0 s1 out i0 i1 r.first event.Tick o → ResendsInTime s0 s1 out r.first o → Once s0 s1 out i1 r
once s0 s1 out i0 i1 h b r o run may steps1 resends1 =
    let a = end_at s0 out i0 h in
    let p = pair_here a b run in
    let re = resends1 may.waiting.opened (omega (arith, may.waiting.patient, may.minute)) in
    let one = ticked s0 s1 out i0 i1 r.first r.first (r.second + 1) o steps1 re may.some may.waiting (stands_for (end_of a) (end_of b) p (is_set s0 out i0 h b p may.waiting.opened may.waiting.synced)) in
    let some : 0 < count_of s1.connection.sending = omega (arith, may.some, one.count) in
    let in_time : r.second < s1.timers.ends_at = omega (arith, one.waiting.patient) in
    record {
      one = one;
      only = re.only;
      some = some;
      in_time = in_time;
      sends = λ s2 q resends2.
          (resends2 one.waiting.opened in_time).expires some (timer_due s1.timers.resend_at (max r.first (r.first + 60000)) r.second one.waiting.timer (omega (arith, may.minute)))
          (re.probed may.some (timer_due s0.timers.resend_at r.first r.first may.waiting.timer (omega arith)));
    }

-- after the second call
pub record Sent (old new : Socket) (out incoming : List ℕ) (h : Past) (b : End) (sent : Segment) (by end : ℕ) : Type 0 where
  pub runs : Runs (record { here = end_at new out incoming h; there = b })
  pub set : IsSet (end_of (end_at new out incoming h))
  pub at : AtUna (end_of (end_at new out incoming h)) sent
  pub from : IsFrom h.sent (length h.wrote) (length b.wrote) (said sent)
  pub some : 0 < count_of new.connection.sending
  pub una : new.connection.sending.una ≡ old.connection.sending.una
  pub still : StillWaits old new out incoming by end

pub sent_twice : (s0 s1 s2 : Socket) (out i0 i1 i2 : List ℕ) (h : Past) (b : End) (r : Exchange) (o : Option Segment) (sent : Segment) → Runs (record { here = end_at s0 out i0 h; there = b }) → MaySend s0 r → Once s0 s1 out i1 r
    → OutFits s1.connection.sending (length out) → OutFits s2.connection.sending (length out) → Continues s0 s1 out i0 i1 r.first event.Tick o
    → Continues s1 s2 out i1 i2 r.second event.Tick (Some sent) → ResendsInTime s1 s2 out r.second (Some sent) → AcknowledgesInTime s1 (length i1) r.second (Some sent) → SendsStream s1 out (Some sent)
    → Sent s0 s2 out i2 (past_after (past_after h b s1 (option_map said o)) b s2 (Some (said sent))) b sent (max (max r.first (r.first + 60000)) (r.second + 60000)) (r.second + 1)
sent_twice s0 s1 s2 out i0 i1 i2 h b r o sent run may first fits1 fits2 steps1 steps2 resends2 acknowledges2 stream2 = record {
  runs = run2;
  set = is_set s2 out i2 h2 b (pair_here (end_at s2 out i2 h2) b run2) still.waiting.opened still.waiting.synced;
  at = record {
    number = sends.number ∙ sym (ap (λ (c : Connection). c.sending.una) rb.only);
    some = sends.some;
    rst = ack.rst;
    syn = no_syn first.one.stands.there s1.connection.sending out sent (ap (λ (c : Connection). c.sending.has_syn) first.only ∙ may.syn) first.one.stands.stand.waits
        (stream2 first.one.waiting.opened sends.some first.one.stands.there first.one.stands.stand.waits);
    ack = ack.ack ∙ ack_some s1.connection first.one.waiting.synced ∙ ap Some (sym (ap (λ (c : Connection). c.receiving.next) rb.only));
  };
  from = from_last (said sent) h1 (length h.wrote) (length b.wrote);
  some = omega (arith, may.some, still.count);
  una = ap (λ (c : Connection). c.sending.una) rb.only ∙ ap (λ (c : Connection). c.sending.una) first.only;
  still = still;
}
  where
    h1 : Past
    h1 = past_after h b s1 (option_map said o)

    h2 : Past
    h2 = past_after h1 b s2 (Some (said sent))

    rb : Resends s1 s2 out r.second (Some sent)
    rb = resends2 first.one.waiting.opened first.in_time

    sends : GoesFirst s1.connection.sending s2.connection.sending out sent
    sends = first.sends s2 (Some sent) resends2

    two : StillWaits s1 s2 out i2 (max (max r.first (r.first + 60000)) (r.second + 60000)) (r.second + 1)
    two = ticked s1 s2 out i1 i2 r.second (max r.first (r.first + 60000)) (r.second + 1) (Some sent) steps2 rb first.some first.one.waiting first.one.stands

    still : StillWaits s0 s2 out i2 (max (max r.first (r.first + 60000)) (r.second + 60000)) (r.second + 1)
    still = still_then s0 s1 s2 out i1 i2 (max r.first (r.first + 60000)) (max (max r.first (r.first + 60000)) (r.second + 60000)) (r.second + 1) first.one two

    ack : Acknowledges s1 (length i1) r.second (Some sent)
    ack = acknowledges2 first.one.waiting.opened first.in_time

    run1 : Runs (record { here = end_at s1 out i1 h1; there = b })
    run1 = here (record { here = end_at s0 out i0 h; there = b }) (end_at s1 out i1 h1) run (tick_call s0 s1 out i0 i1 h b r.first (option_map said o) (open_has_peer s0.connection may.waiting.opened) fits1 steps1)

    run2 : Runs (record { here = end_at s2 out i2 h2; there = b })
    run2 = here (record { here = end_at s1 out i1 h1; there = b }) (end_at s2 out i2 h2) run1 (tick_call s1 s2 out i1 i2 h1 b r.second (Some (said sent)) (open_has_peer s1.connection first.one.waiting.opened) fits2 steps2)

abbrev number_or : ℕ → Option ℕ → ℕ
number_or other None = other
number_or other (Some n) = n

some_same : (n m : ℕ) → Some n ≡ Some m → n ≡ m
some_same n m is = ap (number_or 0) is

-- the acknowledgement comes back
pub comes_back : (s0 s2 s3 was new : Socket) (out i2 i3 answers after : List ℕ) (h h2 t : Past) (r : Exchange) (by end : ℕ) (s : Segment) (y : Bor Segment) (options : Bor TcpOptionSummary) (o : Option Segment) → h2.wrote ≡ h.wrote → h2.read ≡ h.read → h2.was_opened ≡ true
    → takes s0.agreed.recent r.answer.options.timestamp r.answered ≡ true → s2.connection.sending.una ≡ s0.connection.sending.una → StillWaits s0 s2 out i2 by end → Answered (end_at s2 out i2 h2) was new answers after t r s → y.now ≡ record s { window = y.now.window } → options.now ≡ r.answer.options
    → OutFits s2.connection.sending (length out) → OutFits s3.connection.sending (length out)
    → Continues s2 s3 out i2 i3 r.answered (event.Arrives y options 0) o → StaysOpen s2 s3 (event.Arrives y options 0) → LearnsFrom s2 s3 out (length i2) r.answered (event.Arrives y options 0) → HearsTimestamp (event.Arrives y options 0) s2 s3 r.answered
    → Exchanged s0 s3 was new out i3 answers after h t r
comes_back s0 s2 s3 was new out i2 i3 answers after h h2 t r by end s y options o wrote read was_open taken una still answered is same fits2 fits3 continues stays learns hears = record {
  past = past_after h2 b s3 (option_map said o);
  past_there = answered.past;
  runs = here (record { here = end_at s2 out i2 h2; there = b }) (end_at s3 out i3 (past_after h2 b s3 (option_map said o))) answered.runs
      (arrive_call s2 s3 out i2 i3 h2 b r.answered 0 y options (option_map said o) (open_has_peer s2.connection still.waiting.opened) rejected from fits3 continues);
  wrote = wrote;
  read = read;
  wrote_there = answered.wrote;
  read_there = answered.read;
  less = omega (arith, g.less, still.count);
  was_opened = or_left h2.was_opened (has_peer (state_from s3.connection)) was_open;
  waiting = g.waiting;
  syn = λ rest. (known rest).syn;
  level = λ rest. some_same _ _ (sym (known rest).ack ∙ ap (λ (x : Segment). x.ack) is ∙ answered.next);
  recent =
      subst (λ (x : TcpOptionSummary). StaysOrUpdates s0.agreed.recent s3.agreed.recent x.timestamp r.answered) same
      (subst (λ (g : Agreed). StaysOrUpdates g.recent s3.agreed.recent options.now.timestamp r.answered) still.agreed (hears still.waiting.opened));
  opened = answered.opened;
  synced = answered.synced;
  idle = answered.idle;
  writes = answered.writes;
  recent_there = answered.recent;
  lasts = answered.lasts;
  lives = λ level. answered.lives (una ∙ level);
}
  where
    b : End
    b = end_at new answers after answered.past

    rejected : rejects s2 r.answered y.now options.now ≡ false
    rejected = none_rejected _ _ _ (ap (λ (g : Agreed). takes g.recent options.now.timestamp r.answered) still.agreed ∙ ap (λ (x : TcpOptionSummary). takes s0.agreed.recent x.timestamp r.answered) same ∙ taken)

    acks : AcknowledgesItems s2.connection y.now answered.taken
    acks =
        subst (λ (x : Segment). AcknowledgesItems s2.connection x answered.taken) (sym is)
        (record { number = answered.acks.number; ack = answered.acks.ack; rst = answered.acks.rst; bare = answered.acks.bare; some = answered.acks.some; few = answered.acks.few })

    steps : Steps s2.connection s3.connection out i2 i3 (move.Arrives y 0) (option_map said o)
    steps = steps_by s2.connection s3.connection out i2 i3 _ (move.Arrives y 0) _ (sym (choice_false _ (move.Send 0 0) (move.Arrives y 0) rejected)) continues

    g : GoesFurther s2 s3 out i3 r.answered
    g = further s2 s3 out i2 i3 (length i2) r.answered by end answered.taken 0 y options.now.timestamp (option_map said o) fits2 fits3 still.waiting acks (stays still.waiting.opened acks.rst) steps (λ opened. learns still.waiting.opened opened rejected) still.stands

    -- what is learned if something still waits
    known : 0 < count_of s3.connection.sending → Learned s2 s3 (scaled_by s2.agreed y.now) answered.taken
    known = λ rest.
        learned still.stands.there s2 s3 out (length i2) r.answered answered.taken (scaled_by s2.agreed y.now) options.now.timestamp fits2 fits3 still.stands.stand.waits still.waiting.synced (acknowledges_scaled s2.connection s2.agreed y.now answered.taken acks)
        (learns still.waiting.opened (g.waiting rest).opened rejected)

    from : IsFrom answered.past.sent (length answered.past.wrote) (length h2.wrote) (said y.now)
    from = subst (λ (x : Segment). IsFrom answered.past.sent (length answered.past.wrote) (length h2.wrote) (said x)) (sym is) answered.from
