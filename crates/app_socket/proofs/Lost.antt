-- What goes again, and when.
use Rattle.std.proofs.Common.{◌≡◌, inl, inr, refl, ◌∙◌, sym, ap, subst, ℕ, ◌+◌, ◌≤◌, ◌<◌, List, [], ◌∷◌, Bool, true, false, ◌*◌, length, take, drop, get_or, max, arith, nat_lt}
use Rattle.std.specs.Prelude.{Option, Some, None, IfSome, MatchOption, is_some, nat_le, ◌-◌, ◌^◌, ◌&&◌, ◌||◌, not, if◌then◌else◌, slice_get}
use Rattle.std.proofs.Math.Nat.{div-mul-le_self, zero-div, zero-mul}
use Rattle.std.proofs.lemmas.Bool.{cond_both}
use Rattle.std.proofs.lemmas.Bool.Decides.{nat_tests}
use Rattle.tcp_stream.specs.Endpoint.{Syn}
use Rattle.tcp_stream.specs.Network.{World, Segment as Packet, Ack, Event, Write, Close, Send, Segment_comes, Resegment, Answer, Ack_comes, ack_comes, happens, number_at, run, sends, start, stream}
use Rattle.tcp_stream.proofs.Kept.{GoodSegment, each_get}
use Rattle.tcp_stream.proofs.Parts.{IsPart}
use Rattle.tcp_stream.proofs.Streams.{syn_first}
use Rattle.tcp_stream.proofs.Standing.{reached_good}
use Rattle.tcp_stream.specs.Stands.{IsReached}
use Rattle.tcp_stream.specs.declared.sending.Sending.{Sending}
use Rattle.app_connection.specs.declared.connection.Connection.{Connection}
use Rattle.app_connection.specs.declared.segment.Reply.{Reply}
use Rattle.app_connection.specs.declared.segment.Segment.{Segment}
use Rattle.app_connection.specs.declared.state.Phase.{Phase}
use Rattle.app_connection.specs.declared.state.Phase.TheVariants as phase
use Rattle.app_connection.specs.declared.step.Event.TheVariants as move
use Rattle.app_connection.specs.Endpoints.{endpoint_in, endpoint_of, spoken}
use Rattle.app_connection.specs.SetUp.{Endpoint, In_closed, In_listen, In_syn_sent, In_syn_received, In_established}
use Rattle.app_connection.specs.States.{has_peer, state_at, state_from, state_in}
use Rattle.app_connection.specs.Steps.{Dials, Steps, first}
use Rattle.app_connection.specs.Worlds.{IsOut, OfSender, Said}
use Rattle.app_connection.proofs.Going.{same_phase}
use Rattle.app_socket.specs.declared.socket.Socket.{Socket}
use Rattle.app_socket.specs.Losses.{GoesAt}
use Rattle.app_socket.specs.Promises.{ResendsSyn}
use Rattle.app_socket.specs.Resends.{Connects, IsArmed, SendsFirst, is_due}
use Rattle.app_socket.specs.Times.{is_open, later}
use Rattle.app_socket.specs.Window.{is_update_due, promised, read_as}

-- ---- timers

le_true : (a b : ℕ) → a ≤ b → nat_le a b ≡ true
le_true a b le = grind (arith, nat_tests)

pub due_at : (o : Option ℕ) (at now : ℕ) → o ≡ Some at → at ≤ now → is_due o now ≡ true
due_at o at now is le = subst (λ (x : Option ℕ). is_due x now ≡ true) (sym is) (le_true at now le)

-- ---- a SYN

-- the number of a SYN in the network
syn_number : (w : World) (n : ℕ) → IsReached w → IsOut w n (Syn ∷ []) → n ≡ number_at w.initial 0
syn_number w n reached out =
    let s = stream w.written w.closed in
    let g = each_get (GoodSegment w.initial w.sent s) w.segments out.which out.segment (reached_good w reached).segments out.there in
    let part : IsPart s out.segment.place (Syn ∷ []) = subst (IsPart s out.segment.place) out.brings g.part in
    let is : Syn ≡ get_or s out.segment.place Syn = part.same 0 (omega arith) ∙ ap (λ (k : ℕ). get_or s k Syn) (let e : out.segment.place + 0 ≡ out.segment.place = omega arith in e) in
    let place : out.segment.place ≡ 0 = syn_first w.written w.closed out.segment.place (omega (arith, part.within)) is in
    sym out.same ∙ g.number ∙ ap (number_at w.initial) place

-- no event of a sender changes the initial number
acked_initial : (w : World) (a : Option Ack) → (ack_comes w a).initial ≡ w.initial
acked_initial w None = refl
acked_initial w (Some a) = cond_both _ _ w (λ (v : World). v.initial ≡ w.initial) (λ is. refl) (λ is. refl)

sent_initial : (w : World) (offset count : ℕ) → (happens w (Send offset count)).initial ≡ w.initial
sent_initial w offset count =
    let place = w.acked + offset in
    let items = take count (drop place (stream w.written w.closed)) in
    let same : (x : Bool) (v : World) → v.initial ≡ w.initial → (if x then w else v).initial ≡ w.initial = λ x v is. cond_both x w v (λ (u : World). u.initial ≡ w.initial) (λ yes. refl) (λ no. is) in
    let one : Packet = record { place = place; number = number_at w.initial place; items = items } in
    let more : World = record w { sent = max w.sent (place + length items); segments = one ∷ w.segments } in
    same (nat_lt (length (stream w.written w.closed)) place) (sends w place items)
    (same (nat_lt (w.acked + 2147483648) (place + length items)) more refl)

same_initial : (es : List Event) (w : World) → OfSender es → (run es w).initial ≡ w.initial
same_initial [] w own = refl
same_initial (Send offset count ∷ es) w own = same_initial es (happens w (Send offset count)) own ∙ sent_initial w offset count
same_initial (Ack_comes which ∷ es) w own = same_initial es (happens w (Ack_comes which)) own ∙ acked_initial w (slice_get w.acks which)
same_initial (Write bytes ∷ es) w own = absurd own
same_initial (Close ∷ es) w own = absurd own
same_initial (Segment_comes which room ∷ es) w own = absurd own
same_initial (Resegment place count ∷ es) w own = absurd own
same_initial (Answer ∷ es) w own = absurd own

-- an active open keeps its number
dialed : (iss : ℕ) (c : Connection) (outgoing incoming : List ℕ) (o : Option Said) → iss < 4294967296 → Dials iss c outgoing incoming o → c.iss ≡ iss
dialed iss c outgoing incoming o small d =
    let g = d.goes (start 0) (record { reached = record { initial = 0; events = []; is = refl }; shut = refl; empty = refl }) in
    let acks = g.went.acks in
    let number = syn_number (run acks (first iss)) c.iss (record { initial = iss; events = Send 0 1 ∷ acks; is = refl }) (g.went.stand.sent d.state).0 in
    let same : (run acks (first iss)).initial ≡ iss = same_initial acks (first iss) g.went.of_sender in
    omega (arith, number, same, small)

abbrev number_of : Endpoint → ℕ
number_of In_closed = 0
number_of In_listen = 0
number_of (In_syn_sent iss) = iss
number_of (In_syn_received passive iss irs) = iss
number_of (In_established iss irs) = iss

number_in : (c : Connection) → c.phase ≡ phase.SynSent → number_of (endpoint_of c) ≡ c.iss
number_in c at = ap (λ (p : Phase). number_of (endpoint_in p c.is_passive c.iss c.irs)) at

-- the same set-up has the same number
same_number : (c d : Connection) → endpoint_of d ≡ endpoint_of c → c.phase ≡ phase.SynSent → d.phase ≡ phase.SynSent → d.iss ≡ c.iss
same_number c d same at at2 = sym (number_in d at2) ∙ ap number_of same ∙ number_in c at

-- in SYN-SENT there is a peer, and no connection is open
has_sent : (c : Connection) → c.phase ≡ phase.SynSent → has_peer (state_from c) ≡ true
has_sent c at = ap (λ (p : Phase). has_peer (state_in p (state_at c.sending.is_closed (not c.sending.has_fin) c.receiving.has_fin c.is_peer_first))) at

not_open : (c : Connection) → c.phase ≡ phase.SynSent → is_open (state_from c) ≡ false
not_open c at = ap (λ (p : Phase). is_open (state_in p (state_at c.sending.is_closed (not c.sending.has_fin) c.receiving.has_fin c.is_peer_first))) at

-- what is said of a SYN with this number
abbrev syn_of : ℕ → Option Reply
syn_of number = Some (record { number = number; ack = None; syn = true; rst = false })

-- after an active open the timer expires twice
pub record GoesTwice (new : Socket) (now iss : ℕ) (one two : Option Segment) : Type 0 where
  pub once : spoken one ≡ syn_of iss
  pub twice : spoken two ≡ syn_of iss
  pub next : new.timers.resend_at ≡ Some (now + 7000)

pub goes_twice : (old a b new : Socket) (outgoing before after : List ℕ) (now iss : ℕ) (o : Option Said) (one two : Option Segment) → iss < 4294967296 → now + 180000 < 18446744073709551616 → has_peer (state_from old.connection) ≡ false
    → Steps old.connection a.connection outgoing before after (move.Open iss) o → Connects a now → ResendsSyn a b (now + 1000) one → ResendsSyn b new (now + 3000) two → GoesTwice new now iss one two
goes_twice old a b new outgoing before after now iss o one two small clock none steps connects first second =
    let has = steps.active iss refl none in
    let dials = steps.opens none has in
    let is : a.connection.iss ≡ iss = dialed iss a.connection outgoing after o small dials in
    let s = first has (not_open a.connection dials.state) (omega (arith, connects.patience, clock)) (due_at a.timers.resend_at (later now 1000) (now + 1000) connects.timer (omega arith)) in
    let at : b.connection.phase ≡ phase.SynSent = same_phase a.connection b.connection s.stays ∙ dials.state in
    let t =
    second (has_sent b.connection at) (not_open b.connection at) (omega (arith, s.patience, connects.patience, clock))
    (due_at b.timers.resend_at (later (now + 1000) b.flow.rto.timeout) (now + 3000) s.timer (omega (arith, s.backs_off.timeout, connects.timeout)))
    in
    let time : later (now + 3000) new.flow.rto.timeout ≡ now + 7000 = omega (arith, t.backs_off.timeout, s.backs_off.timeout, connects.timeout, clock) in
    record {
      once = s.syn dials.state ∙ ap syn_of is;
      twice = t.syn at ∙ ap syn_of (same_number a.connection b.connection s.stays dials.state at ∙ is);
      next = t.timer ∙ ap Some time;
    }

-- ---- segments

-- what goes first is at SND.UNA
pub goes_first : (old new : Sending) (outgoing : List ℕ) (o : Option Segment) → SendsFirst old new outgoing o → GoesAt o old.una
goes_first old new outgoing None sends = sends
goes_first old new outgoing (Some s) sends = (sends.number, sends.some)

-- the timer runs for a minute at most
pub armed_anew : (o : Option ℕ) (now : ℕ) → IsArmed None o now → MatchOption o ⊥ (λ t. t ≤ later now 60000)
armed_anew None now armed = armed
armed_anew (Some t) now armed = elim armed [ inl is ↦ absurd (cc) | inr le ↦ le ]

-- a segment goes, and these are its acknowledgement and its window
pub goes_with : (o : Option Segment) (ack mid : Option ℕ) (room : ℕ) → is_some o ≡ true → IfSome o (λ s. s.ack ≡ mid) → mid ≡ ack → IfSome o (λ s. s.window ≡ room) → MatchOption o ⊥ (λ s. (s.ack ≡ ack) × (s.window ≡ room))
goes_with None ack mid room some acks same tells = absurd (cc)
goes_with (Some s) ack mid room some acks same tells = (acks ∙ same, tells)

-- of a window that was closed all the room is news, as far as the peer reads it
both : (a b : Bool) → a ≡ true → b ≡ true → (a && b) ≡ true
both true b is is2 = is2
both false b is is2 = absurd (cc)

either : (a b : Bool) → a ≡ true → (a || b) ≡ true
either true b is = refl
either false b is = absurd (cc)

not_below : (a b : ℕ) → b ≤ a → not (nat_lt a b) ≡ true
not_below a b le = grind (arith, nat_tests)

below : (a b : ℕ) → a < b → nat_lt a b ≡ true
below a b less = grind (arith, nat_tests)

news : (room least read none : ℕ) → none ≡ 0 → 0 < least → least ≤ read → read ≤ room
    → (not (nat_lt room 0) && (not (nat_lt (room - 0) least) && (not (nat_lt (read - none) least) && (nat_lt none least || not (nat_lt (room - 0) 0))))) ≡ true
news room least read none is some much within =
    both _ _ (not_below room 0 (omega arith))
    (both _ _ (not_below (room - 0) least (omega (arith, much, within)))
    (both _ _ (not_below (read - none) least (omega (arith, much, is))) (either _ _ (below none least (omega (arith, is, some))))))

zero_read : (shift : ℕ) → read_as 0 shift ≡ 0
zero_read shift = ap (λ (n : ℕ). n * 2 ^ shift) (zero-div (2 ^ shift)) ∙ zero-mul (2 ^ shift)

pub all_news : (edge next room least shift : ℕ) → promised edge next ≡ 0 → 0 < least → least ≤ read_as room shift → is_update_due edge next room least shift ≡ true
all_news edge next room least shift closed some much =
    subst (λ (n : ℕ). (not (nat_lt room n) && (not (nat_lt (room - n) least) && (not (nat_lt (read_as room shift - read_as n shift) least) && (nat_lt (read_as n shift) least || not (nat_lt (room - n) n))))) ≡ true) (sym closed)
    (news room least (read_as room shift) (read_as 0 shift) (zero_read shift) some much (div-mul-le_self room (2 ^ shift)))

-- the same between equals
pub le_between : (a b c d : ℕ) → a ≡ b → d ≡ c → b ≤ c → a ≤ d
le_between a b c d is same le = omega (arith, is, same, le)
