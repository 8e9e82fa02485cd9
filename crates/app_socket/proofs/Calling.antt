-- Calls of both sockets, one after the other.
use Rattle.std.proofs.Common.{◌≡◌, ◌⊎◌, inl, inr, refl, sym, ◌∙◌, ap, subst, ℕ, ◌+◌, ◌%◌, ◌<◌, List, [], ◌∷◌, ◌++◌, Bool, true, false, length, take, drop, nat_lt, arith, length-take, length-drop, Bor}
use Rattle.std.specs.Prelude.{Option, Some, None, is_some, ◌==◌, ◌&&◌, not}
use Rattle.std.proofs.lemmas.Bool.{cases_lt, cond_both, cond-true, false≢true}
use Rattle.tcp_stream.specs.Endpoint.{Item, distance}
use Rattle.tcp_stream.specs.Network.{World, Segment as Packet, number_at, stream}
use Rattle.tcp_stream.proofs.Numbers.{number_more}
use Rattle.tcp_stream.proofs.Standing.{reached_good}
use Rattle.tcp_stream.specs.Items.{items_of, syn_of}
use Rattle.tcp_stream.specs.Ring.{ring}
use Rattle.tcp_stream.specs.Waits.{IsSend, Waits, count_of, rest_of}
use Rattle.tcp_stream.specs.declared.sending.Sending.{Sending}
use Rattle.app_connection.specs.declared.connection.Connection.{Connection}
use Rattle.app_connection.specs.declared.segment.Reply.{Reply}
use Rattle.app_connection.specs.declared.segment.Segment.{Segment}
use Rattle.app_connection.specs.declared.state.Phase.{Phase}
use Rattle.app_connection.specs.declared.state.Phase.TheVariants as phase
use Rattle.app_connection.specs.declared.state.State.TheVariants as state
use Rattle.app_connection.specs.declared.step.Event.{Event as Move}
use Rattle.app_connection.specs.declared.step.Event.TheVariants as move
use Rattle.app_connection.specs.Endpoints.{OutFits, acknowledgement_of, has_items, len_of, next_of, one, spoken}
use Rattle.app_connection.specs.Runs as connection
use Rattle.app_connection.specs.Runs.{IsFrom, MayCome}
use Rattle.app_connection.specs.States.{has_peer, state_at, state_from, state_in}
use Rattle.app_connection.specs.Steps.{Steps}
use Rattle.app_connection.specs.Worlds.{Said, said}
use Rattle.app_connection.proofs.Arrived.{all_acked}
use Rattle.app_connection.proofs.Pair.{IsSound, Pair}
use Rattle.app_socket.specs.declared.socket.Socket.{Socket}
use Rattle.app_socket.specs.declared.step.Event.TheVariants as event
use Rattle.app_socket.specs.Rounds.{StandsFor}
use Rattle.app_socket.specs.Runs.{Calls, End, end_of, steps}
use Rattle.app_socket.specs.Segments.{IsSent, rejects, taken_of}
use Rattle.app_socket.specs.Times.{is_open}
use Rattle.app_socket.proofs.Rounds.{items_len}
use Rattle.app_socket.proofs.Stepping.{choice_false}
use Rattle.wire_tcp_options.specs.declared.tcp.summary.TcpOptionSummary.{TcpOptionSummary}
use Rattle.app_socket.specs.Answered.{IsSet}
use Rattle.app_socket.specs.Pair.{Past, end_at, past_after}
use Rattle.app_socket.proofs.Arriving.{not_none}
use Rattle.app_socket.proofs.Growing.{far}
use Rattle.app_socket.proofs.Syn.{head_syn, later_syn, rest_syn, syn_flag, take_syn}

-- ---- one call

pub tick_call : (s new : Socket) (out before after : List ℕ) (h : Past) (b : End) (now : ℕ) (o : Option Said) → has_peer (state_from s.connection) ≡ true → OutFits new.connection.sending (length out) → Steps s.connection new.connection out before after (move.Send 0 0) o
    → Calls (end_at s out before h) b (end_at new out after (past_after h b new o))
tick_call s new out before after h b now o has fits it = steps now event.Tick new after o tt (λ none. absurd (false≢true (sym none ∙ has))) fits it

pub arrive_call : (s new : Socket) (out before after : List ℕ) (h : Past) (b : End) (now fresh : ℕ) (x : Bor Segment) (options : Bor TcpOptionSummary) (o : Option Said) → has_peer (state_from s.connection) ≡ true → rejects s now x.now options.now ≡ false
    → IsFrom b.sent (length b.wrote) (length h.wrote) (said x.now) → OutFits new.connection.sending (length out) → Steps s.connection new.connection out before after (taken_of s now (event.Arrives x options fresh)) o
    → Calls (end_at s out before h) b (end_at new out after (past_after h b new o))
arrive_call s new out before after h b now fresh x options o has taken from fits it =
    steps now (event.Arrives x options fresh) new after o
    (subst (λ (e : Move). MayCome e (end_of (end_at s out before h)) (end_of b)) (sym (choice_false (rejects s now x.now options.now) (move.Send 0 0) (move.Arrives x fresh) taken)) from)
    (λ none. absurd (false≢true (sym none ∙ has))) fits it

-- ---- what a run says of both ends

either : (b : Bool) → (b ≡ true) ⊎ (b ≡ false)
either true = inl refl
either false = inr refl

pub was_opened : (a : connection.End) → IsSound a → has_peer (state_from a.connection) ≡ true → a.was_opened ≡ true
was_opened a sound has = elim (either a.was_opened) [ inl is ↦ is | inr shut ↦ absurd (false≢true (sym (sound.peerless shut) ∙ has)) ]

pub stands_for : (a b : connection.End) (p : Pair a b) → IsSet a → StandsFor a.connection a.outgoing a.incoming
stands_for a b p set = record {
  there = p.there;
  back = p.back;
  consumed = a.read;
  stand = record {
    waits = p.writes.waits set.opened;
    stands = p.reads.carries.stands;
    sent = λ is. absurd (let c : phase.Open ≡ phase.SynSent = sym set.open_phase ∙ is in cc);
    received = λ is. absurd (let c : phase.Open ≡ phase.SynReceived = sym set.open_phase ∙ is in cc);
  };
}

-- RCV.NXT of the other end
pub ack_number : (a b : connection.End) (p : Pair a b) → a.was_opened ≡ true → b.connection.receiving.is_open ≡ true
    → (a.connection.sending.una + distance b.connection.receiving.next a.connection.sending.una) % 4294967296 ≡ b.connection.receiving.next
ack_number a b p opened synced =
    let w = p.there in
    let waits = p.writes.waits opened in
    let stands = p.writes.carries.stands in
    let good = reached_good w stands.reached in
    let d = distance b.connection.receiving.next a.connection.sending.una in
    let is = far w a.connection.sending a.outgoing b.read b.connection.receiving b.incoming waits stands synced in
    ap (λ (n : ℕ). (n + d) % 4294967296) waits.una
    ∙ number_more w.initial w.acked d
    ∙ ap (λ (n : ℕ). number_at w.initial n) is.0
    ∙ sym (stands.holds.next synced ∙ good.knows.0 (stands.holds.is_open ∙ synced))

-- SND.NXT of an end of which nothing waits is RCV.NXT of the other one
pub level : (a b : connection.End) (p : Pair a b) → a.was_opened ≡ true → b.connection.receiving.is_open ≡ true → count_of a.connection.sending ≡ 0 → next_of a.connection ≡ b.connection.receiving.next
level a b p opened synced none =
    let w = p.there in
    let waits = p.writes.waits opened in
    let stands = p.writes.carries.stands in
    let good = reached_good w stands.reached in
    let all = all_acked w a.connection.sending a.outgoing waits none in
    let same : w.acked + a.connection.sending.flight ≡ length w.receiver.got = omega (arith, all, waits.flight, waits.within, good.counted, good.behind) in
    ap (λ (n : ℕ). (n + a.connection.sending.flight) % 4294967296) waits.una
    ∙ number_more w.initial w.acked a.connection.sending.flight
    ∙ ap (λ (n : ℕ). number_at w.initial n) same
    ∙ sym (stands.holds.next synced ∙ good.knows.0 (stands.holds.is_open ∙ synced))

-- ---- states before CLOSE

open_at : (p : Phase) (closed fin came first : Bool) → p ≡ phase.Open → closed ≡ false → is_open (state_in p (state_at closed fin came first)) ≡ true
open_at phase.Closed closed fin came first at is = absurd (cc)
open_at phase.Listen closed fin came first at is = absurd (cc)
open_at phase.SynSent closed fin came first at is = absurd (cc)
open_at phase.SynReceived closed fin came first at is = absurd (cc)
open_at phase.Open true fin came first at is = absurd (cc)
open_at phase.Open false fin true first at is = refl
open_at phase.Open false fin false first at is = refl

pub open_still : (c : Connection) → c.phase ≡ phase.Open → c.sending.is_closed ≡ false → is_open (state_from c) ≡ true
open_still c at is = open_at c.phase c.sending.is_closed (not c.sending.has_fin) c.receiving.has_fin c.is_peer_first at is

wait_at : (p : Phase) (closed fin came first : Bool) → p ≡ phase.Open → closed ≡ false → state_in p (state_at closed fin came first) ≡ state.TimeWait → ⊥
wait_at phase.Closed closed fin came first at is wait = absurd (cc)
wait_at phase.Listen closed fin came first at is wait = absurd (cc)
wait_at phase.SynSent closed fin came first at is wait = absurd (cc)
wait_at phase.SynReceived closed fin came first at is wait = absurd (cc)
wait_at phase.Open true fin came first at is wait = absurd (cc)
wait_at phase.Open false fin true first at is wait = absurd (cc)
wait_at phase.Open false fin false first at is wait = absurd (cc)

pub not_waiting : (c : Connection) → c.phase ≡ phase.Open → c.sending.is_closed ≡ false → state_from c ≡ state.TimeWait → ⊥
not_waiting c at is wait = wait_at c.phase c.sending.is_closed (not c.sending.has_fin) c.receiving.has_fin c.is_peer_first at is wait

-- ---- segments

pub no_len_of : (s : Segment) → s.payload.now ≡ [] → s.fin ≡ false → s.syn ≡ false → len_of s ≡ 0
no_len_of s text fin syn = omega (arith, ap length text, ap one fin, ap one syn)

items_flag : (rst : Bool) (len : ℕ) (ack : Option ℕ) (n : ℕ) → rst ≡ false → 0 < len → ack ≡ Some n → (not rst && (not (len == 0) && is_some ack)) ≡ true
items_flag true len ack n is some has = absurd (cc)
items_flag false len None n is some has = absurd (cc)
items_flag false len (Some m) n is some has = ap (λ (b : Bool). not b && true) (not_none len some)

pub brings : (s : Segment) (n : ℕ) → s.rst ≡ false → 0 < len_of s → s.ack ≡ Some n → has_items s ≡ true
brings s n rst some ack = items_flag s.rst (len_of s) s.ack n rst some ack

-- what the acknowledgement of a connection says
abbrev number_in : Option Reply → ℕ
number_in None = 0
number_in (Some r) = r.number

abbrev ack_in : Option Reply → Option ℕ
ack_in None = None
ack_in (Some r) = r.ack

abbrev syn_in : Option Reply → Bool
syn_in None = false
syn_in (Some r) = r.syn

abbrev rst_in : Option Reply → Bool
rst_in None = false
rst_in (Some r) = r.rst

pub record IsBare (c : Connection) (s : Segment) : Type 0 where
  pub number : s.number ≡ next_of c
  pub ack : s.ack ≡ Some c.receiving.next
  pub syn : s.syn ≡ false
  pub rst : s.rst ≡ false

pub ack_some : (c : Connection) → c.receiving.is_open ≡ true → (acknowledgement_of c).ack ≡ Some c.receiving.next
ack_some c synced = cond-true c.receiving.is_open (Some c.receiving.next) None synced

pub told : (c : Connection) (s : Segment) → c.receiving.is_open ≡ true → spoken (Some s) ≡ Some (acknowledgement_of c) → IsBare c s
told c s synced is = record { number = ap number_in is; ack = ap ack_in is ∙ ack_some c synced; syn = ap syn_in is; rst = ap rst_in is }

-- ---- items

abbrev first_items : List Packet → List Item
first_items [] = []
first_items (x ∷ xs) = x.items

same_long : (xs : List Packet) (x : Packet) → xs ≡ x ∷ xs → ⊥
same_long xs x is = omega (arith, ap length is)

-- the items that an event Send puts on the network are a part of the stream
sent_items : (w : World) (offset number : ℕ) (items : List Item) → IsSend w offset number items → items ≡ take (length items) (drop (w.acked + offset) (stream w.written w.closed))
sent_items w offset number items send =
    let place = w.acked + offset in
    let cut = take (length items) (drop place (stream w.written w.closed)) in
    let x : Packet = record { place = place; number = number; items = items } in
    cond_both (nat_lt (length (stream w.written w.closed)) place) _ _ (λ (v : World). v.segments ≡ x ∷ w.segments → items ≡ cut)
    (λ past is. absurd (same_long w.segments x is))
    (λ inside. cond_both (nat_lt (w.acked + 2147483648) (place + length cut)) _ _ (λ (v : World). v.segments ≡ x ∷ w.segments → items ≡ cut) (λ many is. absurd (same_long w.segments x is)) (λ few is. sym (ap first_items is)))
    send.last

-- nothing is sent if nothing waits
pub nothing_sent : (w : World) (c : Sending) (outgoing : List ℕ) (s : Segment) → Waits w c outgoing → count_of c ≡ 0 → IsSent w s → len_of s ≡ 0
nothing_sent w c outgoing s waits none sent =
    let all = all_acked w c outgoing waits none in
    let items = items_of s.syn s.payload.now s.fin in
    let is = sent_items w sent.offset s.number items sent.send in
    omega (arith, all, items_len s.syn s.fin s.payload.now, ap length is, length-take (length items) (drop (w.acked + sent.offset) (stream w.written w.closed)), length-drop (w.acked + sent.offset) (stream w.written w.closed))

-- ---- the SYN

-- after the SYN was acknowledged nothing that waits has one
held_syn : (w : World) (c : Sending) (outgoing : List ℕ) → c.has_syn ≡ false → Waits w c outgoing → (offset : ℕ) → head_syn (drop (w.acked + offset) (stream w.written w.closed)) ≡ false
held_syn w c outgoing shut waits offset = elim (cases_lt 0 (w.acked + offset)) [
  | inl some ↦ later_syn (w.acked + offset) w.written w.closed some
  | inr none ↦
      let zero_place : w.acked + offset ≡ w.acked = omega arith in
      let held : drop (w.acked + offset) (stream w.written w.closed) ≡ rest_of c outgoing = ap (λ (n : ℕ). drop n (stream w.written w.closed)) zero_place ∙ waits.held ∙ ap (λ (b : Bool). syn_of b ++ rest_of c outgoing) shut in
      ap head_syn held ∙ rest_syn (take c.len (ring c.start outgoing)) c.has_fin
]

pub no_syn : (w : World) (c : Sending) (outgoing : List ℕ) (s : Segment) → c.has_syn ≡ false → Waits w c outgoing → IsSent w s → s.syn ≡ false
no_syn w c outgoing s shut waits sent =
    let items = items_of s.syn s.payload.now s.fin in
    let is = sent_items w sent.offset s.number items sent.send in
    syn_flag s.syn s.fin s.payload.now (ap head_syn is ∙ take_syn (length items) _ (held_syn w c outgoing shut waits sent.offset))
