-- Calls of a program in C go on with a run.
use Rattle.std.proofs.Common.{◌≡◌, inl, inr, refl, sym, ◌∙◌, ap, subst, ℕ, zero, suc, ℤ, List, ◌++◌, length, Bool, true, false, take, arith, Bor}
use Rattle.std.specs.Prelude.{pos, negsuc, Option, None, ◌==◌, if◌then◌else◌}
use Rattle.std.proofs.lemmas.Bool.{false≢true, cond_both}
use Rattle.app_connection.specs.declared.connection.Connection.{Connection}
use Rattle.app_connection.specs.declared.segment.Segment.{Segment}
use Rattle.app_connection.specs.declared.step.Event.{Event as Move}
use Rattle.app_connection.specs.declared.step.Event.TheVariants as move
use Rattle.app_connection.specs.Endpoints.{OutFits}
use Rattle.app_connection.specs.Runs as connection
use Rattle.app_connection.specs.Runs.{IsFrom, IsNew, MayCome, OpensOnce}
use Rattle.app_connection.specs.States.{has_peer, state_from}
use Rattle.app_connection.specs.Worlds.{said}
use Rattle.app_socket.proofs.Arriving.{not_none}
use Rattle.app_socket.specs.Fields.{socket_of}
use Rattle.app_socket.specs.Pair.{Past}
use Rattle.app_socket.specs.Segments.{rejects, taken_of}
use Rattle.app_socket.specs.declared.fields.SocketFields.{SocketFields}
use Rattle.app_socket.specs.declared.socket.Socket.{Socket}
use Rattle.app_socket.specs.declared.step.Event.{Event}
use Rattle.app_socket.specs.declared.step.Event.TheVariants as event
use Rattle.wire_tcp_options.specs.declared.tcp.summary.TcpOptionSummary.{TcpOptionSummary}
use Rattle.c_structs.specs.Written.{within}
use Rattle.c_socket.specs.Application.{Learns}
use Rattle.c_socket.specs.Calls.{Fits, IsArrival, Meets, Met, Reads, Writes}
use Rattle.c_socket.specs.Extends.{GoesOn, MayOpen, end_at, program_with, programs_with}
use Rattle.c_socket.specs.Openings as openings
use Rattle.c_socket.specs.Openings.{OthersStay, Program, Turns, has, opening, present}
use Rattle.c_socket.specs.Runs.{Calls, End, Ends, Runs, begins, connection_of, here, meets, others, reads, stepped, stored, there, writes}
use Rattle.c_socket.specs.declared.segment.SegmentFields.{SegmentFields}
use Rattle.c_socket.proofs.Delivery.{met_steps}

pub goes_on : (a b new : End) → Calls a b new → GoesOn a b new
goes_on a b new call = record {
  here = λ run. here (record { here = a; there = b }) new run call;
  there = λ run. there (record { here = b; there = a }) new run call;
}

pub goes_then : (a b mid new : End) → GoesOn a b mid → GoesOn mid b new → GoesOn a b new
goes_then a b mid new first second = record { here = λ run. second.here (first.here run); there = λ run. second.there (first.there run) }

once : (f : SocketFields) (outgoing incoming : List ℕ) (h : Past) (new : Connection) → MayOpen f h → OpensOnce (connection_of (end_at f outgoing incoming h)) new
once f outgoing incoming h new (inl has) = λ none opened. absurd (false≢true (sym none ∙ has))
once f outgoing incoming h new (inr shut) = λ none opened. shut

-- a call for an event
pub met_goes : (Is : Event → Type 0) (f g : SocketFields) (outgoing before after : List ℕ) (h : Past) (b : End) (now : ℕ) (out out' : SegmentFields) (code : ℤ)
    → MayOpen f h → ((e : Event) → Is e → MayCome (taken_of (socket_of f) now e) (connection_of (end_at f outgoing before h)) (connection_of b)) → Fits (socket_of f) (length outgoing) (length before)
    → Meets Is f g outgoing before after now out out' code → GoesOn (end_at f outgoing before h) b (stepped (end_at f outgoing before h) b g after (stored code out'))
met_goes Is f g outgoing before after h b now out out' code opens may fits (inl (none, same)) = absurd (none fits)
met_goes Is f g outgoing before after h b now out out' code opens may fits (inr m) =
    goes_on (end_at f outgoing before h) b _
    (meets m.e now g after out out' code (may m.e m.is) (once f outgoing before h (socket_of g).connection opens)
    (record { e = m.e; is = refl; given = m.given; fits = m.fits; steps = m.steps; stores = m.stores }))

-- a segment of the other end may come
pub may_take : (s : Socket) (now : ℕ) (a b : connection.End) (x : Segment) (options : TcpOptionSummary) (fresh : ℕ) → IsFrom b.sent (length b.wrote) (length a.wrote) (said x) → (e : Event) → IsArrival x options fresh e → MayCome (taken_of s now e) a b
may_take s now a b x options fresh from event.Listen is = absurd is
may_take s now a b x options fresh from (event.Open iss) is = absurd is
may_take s now a b x options fresh from (event.Arrives y o iss) (same, opts, is) =
    cond_both (rejects s now y.now o.now) (move.Send 0 0) (move.Arrives y iss) (λ (m : Move). MayCome m a b) (λ old. tt) (λ taken. subst (λ (z : Segment). IsFrom b.sent (length b.wrote) (length a.wrote) (said z)) (sym same) from)
may_take s now a b x options fresh from event.Close is = absurd is
may_take s now a b x options fresh from event.Abort is = absurd is
may_take s now a b x options fresh from event.Tick is = absurd is

-- ---- bytes

abbrev natural : ℤ → ℕ
natural (pos n) = n
natural (negsuc n) = 0

pub writes_on : (f g : SocketFields) (before after incoming bytes : List ℕ) (h : Past) (b : End) (n : ℕ) (code : ℤ) → code ≡ pos n → OutFits (socket_of g).connection.sending (length after) → Writes f g before after bytes code
    → GoesOn (end_at f before incoming h) b (end_at g after incoming (record h { wrote = h.wrote ++ take n (within bytes) }))
writes_on f g before after incoming bytes h b n code is fits (inl (none, wrong, kept, same)) = absurd (let e : pos n ≡ negsuc 0 = sym is ∙ wrong in cc)
writes_on f g before after incoming bytes h b n code is fits (inr (count, took, w)) =
    let e : count ≡ n = ap natural (sym took ∙ is) in
    subst (λ (k : ℕ). GoesOn (end_at f before incoming h) b (end_at g after incoming (record h { wrote = h.wrote ++ take k (within bytes) }))) e
    (goes_on (end_at f before incoming h) b _ (writes g after (within bytes) count fits w))

pub reads_on : (f g : SocketFields) (outgoing incoming before after : List ℕ) (h : Past) (b : End) (n : ℕ) (code : ℤ) → code ≡ pos n → Reads f g incoming before after code
    → GoesOn (end_at f outgoing incoming h) b (end_at g outgoing incoming (record h { read = h.read ++ take n after }))
reads_on f g outgoing incoming before after h b n code is (inl (none, wrong, kept, same)) = absurd (let e : pos n ≡ negsuc 0 = sym is ∙ wrong in cc)
reads_on f g outgoing incoming before after h b n code is (inr (count, took, d)) =
    let e : count ≡ n = ap natural (sym took ∙ is) in
    subst (λ (k : ℕ). GoesOn (end_at f outgoing incoming h) b (end_at g outgoing incoming (record h { read = h.read ++ take k after }))) e
    (goes_on (end_at f outgoing incoming h) b _ (reads g before after count d))

-- reading leaves the sending half
pub reads_same : (f g : SocketFields) (incoming before after : List ℕ) (n : ℕ) (code : ℤ) → code ≡ pos n → Reads f g incoming before after code → (socket_of g).connection.sending ≡ (socket_of f).connection.sending
reads_same f g incoming before after n code is (inl (none, wrong, kept, same)) = absurd (let e : pos n ≡ negsuc 0 = sym is ∙ wrong in cc)
reads_same f g incoming before after n code is (inr (count, took, d)) = ap (λ (c : Connection). c.sending) d.reads.same

pub learns_on : (f g : SocketFields) (outgoing incoming : List ℕ) (h : Past) (b : End) (number mss : ℕ) → Learns (socket_of f) (socket_of g) number mss → GoesOn (end_at f outgoing incoming h) b (end_at g outgoing incoming h)
learns_on f g outgoing incoming h b number mss l = goes_on (end_at f outgoing incoming h) b _ (others g (ap (λ (s : Socket). s.connection) l.same))

-- ---- programs that open again

each_end : (first later : End) → IsNew (connection_of first) → IsNew (connection_of later) → (n : ℕ) → IsNew (connection_of ((program_with first later).ends n))
each_end first later one other n = cond_both (n == 0) first later (λ (a : End). IsNew (connection_of a)) (λ is. one) (λ is. other)

same_later : (old new later : End) → OthersStay 0 (program_with old later) (program_with new later)
same_later old new later zero other = absurd (other refl)
same_later old new later (suc n) other =
    let e : (suc n == 0) ≡ false = not_none (suc n) (omega arith) in
    ap (λ (x : Bool). if x then new else later) e ∙ sym (ap (λ (x : Bool). if x then old else later) e)

pub runs_again : (p q : Ends) → IsNew (connection_of q.here) → IsNew (connection_of q.there) → Runs p → openings.Runs (programs_with p q)
runs_again p q one two (begins r here_new there_new) = openings.begins (programs_with r q) (each_end r.here q.here here_new one) (each_end r.there q.there there_new two)
runs_again p q one two (here r new run calls) = openings.here (programs_with r q) (program_with new q.here) (runs_again r q one two run) (openings.stays (program_with new q.here) refl (same_later r.here new q.here) calls)
runs_again p q one two (there r new run calls) = openings.there (programs_with r q) (program_with new q.there) (runs_again r q one two run) (openings.stays (program_with new q.there) refl (same_later r.there new q.there) calls)

-- an active open begins another connection
pub connects : (f g : SocketFields) (outgoing before after : List ℕ) (now iss : ℕ) (out out' : SegmentFields) (code : ℤ) → has f ≡ false → Fits (socket_of f) (length outgoing) (length before)
    → Meets (λ e. e ≡ event.Open iss) f g outgoing before after now out out' code → (a b new : Program) (k : ℕ) → (present a).fields ≡ f → (present a).outgoing ≡ outgoing → (present a).incoming ≡ before → (a.ends k).was_opened ≡ false → new.number ≡ k
    → OthersStay k a new → new.ends k ≡ stepped (opening a k) (b.ends k) g after (stored code out') → Turns a b new
connects f g outgoing before after now iss out out' code none fits (inl (not_fits, same)) a b new k fields ring incoming shut number stay is = absurd (not_fits fits)
connects f g outgoing before after now iss out out' code none fits (inr m) a b new k fields ring incoming shut number stay is =
    let e : Event = event.Open iss in
    let met : Met (λ x. x ≡ e) f g outgoing before after now out out' code = record { e = m.e; is = m.is; given = m.given; fits = m.fits; steps = m.steps; stores = m.stores } in
    let steps = met_steps f g outgoing before after e now out out' code met in
    let by_fields = subst (λ (x : SocketFields). Met (λ y. y ≡ e) x g outgoing before after now out out' code) (sym fields) met in
    let by_ring = subst (λ (l : List ℕ). Met (λ y. y ≡ e) (present a).fields g l before after now out out' code) (sym ring) by_fields in
    let by_incoming = subst (λ (l : List ℕ). Met (λ y. y ≡ e) (present a).fields g (present a).outgoing l after now out out' code) (sym incoming) by_ring in
    openings.opens new k now e g after out out' code number stay shut (ap has fields ∙ none) (steps.active iss refl none) tt by_incoming is
