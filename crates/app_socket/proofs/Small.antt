-- Text that fits a segment and both windows is not held back.
use Rattle.std.proofs.Common.{◌≡◌, ◌⊎◌, inl, inr, ◌∙◌, sym, ap, subst, ℕ, List, ◌*◌, ◌≤◌, ◌<◌, nat_lt, Bool, true, false, length, arith}
use Rattle.std.specs.Prelude.{Option, Some, None, MatchOption, ◌==◌, ◌&&◌, ◌||◌, not}
use Rattle.std.proofs.lemmas.Bool.{cases_lt}
use Rattle.std.proofs.lemmas.Bool.Decides.{nat_tests}
use Rattle.tcp_stream.specs.Items.{syn_of}
use Rattle.tcp_stream.specs.Waits.{count_of}
use Rattle.tcp_stream.proofs.Pending.{short_end}
use Rattle.app_connection.specs.declared.connection.Connection.{Connection}
use Rattle.app_connection.specs.declared.segment.Segment.{Segment}
use Rattle.app_connection.specs.Endpoints.{OutFits, len_of}
use Rattle.app_socket.specs.declared.flow.Flow.{Flow}
use Rattle.app_socket.specs.declared.flow.Queue.{Queue}
use Rattle.app_socket.specs.declared.socket.Socket.{Socket}
use Rattle.app_socket.specs.Resends.{IsHeld, IsSound, Resends, SendsNone, available_of, next_count, queue_of}
use Rattle.app_socket.specs.Segments.{text_of}

-- items go, or none do
items_or : (o : Option Segment) → MatchOption o ⊥ (λ s. 0 < len_of s) ⊎ SendsNone o
items_or None = inr tt
items_or (Some s) = elim (cases_lt 0 (len_of s)) [ inl some ↦ inl some | inr none ↦ inr (omega (arith, none)) ]

worth : (full eager fin small : Bool) → (full || ((true && (eager || (true || fin))) || small)) ≡ false → ⊥
worth true true fin small is = absurd (cc)
worth true false fin small is = absurd (cc)
worth false true fin small is = absurd (cc)
worth false false fin small is = absurd (cc)

same_test : (n m : ℕ) → n ≡ m → (n == m) ≡ true
same_test n m is = grind (arith, nat_tests)

-- with nothing in flight, what fits is not held back
not_held : (f : Flow) (q : Queue) → q.flight ≡ 0 → f.cursor ≡ 0 → 0 < q.unsent → q.unsent < 1073741827 → q.unsent ≤ q.mss → q.unsent ≤ q.window → q.unsent ≤ f.congestion.cwnd → IsHeld f q → ⊥
not_held f q idle cursor some few mss window cwnd held =
    let all : available_of f q ≡ q.unsent = omega arith in
    let count : next_count f q ≡ q.unsent = omega arith in
    elim held.rest [
      | inl none ↦ omega (arith, none, count)
      | inr waits ↦
          let is_all : (next_count f q == available_of f q) ≡ true = same_test _ _ (count ∙ sym all) in
          let at_once : (q.flight == 0) ≡ true = same_test _ _ idle in
          let full = next_count f q == q.mss in
          let small = not (nat_lt (2 * next_count f q) f.max_window) in
          let first : (full || ((true && (q.is_eager || ((q.flight == 0) || q.has_fin))) || small)) ≡ false =
          subst (λ (a : Bool). (full || ((a && (q.is_eager || ((q.flight == 0) || q.has_fin))) || small)) ≡ false) is_all waits.1
          in
          worth full q.is_eager q.has_fin small (subst (λ (b : Bool). (full || ((true && (q.is_eager || (b || q.has_fin))) || small)) ≡ false) at_once first)
    ]

syn_few : (b : Bool) → length (syn_of b) ≤ 1
syn_few true = omega arith
syn_few false = omega arith

-- the call that sends it
pub goes_at_once : (old new : Socket) (outgoing : List ℕ) (now : ℕ) (given : Option Segment) → Resends old new outgoing now given → OutFits old.connection.sending (length outgoing) → IsSound old.flow old.connection.sending.flight
    → old.connection.sending.flight ≡ 0 → 0 < count_of old.connection.sending → count_of old.connection.sending ≤ old.connection.wnd → count_of old.connection.sending ≤ text_of new → count_of old.connection.sending ≤ new.flow.congestion.cwnd
    → MatchOption given ⊥ (λ s. 0 < len_of s)
goes_at_once old new outgoing now given r out is_sound none_out waits fits segment cwnd =
    let sending = old.connection.sending in
    let few : sending.flight ≤ count_of sending = omega (arith, none_out) in
    elim (items_or given) [
      | inl some ↦ some
      | inr none ↦
          let same = r.quiet none in
          let idle : new.connection.sending.flight ≡ 0 = ap (λ (x : Connection). x.sending.flight) same ∙ none_out in
          let count : count_of new.connection.sending ≡ count_of sending = ap (λ (x : Connection). count_of x.sending) same in
          let window : new.connection.wnd ≡ old.connection.wnd = ap (λ (x : Connection). x.wnd) same in
          let sound = r.sound few is_sound in
          let small : count_of sending < 1073741827 = omega (arith, out.len, out.small, syn_few sending.has_syn, short_end sending.has_fin) in
          absurd (not_held new.flow (queue_of new) idle (omega (arith, sound.cursor, idle)) (omega (arith, count, idle, waits)) (omega (arith, count, small)) (omega (arith, count, segment))
          (omega (arith, count, window, fits)) (omega (arith, count, cwnd)) (r.held few waits is_sound none))
    ]
