use Rattle.std.proofs.Common.{◌≡◌, inl, inr, ◌∙◌, sym, ap, subst, ℕ, ◌+◌, ◌≤◌, ◌<◌, List, true, arith}
use Rattle.std.specs.Prelude.{Option, Some, None, IfSome, MatchOption, nat_le}
use Rattle.std.proofs.lemmas.Bool.Decides.{nat_tests}
use Rattle.tcp_stream.specs.Waits.{count_of}
use Rattle.tcp_stream.specs.declared.sending.Sending.{Sending}
use Rattle.app_connection.specs.declared.connection.Connection.{Connection}
use Rattle.app_connection.specs.declared.segment.Segment.{Segment}
use Rattle.app_connection.specs.Endpoints.{len_of}
use Rattle.app_connection.specs.States.{state_from}
use Rattle.app_socket.specs.Resends.{IsArmed, SendsFirst, is_due}
use Rattle.app_socket.specs.Times.{is_open}
use Rattle.app_socket.proofs.laws.what_is_lost_goes_again.Goals as goal

le_true : (a b : ℕ) → a ≤ b → nat_le a b ≡ true
le_true a b le = grind (arith, nat_tests)

true_le : (a b : ℕ) → nat_le a b ≡ true → a ≤ b
true_le a b is = grind (arith, nat_tests)

-- a timer that was due is due again a minute later
due_later : (old new : Option ℕ) (first second : ℕ) → IsArmed old new first → is_due old first ≡ true → first + 60000 ≤ second → is_due new second ≡ true
due_later old None first second armed due minute = absurd armed
due_later old (Some at) first second armed due minute = elim armed [
  | inl same ↦ (let before : at ≤ first = true_le at first (subst (λ (t : Option ℕ). is_due t first ≡ true) same due) in le_true at second (omega arith))
  | inr soon ↦ le_true at second (omega arith)
]

-- the peer's patience does not change when the timer expires
due_still : (o : Option ℕ) (now old new : ℕ) → is_due o now ≡ true → IfSome o (λ at. new ≡ old) → new ≡ old
due_still None now old new due still = absurd (cc)
due_still (Some at) now old new due still = still

-- what goes is at SND.UNA
goes_at : (old new : Sending) (outgoing : List ℕ) (una : ℕ) (o : Option Segment) → old.una ≡ una → SendsFirst old new outgoing o → MatchOption o ⊥ (λ s. (s.number ≡ una) × (0 < len_of s))
goes_at old new outgoing una None same sends = sends
goes_at old new outgoing una (Some s) same sends = (sends.number ∙ same, sends.some)

pub returns : goal.returns
returns c =
    let old = c.args.socket.now in
    let mid = c.step.new.self in
    let waits = c.requires.waits in
    let first = c.step.ensures.resends tt c.requires.opened (omega (arith, c.requires.minute, c.requires.patient)) in
    let opened : is_open (state_from mid.connection) ≡ true = ap (λ (x : Connection). is_open (state_from x)) first.only ∙ c.requires.opened in
    let patient : c.args.second < mid.timers.ends_at = omega (arith, c.requires.patient, due_still old.timers.resend_at c.args.first _ _ c.requires.due (first.patience waits)) in
    let still : 0 < count_of mid.connection.sending = subst (λ (x : Connection). 0 < count_of x.sending) (sym first.only) waits in
    let due = due_later old.timers.resend_at mid.timers.resend_at c.args.first c.args.second (first.armed waits) c.requires.due c.requires.minute in
    let second = c.step-2.ensures.resends tt opened patient in
    goes_at mid.connection.sending c.step-2.new.self.connection.sending c.args.outgoing.now old.connection.sending.una c.step-2.result
    (ap (λ (x : Connection). x.sending.una) first.only) (second.expires still due (first.probed waits c.requires.due))
