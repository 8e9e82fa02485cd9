use Rattle.std.proofs.Common.{◌≡◌, ◌∙◌, sym, ap, subst, ℕ, ◌<◌, ◌==◌, true, false}
use Rattle.std.specs.Prelude.{if◌then◌else◌}
use Rattle.tcp_stream.specs.Endpoint.{distance}
use Rattle.app_congestion.specs.Congestion.{Sender, acknowledged, sender_of, timed_out, unchanged, undone}
use Rattle.app_connection.specs.declared.connection.Connection.{Connection}
use Rattle.app_connection.specs.States.{state_from}
use Rattle.app_options.specs.declared.agreed.Agreed.{Agreed}
use Rattle.app_options.specs.Timestamps.{round_trip, takes}
use Rattle.app_socket.specs.declared.flow.Flow.{Flow}
use Rattle.app_socket.specs.declared.undo.Undo.{Undo}
use Rattle.app_socket.specs.Resends.{newly_in, next_in, queue_of}
use Rattle.app_socket.specs.Segments.{rejects}
use Rattle.app_socket.specs.Times.{is_open}
use Rattle.app_socket.specs.Undo.{Undoes, UndoesTo, is_echo_before, is_needless, saved}
use Rattle.app_socket.proofs.Rounds.{none_rejected}
use Rattle.app_socket.proofs.laws.a_spurious_time_out_is_undone.Goals as goal

-- what is kept when the first segment goes again
first_saved : (old : Flow) (now : ℕ) → old.undo.sent_at ≡ 0 → saved old now ≡ record { sent_at = now; cwnd = unchanged (sender_of old.congestion); ssthresh = old.congestion.ssthresh }
first_saved old now is =
    ap (λ (m : ℕ). if m == 0 then record { sent_at = now; cwnd = unchanged (sender_of old.congestion); ssthresh = old.congestion.ssthresh } else old.undo) is

-- an undo leads to the sender before the time-out
undoes_to : (mid new : Flow) (s : Sender) (now newly flight una over next : ℕ) → sender_of mid.congestion ≡ timed_out s over next
    → mid.undo ≡ record { sent_at = now; cwnd = unchanged s; ssthresh = s.ssthresh } → Undoes mid new newly flight una → UndoesTo s new newly flight una
undoes_to mid new s now newly flight una over next slows kept undoes = record {
  sender = undoes.sender
      ∙ ap (λ (x : Sender). acknowledged (undone x mid.undo.cwnd mid.undo.ssthresh) newly flight una) slows
      ∙ ap (λ (u : Undo). acknowledged (undone (timed_out s over next) u.cwnd u.ssthresh) newly flight una) kept;
  cursor = undoes.cursor;
  resend = undoes.resend;
}

pub returns : goal.returns
returns c = λ after some.
    let old = c.args.socket.now in
    let mid = c.step.new.self in
    let new = c.step-2.new.self in
    let at = c.args.times.0 in
    let later = c.args.times.1 in
    let stamp = c.args.options.now.timestamp in
    let s = sender_of old.flow.congestion in
    let resends = c.step.ensures.resends tt c.requires.opened c.requires.patient in
    let still : is_open (state_from mid.connection) ≡ true = ap (λ (x : Connection). is_open (state_from x)) resends.only ∙ c.requires.opened in
    let fresh : takes mid.agreed.recent stamp later ≡ true = ap (λ (a : Agreed). takes a.recent stamp later) resends.agreed ∙ c.requires.taken in
    let taken : rejects mid later c.args.answer.now c.args.options.now ≡ false = none_rejected _ _ _ fresh in
    let learns = c.step-2.ensures.learns still after taken in
    let kept : mid.flow.undo ≡ record { sent_at = at; cwnd = unchanged s; ssthresh = s.ssthresh } =
    resends.saves c.requires.window c.requires.flight c.requires.waits c.requires.due c.requires.probed ∙ first_saved old.flow at c.requires.once
    in
    let needless : is_needless mid stamp later ≡ true =
    ap (λ (u : Undo). is_echo_before u.sent_at (round_trip mid.agreed.recent mid.agreed.offset stamp later) later) kept
    ∙ ap (λ (a : Agreed). is_echo_before at (round_trip a.recent a.offset stamp later) later) resends.agreed
    ∙ c.requires.echo
    in
    let newly : newly_in mid new ≡ newly_in old new = ap (λ (x : Connection). distance new.connection.sending.una x.sending.una) resends.only in
    let undoes : Undoes mid.flow new.flow (newly_in old new) new.connection.sending.flight new.connection.sending.una =
    subst (λ (n : ℕ). Undoes mid.flow new.flow n new.connection.sending.flight new.connection.sending.una) newly
    (learns.undoes (subst (λ (n : ℕ). 0 < n) (sym newly) some) needless)
    in
    undoes_to mid.flow new.flow s at (newly_in old new) new.connection.sending.flight new.connection.sending.una old.connection.sending.flight (next_in (queue_of old))
    (resends.slows c.requires.window c.requires.flight c.requires.waits c.requires.due c.requires.probed) kept undoes
