use Rattle.std.proofs.Common.{◌≡◌, ◌∙◌, sym, subst, ap, length, ◌⊎◌, ℕ, List, ◌+◌, ◌%◌, ◌≤◌, ◌<◌, true}
use Rattle.std.specs.Prelude.{is_some, min, not, nat_lt, ◌&&◌, option_map, Option, Some, None, IfSome, if◌then◌else◌}
use Rattle.tcp_stream.specs.Stands.{Stands, room_of}
use Rattle.tcp_stream.specs.declared.receiving.Receiving.{Receiving}
use Rattle.app_connection.specs.declared.connection.Connection.{Connection}
use Rattle.app_connection.specs.States.{state_from}
use Rattle.app_connection.specs.Endpoints.{acknowledgement_of, answers_bare, edge_of, endpoint_of, TakesAck, next_of}
use Rattle.app_connection.specs.Events.{GetsBy}
use Rattle.app_connection.specs.declared.step.Event.{Event as Move}
use Rattle.app_connection.specs.declared.step.Event.TheVariants as move
use Rattle.tcp_stream.specs.Endpoint.{distance, is_ahead}
use Rattle.app_congestion.specs.Congestion.{is_partial, is_past}
use Rattle.app_connection.specs.Worlds.{HearsAck}
use Rattle.app_connection.specs.Sequence.{is_of_sent}
use Rattle.app_socket.specs.declared.flow.Flow.{Flow}
use Rattle.app_socket.specs.declared.socket.Socket.{Socket}
use Rattle.app_socket.specs.Limits.{is_held, is_limited}
use Rattle.app_socket.specs.Undo.{Undoes}
use Rattle.app_socket.specs.Probes.{phase_heard}
use Rattle.app_socket.specs.Resends.{IsArmed, IsDuplicate, IsSound, newly_in, restarted_at}
use Rattle.app_socket.specs.Replies.{IsAcknowledgement}
use Rattle.app_socket.specs.Times.{is_open, later}
use Rattle.app_socket.proofs.Opened.{answers_as, answers_exactly, is_said, is_spoken, open_not_shut, open_phase}
use Rattle.app_connection.specs.Worlds.{said}
use Rattle.app_socket.proofs.Stepping.{steps_result, steps_to}
use Rattle.app_socket.proofs.socket.Socket.on_segment.Goals as goal

pub returns-in_default-clause-answers : goal.returns-in_default-clause-answers
returns-in_default-clause-answers c = λ before after.
    answers_as c.answer.result c.learn.new.self.connection.receiving c.answer.new.self.connection.receiving c.step-reply.new.incoming (ap (λ (x : Socket). x.connection.receiving) c.answer.ensures.same)
    (c.answer.ensures.answers (ap is_open c.before-before.ensures.state ∙ before))

pub returns-in_default-clause-owes : goal.returns-in_default-clause-owes
returns-in_default-clause-owes c = λ before after synced held items none.
    let old = c.args.self.now.connection in
    let s = c.args.segment.now in
    let said = c.step-reply.ensures.to_items (open_phase old before) (open_not_shut old before) synced items in
    let still : c.learn.new.self.quiet_until ≡ c.args.self.now.quiet_until = ap (λ (x : Socket). x.quiet_until) c.learn.ensures.same in
    c.answer.ensures.owes (ap is_open c.before-before.ensures.state ∙ before) (is_spoken c.step-reply.result ∙ ap is_some said) (ap (λ (n : ℕ). is_limited s && nat_lt c.args.now n) still ∙ held) none

pub returns-in_default-clause-held : goal.returns-in_default-clause-held
returns-in_default-clause-held c = λ before after held.
    let still : c.learn.new.self.quiet_until ≡ c.args.self.now.quiet_until = ap (λ (x : Socket). x.quiet_until) c.learn.ensures.same in
    c.answer.ensures.held (ap is_open c.before-before.ensures.state ∙ before) (ap (λ (n : ℕ). is_limited c.args.segment.now && nat_lt c.args.now n) still ∙ held)

pub returns-in_default-clause-quiet : goal.returns-in_default-clause-quiet
returns-in_default-clause-quiet c = λ before after.
    let still : c.learn.new.self.quiet_until ≡ c.args.self.now.quiet_until = ap (λ (x : Socket). x.quiet_until) c.learn.ensures.same in
    c.answer.ensures.quiet (ap is_open c.before-before.ensures.state ∙ before)
    ∙ ap (λ (n : ℕ). if (is_limited c.args.segment.now && is_some c.answer.result) then later c.args.now 500 else n) still

pub returns-in_default-clause-replies : goal.returns-in_default-clause-replies
returns-in_default-clause-replies c = λ before after synced items.
    let old = c.args.self.now.connection in
    let kept : c.learn.new.self.connection ≡ c.step-reply.new.self = ap (λ (x : Socket). x.connection) c.learn.ensures.same in
    let told = c.step-reply.ensures.to_items (open_phase old before) (open_not_shut old before) synced items in
    subst (λ (x : Socket). IsAcknowledgement x c.answer.result) (sym c.answer.ensures.same)
    (c.answer.ensures.replies (ap is_open c.before-before.ensures.state ∙ before) (told ∙ ap (λ (x : Connection). Some (acknowledgement_of x)) (sym kept)))

pub returns-in_default-clause-to_bare : goal.returns-in_default-clause-to_bare
returns-in_default-clause-to_bare c = λ before after bare.
    let old = c.args.self.now.connection in
    let s = c.args.segment.now in
    let window = room_of old.receiving (length c.args.incoming.now) in
    let opened = ap is_open c.before-before.ensures.state ∙ before in
    let said = is_spoken c.step-reply.result ∙ ap is_some (c.step-reply.ensures.to_bare (open_phase old before) (open_not_shut old before) bare) ∙ is_said (answers_bare old window s.number s.ack) (acknowledgement_of old) in
    let kept : c.learn.new.self.connection.receiving ≡ old.receiving = ap (λ (x : Socket). x.connection.receiving) c.learn.ensures.same ∙ c.step-reply.ensures.still (open_phase old before) bare in
    let still : c.learn.new.self.quiet_until ≡ c.args.self.now.quiet_until = ap (λ (x : Socket). x.quiet_until) c.learn.ensures.same in
    answers_exactly old.receiving.is_open _ (is_held c.args.self.now c.args.now s) c.step-reply.result c.answer.result said (c.answer.ensures.none opened)
    (λ synced.
    c.answer.ensures.some opened (ap (λ (x : Receiving). x.is_open) kept ∙ synced) (c.before-before.ensures.next synced ∙ ap (λ (x : Receiving). x.next) (sym kept))
    ∙ ap (λ (n : ℕ). is_some c.step-reply.result && not (is_limited s && nat_lt c.args.now n)) still)

pub returns-in_default-clause-steps : goal.returns-in_default-clause-steps
returns-in_default-clause-steps c =
    let old = c.args.self.now.connection in
    let it = c.step-reply in
    let kept : c.learn.new.self.connection ≡ it.new.self = ap (λ (x : Socket). x.connection) c.learn.ensures.same in
    let is = c.state.ensures.value in
    steps_to old it.new.self c.answer.new.self.connection c.args.outgoing.now c.args.incoming.now it.new.incoming _ _ (ap (λ (x : Socket). x.connection) c.answer.ensures.same ∙ kept)
    (steps_result old it.new.self c.args.outgoing.now c.args.incoming.now it.new.incoming _ (option_map said it.result) (option_map said c.answer.result) (λ e. c.in_default.not-Closed (is ∙ e)) (λ e. c.in_default.not-Listen (is ∙ e)) (λ e. c.in_default.not-SynSent (is ∙ e)) (λ e. c.in_default.not-SynReceived (is ∙ e))
    (λ v w consumed stands. c.answer.ensures.goes_out v w consumed it.new.incoming (subst (λ (x : Connection). Stands w consumed x.receiving it.new.incoming) (sym kept) stands)) it.ensures.steps)

-- SND.UNA of a connection that took an acknowledgement
una_of : (old new d : Connection) (number window : ℕ) (o : Option ℕ) → d ≡ new → IfSome o (λ ack. TakesAck old new number window ack)
    → IfSome o (λ ack. d.sending.una ≡ (if is_of_sent old.sending.una (next_of old) ack then ack else old.sending.una))
una_of old new d number window None is takes = tt
una_of old new d number window (Some ack) is takes = ap (λ (x : Connection). x.sending.una) is ∙ takes.una

-- the histories of a connection that took an acknowledgement
hears_of : (old new d : Connection) (outgoing : List ℕ) (o : Option ℕ) → d ≡ new
    → IfSome o (λ ack. is_of_sent old.sending.una (next_of old) ack ≡ true → HearsAck old.sending new.sending outgoing ack)
    → IfSome o (λ ack. is_of_sent old.sending.una (next_of old) ack ≡ true → HearsAck old.sending d.sending outgoing ack)
hears_of old new d outgoing None is hears = tt
hears_of old new d outgoing (Some ack) is hears = λ sent. subst (λ (x : Connection). HearsAck old.sending x.sending outgoing ack) (sym is) (hears sent)

pub returns-in_default-clause-learns : goal.returns-in_default-clause-learns
returns-in_default-clause-learns c = λ opened after.
    let old = c.args.self.now in
    let b = c.before-before.result in
    let taken = c.step-reply.new.self in
    let new = c.answer.new.self in
    let now = c.args.now in
    let s = c.args.segment.now in
    let is : is_open b.state ≡ true = ap is_open c.before-before.ensures.state ∙ opened in
    let same : new.connection ≡ taken = ap (λ (x : Socket). x.connection) c.answer.ensures.same ∙ ap (λ (x : Socket). x.connection) c.learn.ensures.same in
    let newly : distance taken.sending.una b.una ≡ newly_in old new =
    ap (λ (n : ℕ). distance taken.sending.una n) c.before-before.ensures.una ∙ ap (λ (x : Connection). distance x.sending.una old.connection.sending.una) (sym same)
    in
    record {
      una = λ synced rst syn window sent.
          una_of old.connection taken new.connection s.number s.window s.ack same
          (c.step-reply.ensures.takes (open_phase old.connection opened) (open_not_shut old.connection opened) synced rst syn window sent);
      sound = λ sound.
          let moved : taken.sending.flight + distance taken.sending.una b.una ≡ old.connection.sending.flight =
          ap (λ (n : ℕ). taken.sending.flight + distance taken.sending.una n) c.before-before.ensures.una ∙ c.step-reply.ensures.next (open_phase old.connection opened)
          in
          let learned = c.learn.ensures.sound is (subst (λ (n : ℕ). IsSound old.flow n) (sym moved) sound) in
          subst (λ (x : Socket). IsSound x.flow x.connection.sending.flight) (sym c.answer.ensures.same)
          (subst (λ (x : Connection). IsSound c.learn.new.self.flow x.sending.flight) (sym (ap (λ (x : Socket). x.connection) c.learn.ensures.same)) learned);
      hears = λ synced rst syn window sent.
          hears_of old.connection taken new.connection c.args.outgoing.now s.ack same
          (c.step-reply.ensures.hears (open_phase old.connection opened) (open_not_shut old.connection opened) synced rst syn window sent);
      restarts = λ some.
          c.answer.ensures.resend_at
          ∙ c.learn.ensures.restarts is _ c.step-reply.ensures.out (subst (λ (n : ℕ). 0 < n) (sym newly) some)
          ∙ sym (ap (λ (x : Socket). restarted_at x now) c.answer.ensures.same);
      keeps = λ none before armed. subst (λ (a : Option ℕ). IsArmed before a now) (sym c.answer.ensures.resend_at) (c.learn.ensures.keeps is (newly ∙ none) before armed);
      armed = λ some. subst (λ (a : Option ℕ). IfSome a (λ at. at ≤ later now 60000)) (sym c.answer.ensures.resend_at) (c.learn.ensures.armed is (subst (λ (n : ℕ). 0 < n) (sym newly) some));
      lives = λ lasts some.
          subst (λ (n : ℕ). later now 300000 ≤ n) (sym c.answer.ensures.ends_at)
          (c.learn.ensures.lives is (λ e. lasts (ap state_from same ∙ e)) (subst (λ (n : ℕ). 0 < n) (sym newly) some));
      lasts = λ lasts.
          subst (λ (n : ℕ). min old.timers.ends_at (later now 300000) ≤ n) (sym c.answer.ensures.ends_at) (c.learn.ensures.lasts is (λ e. lasts (ap state_from same ∙ e)));
      near = λ lasts synced rst close.
          subst (λ (n : ℕ). later now 300000 ≤ n) (sym c.answer.ensures.ends_at)
          (c.learn.ensures.near is (λ e. lasts (ap state_from same ∙ e)) rst
          (subst (λ (n : ℕ). distance s.number n ≤ b.room + 1) (sym (c.before-before.ensures.next synced))
          (subst (λ (n : ℕ). distance s.number old.connection.receiving.next ≤ n + 1) (sym c.before-before.ensures.room) close)));
      partial = λ needed some part rescued.
          ap (λ (x : Socket). x.flow.resend) c.answer.ensures.same
          ∙ c.learn.ensures.partial is needed (subst (λ (n : ℕ). 0 < n) (sym newly) some)
          (subst (λ (x : Connection). is_partial (phase_heard old.flow ((x.sending.una + x.sending.flight) % 4294967296)) x.sending.una ≡ true) same part)
          (subst (λ (n : ℕ). old.flow.rescued ≤ n) (sym newly) rescued);
      undoes = λ some needless.
          let undone = c.learn.ensures.undoes is (subst (λ (n : ℕ). 0 < n) (sym newly) some) needless in
          let there : Undoes old.flow c.learn.new.self.flow (newly_in old new) taken.sending.flight taken.sending.una =
          subst (λ (n : ℕ). Undoes old.flow c.learn.new.self.flow n taken.sending.flight taken.sending.una) newly undone
          in
          let moved : Undoes old.flow c.learn.new.self.flow (newly_in old new) new.connection.sending.flight new.connection.sending.una =
          subst (λ (x : Connection). Undoes old.flow c.learn.new.self.flow (newly_in old new) x.sending.flight x.sending.una) (sym same) there
          in
          subst (λ (f : Flow). Undoes old.flow f (newly_in old new) new.connection.sending.flight new.connection.sending.una)
          (sym (ap (λ (x : Socket). x.flow) c.answer.ensures.same)) moved;
      counted = λ none duplicate synced calm past few.
          let twin : IsDuplicate b.una b.flight b.window b.next b.room s = record {
            waits = subst (λ (n : ℕ). 0 < n) (sym c.before-before.ensures.flight) duplicate.waits;
            not_closed = subst (λ (n : ℕ). 0 < n) (sym c.before-before.ensures.window) duplicate.not_closed;
            near =
                subst (λ (n : ℕ). distance s.number n ≤ b.room + 1) (sym (c.before-before.ensures.next synced))
                (subst (λ (n : ℕ). distance s.number old.connection.receiving.next ≤ n + 1) (sym c.before-before.ensures.room) duplicate.near);
            no_rst = duplicate.no_rst;
            no_syn = duplicate.no_syn;
            no_fin = duplicate.no_fin;
            no_text = duplicate.no_text;
            ack = duplicate.ack ∙ ap Some (sym c.before-before.ensures.una);
            same = duplicate.same ∙ sym c.before-before.ensures.window;
          } in
          subst (λ (x : Socket). (x.flow.resend ≡ true) ⊎ ((old.flow.congestion.duplicates < x.flow.congestion.duplicates) × (x.flow.congestion.duplicates < 3))) (sym c.answer.ensures.same)
          (c.learn.ensures.counted is (newly ∙ none) twin calm (subst (λ (x : Connection). is_past old.flow.congestion.phase x.sending.una ≡ true) same past) few);
      third = λ none duplicate synced calm past two.
          let twin : IsDuplicate b.una b.flight b.window b.next b.room s = record {
            waits = subst (λ (n : ℕ). 0 < n) (sym c.before-before.ensures.flight) duplicate.waits;
            not_closed = subst (λ (n : ℕ). 0 < n) (sym c.before-before.ensures.window) duplicate.not_closed;
            near =
                subst (λ (n : ℕ). distance s.number n ≤ b.room + 1) (sym (c.before-before.ensures.next synced))
                (subst (λ (n : ℕ). distance s.number old.connection.receiving.next ≤ n + 1) (sym c.before-before.ensures.room) duplicate.near);
            no_rst = duplicate.no_rst;
            no_syn = duplicate.no_syn;
            no_fin = duplicate.no_fin;
            no_text = duplicate.no_text;
            ack = duplicate.ack ∙ ap Some (sym c.before-before.ensures.una);
            same = duplicate.same ∙ sym c.before-before.ensures.window;
          } in
          ap (λ (x : Socket). x.flow.resend) c.answer.ensures.same
          ∙ c.learn.ensures.third is (newly ∙ none) twin calm (subst (λ (x : Connection). is_past old.flow.congestion.phase x.sending.una ≡ true) same past) two;
    }

-- text that was taken by the connection
gets_as : (old new d : Connection) (e : Move) (room : ℕ) (before after : List ℕ) → d ≡ new → GetsBy e old room new.receiving before after → GetsBy e old room d.receiving before after
gets_as old new d e room before after is gets = subst (λ (x : Connection). GetsBy e old room x.receiving before after) (sym is) gets

pub returns-in-Closed-clause-gets : goal.returns-in-Closed-clause-gets
returns-in-Closed-clause-gets c = λ opened synced.
    let old = c.args.self.now.connection in
    c.step-reply.ensures.gets (open_phase old opened) (open_not_shut old opened) synced

pub returns-in-SynReceived-clause-gets : goal.returns-in-SynReceived-clause-gets
returns-in-SynReceived-clause-gets c = λ opened synced.
    let old = c.args.self.now.connection in
    gets_as old c.step-reply.new.self c.on_syn.new.self.connection (move.Arrives c.args.segment c.args.fresh) _ c.args.incoming.now c.step-reply.new.incoming (ap (λ (x : Socket). x.connection) c.on_syn.ensures.same)
    (c.step-reply.ensures.gets (open_phase old opened) (open_not_shut old opened) synced)

pub returns-in_default-clause-gets : goal.returns-in_default-clause-gets
returns-in_default-clause-gets c = λ opened synced.
    let old = c.args.self.now.connection in
    let same : c.answer.new.self.connection ≡ c.step-reply.new.self = ap (λ (x : Socket). x.connection) c.answer.ensures.same ∙ ap (λ (x : Socket). x.connection) c.learn.ensures.same in
    gets_as old c.step-reply.new.self c.answer.new.self.connection (move.Arrives c.args.segment c.args.fresh) _ c.args.incoming.now c.step-reply.new.incoming same (c.step-reply.ensures.gets (open_phase old opened) (open_not_shut old opened) synced)

pub returns-in_default-clause-stays : goal.returns-in_default-clause-stays
returns-in_default-clause-stays c = λ opened unreset.
    let same : c.answer.new.self.connection ≡ c.step-reply.new.self = ap (λ (x : Socket). x.connection) c.answer.ensures.same ∙ ap (λ (x : Socket). x.connection) c.learn.ensures.same in
    ap endpoint_of same ∙ c.step-reply.ensures.stays (open_phase c.args.self.now.connection opened) unreset

pub returns-in_default-clause-keeps : goal.returns-in_default-clause-keeps
returns-in_default-clause-keeps c = λ opened after none still room.
    let old = c.args.self.now in
    let taken = c.step-reply.new.self in
    let mid = c.learn.new.self in
    let new = c.answer.new.self in
    let size = length c.args.incoming.now in
    let same : new.connection ≡ taken = ap (λ (x : Socket). x.connection) c.answer.ensures.same ∙ ap (λ (x : Socket). x.connection) c.learn.ensures.same in
    let edge = c.step-reply.ensures.edge (open_phase old.connection opened) none (ap (λ (x : Connection). x.receiving.has_fin) (sym same) ∙ still) in
    let first : is_ahead old.edge (edge_of taken.receiving size) ≡ true = ap (λ (n : ℕ). is_ahead old.edge n) edge ∙ room in
    let second : is_ahead mid.edge (edge_of mid.connection.receiving size) ≡ true = ap (λ (x : Socket). is_ahead x.edge (edge_of x.connection.receiving size)) c.learn.ensures.same ∙ first in
    let long : length c.step-reply.new.incoming ≡ size = c.step-reply.auto.incoming in
    let told = c.answer.ensures.keeps (ap is_open c.before-before.ensures.state ∙ opened) (subst (λ (n : ℕ). is_ahead mid.edge (edge_of mid.connection.receiving n) ≡ true) (sym long) second) in
    ap (λ (x : Socket). is_ahead new.edge (edge_of x.connection.receiving size)) c.answer.ensures.same ∙ subst (λ (n : ℕ). is_ahead new.edge (edge_of mid.connection.receiving n) ≡ true) long told
