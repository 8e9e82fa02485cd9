use Rattle.std.proofs.Common.{◌≡◌, sym, subst, false, length}
use Rattle.std.specs.Prelude.{Option, None}
use Rattle.app_connection.specs.declared.step.Event.TheVariants as move
use Rattle.app_options.specs.declared.timestamps.Recent.{Recent}
use Rattle.app_socket.specs.Segments.{GoesForward, rejects}
use Rattle.app_socket.proofs.ManyRounds.{further}
use Rattle.app_socket.proofs.Stepping.{choice_false, steps_by}
use Rattle.app_socket.proofs.Rounds.{none_rejected}
use Rattle.app_socket.proofs.laws.hear.Goals as goal

pub returns-clause-further : goal.returns-clause-further
returns-clause-further c = λ by end taken waiting a stands.
    let old = c.args.socket.now in
    let new = c.step.new.self in
    let outgoing = c.args.outgoing.now in
    let before = c.args.incoming.now in
    let rejected : rejects old c.args.now c.args.answer.now c.args.options.now ≡ false = none_rejected _ _ _ c.requires.taken in
    further old new outgoing before c.step.new.incoming (length before) c.args.now by end taken 0 c.args.answer c.args.options.now.timestamp _ c.requires.out c.step.ensures.out waiting a (c.step.ensures.stays waiting.opened a.rst)
    (steps_by old.connection new.connection outgoing before c.step.new.incoming _ (move.Arrives c.args.answer 0) _ (sym (choice_false _ (move.Send 0 0) (move.Arrives c.args.answer 0) rejected)) c.step.ensures.steps)
    (λ after. c.step.ensures.learns waiting.opened after rejected) stands

pub returns-clause-recent : goal.returns-clause-recent
returns-clause-recent c = λ opened none. let h : GoesForward None c.step.new.self.agreed.recent c.args.now = subst (λ (o : Option Recent). GoesForward o c.step.new.self.agreed.recent c.args.now) none (c.step.ensures.recent opened) in h
