use Rattle.std.proofs.Common.{refl, ap}
use Rattle.app_socket.proofs.Opened.{no_items, open_phase}
use Rattle.app_socket.specs.Segments.{taken_of}
use Rattle.app_socket.specs.declared.step.Event.{Event}
use Rattle.app_socket.proofs.Stepping.{steps_by}
use Rattle.app_socket.proofs.socket.Socket.step.Goals as goal

pub returns-in-Arrives-clause-sends : goal.returns-in-Arrives-clause-sends
returns-in-Arrives-clause-sends c = λ opened. no_items _ c.on_arrival.result (c.on_arrival.ensures.bare opened)

pub returns-in-Abort-clause-sends : goal.returns-in-Abort-clause-sends
returns-in-Abort-clause-sends c = λ opened. no_items _ c.step-in-Abort.result (c.step-in-Abort.ensures.bare (open_phase c.args.self.now.connection opened) (λ x. x) refl)

pub returns-in-Arrives-clause-steps : goal.returns-in-Arrives-clause-steps
returns-in-Arrives-clause-steps c =
    let self = c.args.self.now in
    let it = c.on_arrival in
    steps_by self.connection it.new.self.connection c.args.outgoing.now c.args.incoming.now it.new.incoming _ (taken_of self c.args.now c.args.event) _ (ap (λ (x : Event). taken_of self c.args.now x) c.in-Arrives.is) it.ensures.steps
