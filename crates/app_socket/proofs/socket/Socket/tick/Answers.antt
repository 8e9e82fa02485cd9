use Rattle.std.proofs.Common.{◌≡◌, true, false, refl, sym, ◌∙◌, ap}
use Rattle.std.specs.Prelude.{option_map}
use Rattle.app_socket.proofs.Opened.{no_items, no_text_short, open_phase, open_has_peer}
use Rattle.app_connection.specs.States.{has_peer, state_from}
use Rattle.app_connection.specs.Worlds.{said}
use Rattle.app_socket.specs.Times.{is_open}
use Rattle.app_socket.proofs.Stepping.{steps_idle, steps_silent, steps_tick}
use Rattle.app_socket.proofs.socket.Socket.tick.Goals as goal

pub returns-then-self-now-clause-sends : goal.returns-then-self-now-clause-sends
returns-then-self-now-clause-sends c = λ opened. no_items _ c.step.result (c.step.ensures.bare (open_phase c.args.self.now.connection opened) (λ x. x) refl)

pub returns-clause-sends : goal.returns-clause-sends
returns-clause-sends c = λ opened. c.tick_open.ensures.sends (open_phase c.args.self.now.connection opened)

pub returns-then-not-has_peer-clause-steps : goal.returns-then-not-has_peer-clause-steps
returns-then-not-has_peer-clause-steps c =
    let old = c.args.self.now.connection in
    let none : has_peer (state_from old) ≡ false = sym (c.has_peer.ensures ∙ ap has_peer c.state-state.ensures.value) ∙ c.if-not-has_peer.true in
    steps_idle old c.args.outgoing.now c.args.incoming.now none

pub returns-then-self-now-clause-steps : goal.returns-then-self-now-clause-steps
returns-then-self-now-clause-steps c =
    steps_silent c.args.self.now.connection c.step.new.self c.args.outgoing.now c.args.incoming.now c.step.new.incoming (option_map said c.step.result) c.step.ensures.steps

pub returns-then-not-is_open-clause-steps : goal.returns-then-not-is_open-clause-steps
returns-then-not-is_open-clause-steps c =
    let old = c.args.self.now.connection in
    let has : has_peer (state_from old) ≡ true = sym (c.has_peer.ensures ∙ ap has_peer c.state-state.ensures.value) ∙ c.if-not-has_peer.false in
    steps_tick old c.tick_set_up.new.self.connection c.args.outgoing.now c.args.incoming.now (option_map said c.tick_set_up.result) has c.tick_set_up.ensures.goes

pub returns-clause-steps : goal.returns-clause-steps
returns-clause-steps c =
    let old = c.args.self.now.connection in
    let has : has_peer (state_from old) ≡ true = sym (c.has_peer.ensures ∙ ap has_peer c.state-state.ensures.value) ∙ c.if-not-has_peer.false in
    steps_tick old c.tick_open.new.self.connection c.args.outgoing.now c.args.incoming.now (option_map said c.tick_open.result) has c.tick_open.ensures.goes

pub returns-clause-resends : goal.returns-clause-resends
returns-clause-resends c = λ opened before. c.tick_open.ensures.resends (open_phase c.args.self.now.connection opened) (open_has_peer c.args.self.now.connection opened)

pub returns-clause-acknowledges : goal.returns-clause-acknowledges
returns-clause-acknowledges c = λ opened before. c.tick_open.ensures.acknowledges (open_phase c.args.self.now.connection opened)

pub returns-then-self-now-clause-short : goal.returns-then-self-now-clause-short
returns-then-self-now-clause-short c = no_text_short c.step.result (c.step.ensures.text (λ opened sends. sends))

pub returns-clause-short : goal.returns-clause-short
returns-clause-short c =
    let old = c.args.self.now.connection in
    let opened : is_open (state_from old) ≡ true = sym (c.is_open.ensures ∙ ap is_open c.state-state.ensures.value) ∙ c.if-not-is_open.false in
    c.tick_open.ensures.short (open_phase old opened)
