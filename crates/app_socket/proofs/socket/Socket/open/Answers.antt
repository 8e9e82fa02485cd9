use Rattle.std.proofs.Common.{◌≡◌, true, sym, ◌∙◌, ap}
use Rattle.app_connection.specs.States.{has_peer, state_from}
use Rattle.app_socket.proofs.Stepping.{steps_refused}
use Rattle.app_socket.proofs.socket.Socket.open.Goals as goal

pub returns-then-has_peer-clause-steps : goal.returns-then-has_peer-clause-steps
returns-then-has_peer-clause-steps c =
    let old = c.args.self.now.connection in
    let has : has_peer (state_from old) ≡ true = sym (c.has_peer.ensures ∙ ap has_peer c.state.ensures.value) ∙ c.if-has_peer.true in
    steps_refused old c.args.outgoing.now c.args.incoming.now c.args.iss has
