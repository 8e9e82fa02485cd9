use Rattle.std.proofs.Common.{sym, subst, ℕ, [], ◌∷◌}
use Rattle.std.specs.Prelude.{Some, None}
use Rattle.tcp_stream.specs.Endpoint.{Syn}
use Rattle.app_connection.specs.Worlds.{IsOut, said}
use Rattle.app_connection.proofs.Going.{goes_at, only_syn, says_first, says_syn_ack}
use Rattle.app_connection.proofs.Phases.{phase_open, phase_received, phase_sent}
use Rattle.app_connection.proofs.connection.Connection.send.Goals as goal

pub returns-in-Closed-clause-goes : goal.returns-in-Closed-clause-goes
returns-in-Closed-clause-goes c = λ there back consumed buffer stand. goes_at there back consumed c.args.self.now c.args.outgoing.now buffer None stand tt

pub returns-in-SynSent-clause-goes : goal.returns-in-SynSent-clause-goes
returns-in-SynSent-clause-goes c = λ there back consumed buffer stand.
    let self = c.args.self.now in
    let s = c.set_up.result in
    let out = (stand.sent (phase_sent self c.state.result c.state.ensures.value c.in-SynSent.is)).0 in
    goes_at there back consumed self c.args.outgoing.now buffer (Some (said s)) stand
    (says_first there back (said s) (subst (λ (n : ℕ). IsOut there n (Syn ∷ [])) (sym c.set_up.ensures.number) out) (only_syn s c.set_up.ensures.syn c.set_up.ensures.text c.set_up.ensures.fin) c.set_up.ensures.ack)

pub returns-in-SynReceived-clause-goes : goal.returns-in-SynReceived-clause-goes
returns-in-SynReceived-clause-goes c = λ there back consumed buffer stand.
    let self = c.args.self.now in
    let it = c.set_up-in-SynReceived in
    goes_at there back consumed self c.args.outgoing.now buffer (Some (said it.result)) stand
    (says_syn_ack there back (said it.result) consumed self c.args.outgoing.now buffer (phase_received self c.state.result c.state.ensures.value c.in-SynReceived.is) it.ensures.number
    (only_syn it.result it.ensures.syn it.ensures.text it.ensures.fin) it.ensures.ack stand)

pub returns-in_default-clause-goes : goal.returns-in_default-clause-goes
returns-in_default-clause-goes c = λ there back consumed buffer stand. goes_at there back consumed c.args.self.now c.args.outgoing.now buffer None stand tt

pub returns-in_default-2-clause-goes : goal.returns-in_default-2-clause-goes
returns-in_default-2-clause-goes c = λ there back consumed buffer stand.
    c.cut.ensures.goes (phase_open c.args.self.now c.state.result c.state.ensures.value c.in_default-2.not-Closed c.in_default-2.not-Listen c.in_default-2.not-SynSent c.in_default-2.not-SynReceived) there back consumed buffer stand

pub returns-in_default-3-clause-goes : goal.returns-in_default-3-clause-goes
returns-in_default-3-clause-goes c = λ there back consumed buffer stand. goes_at there back consumed c.args.self.now c.args.outgoing.now buffer None stand tt
