use Rattle.std.proofs.Common.{◌≡◌, sym, subst}
use Rattle.std.specs.Prelude.{not}
use Rattle.app_connection.specs.States.{state_at}
use Rattle.app_connection.specs.Worlds.{TellsState}
use Rattle.app_connection.specs.declared.state.State.{State}
use Rattle.app_connection.proofs.Telling.{tells_open}
use Rattle.app_connection.proofs.connection.Connection.state.Goals as goal

pub returns-in-Open-clause-tells : goal.returns-in-Open-clause-tells
returns-in-Open-clause-tells c = λ there back consumed outgoing incoming stand.
    let self = c.args.self.now in
    let is : c.state_of.result ≡ state_at self.sending.is_closed (not self.sending.has_fin) self.receiving.has_fin self.is_peer_first = cc in
    subst (λ (s : State). TellsState s there back) (sym is) (tells_open there back consumed self outgoing incoming stand)
