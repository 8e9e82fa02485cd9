use Rattle.std.proofs.Common.{[], ◌∷◌}
use Rattle.tcp_stream.specs.Network.{Ack_comes}
use Rattle.app_connection.proofs.connection.Connection.establish.Goals as goal

pub returns-clause-waits : goal.returns-clause-waits
returns-clause-waits c = λ there which comes waits. record { events = Ack_comes which ∷ []; own = tt; waits = c.on_ack.ensures.waits there which comes waits }
