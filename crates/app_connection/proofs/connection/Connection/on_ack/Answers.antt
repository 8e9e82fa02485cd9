use Rattle.std.proofs.Common.{[], ◌∷◌}
use Rattle.tcp_stream.specs.Network.{Ack_comes}
use Rattle.app_connection.proofs.connection.Connection.on_ack.Goals as goal

pub returns-then-not-is_before-clause-waits : goal.returns-then-not-is_before-clause-waits
returns-then-not-is_before-clause-waits c = λ there which comes waits. record { events = Ack_comes which ∷ []; own = tt; waits = c.on_ack.ensures.waits there which comes waits }

pub returns-else-not-is_before-clause-waits : goal.returns-else-not-is_before-clause-waits
returns-else-not-is_before-clause-waits c = λ there which comes waits. record { events = Ack_comes which ∷ []; own = tt; waits = c.on_ack.ensures.waits there which comes waits }
