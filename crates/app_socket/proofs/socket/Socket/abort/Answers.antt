use Rattle.app_connection.proofs.Stepping.{steps_abort}
use Rattle.app_socket.proofs.socket.Socket.abort.Goals as goal

pub returns-clause-steps : goal.returns-clause-steps
returns-clause-steps c = λ outgoing incoming. let e = c.abort.ensures in steps_abort c.args.self.now.connection c.abort.new.self outgoing incoming c.abort.result e.endpoint e.sending e.receiving e.reset
