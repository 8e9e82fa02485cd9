use Rattle.app_connection.proofs.Stepping.{steps_listen}
use Rattle.app_socket.proofs.socket.Socket.listen.Goals as goal

pub returns-clause-steps : goal.returns-clause-steps
returns-clause-steps c = λ outgoing incoming. let e = c.listen.ensures in steps_listen c.args.self.now.connection c.listen.new.self outgoing incoming e.sending e.receiving e.listens e.stays
