use Rattle.app_connection.proofs.Stepping.{steps_close}
use Rattle.app_socket.proofs.socket.Socket.close.Goals as goal

pub returns-clause-steps : goal.returns-clause-steps
returns-clause-steps c = λ outgoing incoming. let e = c.close.ensures in steps_close c.args.self.now.connection c.close.new.self outgoing incoming e.same e.phase e.state e.stays e.waits
