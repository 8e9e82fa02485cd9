use Rattle.std.specs.Prelude.{None}
use Rattle.app_connection.proofs.Going.{goes_at}
use Rattle.app_socket.proofs.socket.Socket.tick_set_up.Goals as goal

pub returns-then-not-is_reached-clause-goes : goal.returns-then-not-is_reached-clause-goes
returns-then-not-is_reached-clause-goes c = λ there back consumed buffer stand. goes_at there back consumed c.args.self.now.connection c.args.outgoing.now buffer None stand tt
