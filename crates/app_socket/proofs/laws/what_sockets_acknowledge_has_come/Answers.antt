use Rattle.app_connection.proofs.Arrived as connections
use Rattle.app_socket.specs.Runs.{ends_of}
use Rattle.app_socket.proofs.Delivery.{runs_of}
use Rattle.app_socket.proofs.laws.what_sockets_acknowledge_has_come.Goals as goal

pub returns : goal.returns
returns c = λ p run. connections.both_come_across (ends_of p) (runs_of p run)
