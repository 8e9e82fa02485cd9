use Rattle.app_connection.proofs.Arrived as connections
use Rattle.app_socket.proofs.Delivery as sockets
use Rattle.app_socket.specs.Runs as socket
use Rattle.c_socket.specs.Runs.{ends_of}
use Rattle.c_socket.proofs.Delivery.{runs_of}
use Rattle.c_socket.proofs.laws.what_programs_acknowledge_has_come.Goals as goal

pub returns : goal.returns
returns c = λ p run. connections.both_come_across (socket.ends_of (ends_of p)) (sockets.runs_of (ends_of p) (runs_of p run))
