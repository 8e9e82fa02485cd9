use Rattle.app_socket.proofs.Openings as openings
use Rattle.app_socket.proofs.laws.sockets_that_open_again_deliver.Goals as goal

pub returns : goal.returns
returns c = openings.sockets_that_open_again_deliver
