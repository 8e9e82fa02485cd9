use Rattle.c_socket.proofs.Openings as openings
use Rattle.c_socket.proofs.laws.programs_that_open_again_deliver.Goals as goal

pub returns : goal.returns
returns c = openings.programs_that_open_again_deliver
