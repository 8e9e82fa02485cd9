use Rattle.c_socket.proofs.Extending.{runs_again}
use Rattle.c_socket.proofs.laws.runs.a_run_is_one_that_opens_again.Goals as goal

pub returns : goal.returns
returns c = runs_again
