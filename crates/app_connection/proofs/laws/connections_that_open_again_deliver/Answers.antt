use Rattle.app_connection.proofs.Openings as openings
use Rattle.app_connection.proofs.laws.connections_that_open_again_deliver.Goals as goal

pub returns : goal.returns
returns c = openings.connections_that_open_again_deliver
