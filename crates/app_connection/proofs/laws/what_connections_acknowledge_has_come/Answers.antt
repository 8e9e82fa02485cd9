use Rattle.app_connection.proofs.Arrived as arrived
use Rattle.app_connection.proofs.laws.what_connections_acknowledge_has_come.Goals as goal

pub returns : goal.returns
returns c = arrived.both_come_across
