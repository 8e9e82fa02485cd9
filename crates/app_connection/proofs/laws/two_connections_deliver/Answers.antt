use Rattle.app_connection.proofs.Delivery as delivery
use Rattle.app_connection.proofs.laws.two_connections_deliver.Goals as goal

pub returns : goal.returns
returns c = delivery.two_connections_deliver
