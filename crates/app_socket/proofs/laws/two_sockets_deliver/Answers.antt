use Rattle.app_socket.proofs.Delivery as delivery
use Rattle.app_socket.proofs.laws.two_sockets_deliver.Goals as goal

pub returns : goal.returns
returns c = delivery.two_sockets_deliver
