use Rattle.c_socket.proofs.Delivery as delivery
use Rattle.c_socket.proofs.laws.two_programs_deliver.Goals as goal

pub returns : goal.returns
returns c = delivery.two_programs_deliver
