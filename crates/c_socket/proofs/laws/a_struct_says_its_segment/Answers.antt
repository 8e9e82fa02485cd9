use Rattle.c_socket.proofs.Saying.{said_as}
use Rattle.c_socket.proofs.laws.a_struct_says_its_segment.Goals as goal

pub returns : goal.returns
returns c = said_as
