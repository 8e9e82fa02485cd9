use Rattle.tcp_stream.proofs.Rounds.{all_is_acknowledged}
use Rattle.tcp_stream.proofs.model.all_is_acknowledged.Goals as goal

pub returns : goal.returns
returns c = all_is_acknowledged
