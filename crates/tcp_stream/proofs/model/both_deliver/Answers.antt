use Rattle.tcp_stream.proofs.Pair.{both_deliver}
use Rattle.tcp_stream.proofs.model.both_deliver.Goals as goal

pub returns : goal.returns
returns c = both_deliver
