use Rattle.tcp_stream.proofs.Round.{goes_on}
use Rattle.tcp_stream.proofs.model.goes_on.Goals as goal

pub returns : goal.returns
returns c = goes_on
