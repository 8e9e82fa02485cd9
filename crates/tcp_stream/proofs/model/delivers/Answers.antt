use Rattle.tcp_stream.proofs.Kept.{run_delivers}
use Rattle.tcp_stream.proofs.model.delivers.Goals as goal

pub returns : goal.returns
returns c = run_delivers
