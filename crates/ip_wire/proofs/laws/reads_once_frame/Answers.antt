use Rattle.ip_wire.proofs.ReadsOnce.{frame-once}
use Rattle.ip_wire.proofs.laws.reads_once_frame.Goals as goal

pub returns : goal.returns
returns c = frame-once c.args.received c.args.frame.now
