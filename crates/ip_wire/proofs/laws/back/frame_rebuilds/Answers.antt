use Rattle.ip_wire.proofs.Rewritten.{rewritten-frame}
use Rattle.ip_wire.proofs.laws.back.frame_rebuilds.Goals as goal

pub returns : goal.returns
returns c = λ found. rewritten-frame c.args.bytes.now c.args.frame.now found
