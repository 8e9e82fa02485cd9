use Rattle.c_read.proofs.RejectedApart.{frame-apart}
use Rattle.c_read.proofs.laws.rejected_is_no_transport.Goals as goal

pub returns : goal.returns
returns c =
    let apart = frame-apart c.args.frame.now in
    record { rejected = apart.none; parsed = apart.all }
