use Rattle.c_read.proofs.StoredFrame.{stores-read, verdicts-read}
use Rattle.c_read.proofs.StoredParts.{only-read}
use Rattle.c_read.proofs.laws.fields_are_parsed.Goals as goal

pub returns : goal.returns
returns c =
    let frame = c.args.frame.now in
    record { stores = stores-read frame; verdicts = verdicts-read c.args.caps frame; only = only-read frame }
