use Rattle.app_edit.proofs.Kept.{found}
use Rattle.app_edit.proofs.OtherBytes.{stays-byte}
use Rattle.app_edit.proofs.laws.other_bytes_stay.Goals as goal

pub returns : goal.returns
returns c o p is out header transport =
    stays-byte o p c.args.frame.now c.args.bytes.now c.args.at c.args.i (found c.of.result c.args.frame.now p c.of.ensures.value c.of.ensures.holds is) c.bytes_fit.ensures c.requires
    out header transport
