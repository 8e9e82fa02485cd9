use Rattle.app_edit.proofs.Kept.{found}
use Rattle.app_edit.proofs.Left.{left-stays}
use Rattle.app_edit.proofs.laws.pseudo_header_sum_stays.Goals as goal

pub returns : goal.returns
returns c o p s is one apart left field =
    left-stays o p s c.args.frame.now c.args.bytes.now c.args.at (found c.of.result c.args.frame.now p c.of.ensures.value c.of.ensures.holds is) one c.bytes_fit.ensures
    c.requires.room apart left field
