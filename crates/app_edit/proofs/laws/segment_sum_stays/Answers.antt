use Rattle.app_edit.proofs.Kept.{found, segment-stays}
use Rattle.app_edit.proofs.laws.segment_sum_stays.Goals as goal

pub returns : goal.returns
returns c o p s is one apart here some =
    segment-stays o p s c.args.frame.now c.args.bytes.now c.args.at (found c.of.result c.args.frame.now p c.of.ensures.value c.of.ensures.holds is) one c.bytes_fit.ensures
    c.requires.room apart here some
