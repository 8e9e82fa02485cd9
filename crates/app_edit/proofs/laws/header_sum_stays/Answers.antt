use Rattle.app_edit.proofs.Kept.{found, header-stays}
use Rattle.app_edit.proofs.laws.header_sum_stays.Goals as goal

pub returns : goal.returns
returns c o p is ipv4 =
    header-stays o p c.args.frame.now c.args.bytes.now c.args.at (found c.of.result c.args.frame.now p c.of.ensures.value c.of.ensures.holds is) ipv4 c.bytes_fit.ensures
    c.requires.room c.requires.apart
