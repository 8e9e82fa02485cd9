use Rattle.app_connection.proofs.Agreement.{both_agree}
use Rattle.app_connection.proofs.laws.both_agree.Goals as goal

pub returns : goal.returns
returns c = both_agree
