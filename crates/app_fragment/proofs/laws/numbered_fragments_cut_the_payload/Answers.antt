use Rattle.app_fragment.proofs.NumberedCuts.{numbered-cut}
use Rattle.app_fragment.proofs.laws.numbered_fragments_cut_the_payload.Goals as goal

pub returns : goal.returns
returns c = numbered-cut
