use Rattle.std.proofs.Common.{arith}
use Rattle.std.proofs.lemmas.Grind.{common_steps}
use Rattle.ip_frames.proofs.LineLemmas.{lines-feed, lines-no_feed}
use Rattle.ip_frames.proofs.lines.split_line.Goals as goal

pub returns-in-Some-clause-lines : goal.returns-in-Some-clause-lines
returns-in-Some-clause-lines c =
    let first = lines-feed c.args.text.now c.in-Some.at c.in-Some.ensures in
    grind (arith, common_steps, first.0, first.1, c.strip_return.ensures)

pub returns-in-None-clause-lines : goal.returns-in-None-clause-lines
returns-in-None-clause-lines c = lines-no_feed c.args.text.now c.requires c.in-None.ensures
