use Rattle.app_congestion.proofs.Ranges.{pushed-four}
use Rattle.app_congestion.specs.Scoreboard.{has}
use Rattle.app_congestion.proofs.scoreboard.Scoreboard.advance.Goals as goal

pub returns-clause-known : goal.returns-clause-known
unfolding has
returns-clause-known c n =
    pushed-four _ _ _ _ _ _ _ _ _
    (c.new-kept.ensures.known n)
    (c.push_after.ensures.known n)
    (c.push_after-2.ensures.known n)
    (c.push_after-3.ensures.known n)
    (c.push_after-4.ensures.known n)
