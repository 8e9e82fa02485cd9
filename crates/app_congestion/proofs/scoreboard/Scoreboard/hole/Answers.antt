use Rattle.std.proofs.Common.{arith, ◌+◌, ◌≡◌, ◌-◌}
use Rattle.app_congestion.proofs.scoreboard.Scoreboard.hole.Goals as goal

pub returns : goal.returns
returns c =
    let next : c.lost-lost.result + (c.next-next.result - c.lost-lost.result) ≡ c.next-next.result = omega arith in
    record {
      after = c.lost-lost.ensures.after;
      some = omega arith;
      before = c.lost-lost.ensures.before;
      lost = λ n low high. c.next-next.ensures.lost n low (omega arith);
      next = rw next (c.next-next.ensures.next (omega arith));
    }
