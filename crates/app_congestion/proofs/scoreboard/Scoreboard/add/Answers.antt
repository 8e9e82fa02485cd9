use Rattle.std.proofs.Common.{arith, ◌≡◌, ◌≤◌, ◌<◌, ◌||◌, ℕ, ◌∙◌}
use Rattle.app_congestion.proofs.Ranges.{room-unused, joined-all, pushed, pushed-lowest, pushed-ranges, pushed-room, pushed-sound, used-most, either, exchanged}
use Rattle.app_congestion.specs.Scoreboard.{has, ranges_of, covers, is_within}
use Rattle.app_congestion.proofs.scoreboard.Scoreboard.add.Goals as goal

pub returns : goal.returns
unfolding has
returns c =
    let kept = c.join-range-4.new.self in
    let last = c.join-range-4.result in
    let all : (n : ℕ) → (has kept n || covers last n) ≡ (has c.args.self.now n || is_within c.args.from c.args.to n) =
    λ n.
    joined-all
    (has c.new-kept.result n)
    (has c.join-range.new.self n)
    (has c.join-range-2.new.self n)
    (has c.join-range-3.new.self n)
    (has kept n)
    (is_within c.args.from c.args.to n)
    (covers c.join-range.result n)
    (covers c.join-range-2.result n)
    (covers c.join-range-3.result n)
    (covers last n)
    (covers c.args.self.now.first n)
    (covers c.args.self.now.second n)
    (covers c.args.self.now.third n)
    (covers c.args.self.now.fourth n)
    (c.new-kept.ensures.known n)
    (c.join-range.ensures.known n)
    (c.join-range-2.ensures.known n)
    (c.join-range-3.ensures.known n)
    (c.join-range-4.ensures.known n)
    in
    let unused : ranges_of c.args.self.now < 4 → 4294967295 ≤ kept.fourth.from =
    λ room. omega (arith, room-unused c.args.self.now room)
    in
    let new = c.push.new.self in
    let e = c.push.ensures in
    let same : 4294967295 ≤ kept.fourth.from → (n : ℕ) → has new n ≡ (has c.args.self.now n || is_within c.args.from c.args.to n) =
    λ none n.
    pushed kept new last e.first e.second e.third e.fourth none n ∙ (exchanged (covers last n) (has kept n) ∙ all n)
    in
    record {
      sound = λ n known. either _ _ _ (all n) (pushed-sound kept new last e.first e.second e.third e.fourth n known);
      exact = λ room. same (unused room);
      full = λ room. same (pushed-room kept new e.fourth room);
      lowest = λ n m known last-known before.
          pushed-lowest kept new last e.first e.second e.third e.fourth c.join-range-4.ensures.order n m (all n ∙ known) last-known before;
      ranges = omega (arith, used-most, pushed-ranges kept new last e.first e.second e.third e.fourth);
    }
