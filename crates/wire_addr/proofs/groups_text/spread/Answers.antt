use Rattle.std.proofs.Common.{◌≡◌, arith, rules, length, get_or, take, ◌∙◌}
use Rattle.std.proofs.lemmas.List.{take_more_set}
use Rattle.wire_addr.specs.Reading.{spread}
use Rattle.wire_addr.proofs.Spread.{spread-head, spread-zeros, spread-tail, spread_more}
use Rattle.wire_addr.proofs.groups_text.spread.Goals.{then-i-before, else-i-before+then-i-before-2, else-i-before+else-i-before-2}
use Rattle.wire_addr.proofs.groups_text.spread.Goals as goal

pub loop-i-preserved : goal.loop-i-preserved
loop-i-preserved c =
    let size : length c.args.groups.now ≡ 8 = search rules in
    let group : c.if-i-before.all ≡ get_or (spread c.args.before (take c.args.len c.args.groups.now)) c.loop-i.i 0 = elim c.if-i-before.branch [
      | then-i-before w ↦ w.all-is ∙ spread-head c.args.groups.now c.args.len c.args.before c.loop-i.i c.requires.few c.requires.within size w.if-i-before.true
      | else-i-before+then-i-before-2 w ↦ w.all-is ∙ spread-zeros c.args.groups.now c.args.len c.args.before c.loop-i.i c.requires.few c.requires.within size (omega (arith, w.if-i-before.false)) w.if-i-before-2.true
      | else-i-before+else-i-before-2 w ↦ w.all-is ∙ spread-tail c.args.groups.now c.args.len c.args.before c.loop-i.i c.requires.few c.requires.within size w.if-i-before-2.false c.loop-i-test.true
    ] in
    record {
      size = search rules;
      front = take_more_set c.loop-i.all c.loop-i.i c.if-i-before.all (omega (arith, c.loop-i.invariant.size, c.loop-i-test.true))
          ∙ spread_more c.args.groups.now c.args.len c.args.before c.loop-i.i c.requires.few c.requires.within size (take c.loop-i.i c.loop-i.all) c.if-i-before.all c.loop-i-test.true c.loop-i.invariant.front group;
    }
