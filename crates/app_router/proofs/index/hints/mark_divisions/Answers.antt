use Rattle.std.proofs.Common.{◌∙◌, arith}
use Rattle.app_router.proofs.index.hints.mark_divisions.Goals as goal

pub loop-i-preserved : goal.loop-i-preserved
loop-i-preserved c =
    let kept = c.loop-i.invariant in
    record {
      same = c.set_hint.ensures.same ∙ kept.same;
      others = λ k less. c.set_hint.ensures.others k (λ e. omega (arith, e, less)) ∙ kept.others k less;
    }

pub loop-i-2-preserved : goal.loop-i-2-preserved
loop-i-2-preserved c =
    let kept = c.loop-i-2.invariant in
    record {
      same = c.set_hint-in-loop-i-2.ensures.same ∙ kept.same;
      others = λ k less. c.set_hint-in-loop-i-2.ensures.others k (λ e. omega (arith, e, less)) ∙ kept.others k less;
    }
