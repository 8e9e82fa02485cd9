use Rattle.std.proofs.Common.{◌∙◌, ap₂, arith}
use Rattle.std.specs.Ordering.{ordering_then}
use Rattle.app_router.proofs.Places.{ahead, level, rank_cmp}
use Rattle.app_router.proofs.index.Node.by_rank.Goals as goal

pub returns-then-self-other : goal.returns-then-self-other
returns-then-self-other c =
    let a = c.args.self.now in
    let b = c.args.other.now in
    c.cmp.ensures
    ∙ ahead a.version b.version _ c.if-self-other.true
    ∙ rank_cmp a b (omega arith) (omega arith) (omega arith) (omega arith) (omega arith) (omega arith) (omega arith) (omega arith)

pub returns-then-high-other_high : goal.returns-then-high-other_high
returns-then-high-other_high c =
    let a = c.args.self.now in
    let b = c.args.other.now in
    c.cmp-then-high-other_high.ensures
    ∙ ahead a.high b.high _ c.if-high-other_high.true
    ∙ level a.version b.version _ (omega (arith, c.if-self-other.false))
    ∙ rank_cmp a b (omega arith) (omega arith) (omega arith) (omega arith) (omega arith) (omega arith) (omega arith) (omega arith)

pub returns-then-low-other_low : goal.returns-then-low-other_low
returns-then-low-other_low c =
    let a = c.args.self.now in
    let b = c.args.other.now in
    c.cmp-then-low-other_low.ensures
    ∙ ahead a.low b.low _ c.if-low-other_low.true
    ∙ level a.high b.high _ (omega (arith, c.if-high-other_high.false))
    ∙ level a.version b.version _ (omega (arith, c.if-self-other.false))
    ∙ rank_cmp a b (omega arith) (omega arith) (omega arith) (omega arith) (omega arith) (omega arith) (omega arith) (omega arith)

pub returns : goal.returns
returns c =
    let a = c.args.self.now in
    let b = c.args.other.now in
    c.then.ensures
    ∙ ap₂ ordering_then c.cmp-2.ensures c.cmp-3.ensures
    ∙ level a.low b.low _ (omega (arith, c.if-low-other_low.false))
    ∙ level a.high b.high _ (omega (arith, c.if-high-other_high.false))
    ∙ level a.version b.version _ (omega (arith, c.if-self-other.false))
    ∙ rank_cmp a b (omega arith) (omega arith) (omega arith) (omega arith) (omega arith) (omega arith) (omega arith) (omega arith)
