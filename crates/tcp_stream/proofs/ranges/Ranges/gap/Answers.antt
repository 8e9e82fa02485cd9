use Rattle.std.proofs.Common.{arith, sym, ◌∙◌}
use Rattle.tcp_stream.proofs.Spans.{within_in, within_left, within_right, has_none, has_first, has_second, has_third, has_fourth, has_fifth, has_sixth, has_seventh, has_eighth, end_first, end_second, end_third, end_fourth, end_fifth, end_sixth, end_seventh, end_eighth}
use Rattle.tcp_stream.proofs.ranges.Ranges.gap.Goals as goal

pub returns-then-covers-clause-before : goal.returns-then-covers-clause-before
returns-then-covers-clause-before c = λ n le lt.
    let s = c.args.self.now in
    has_first s n (within_in s.first.from s.first.to n (omega (arith, within_left s.first.from s.first.to c.args.from (sym c.covers.ensures ∙ c.if-covers.true))) lt)

pub returns-then-covers-clause-lost : goal.returns-then-covers-clause-lost
returns-then-covers-clause-lost c =
    let s = c.args.self.now in
    end_first s (omega (arith, within_left s.first.from s.first.to c.args.from (sym c.covers.ensures ∙ c.if-covers.true), within_right s.first.from s.first.to c.args.from (sym c.covers.ensures ∙ c.if-covers.true)))

pub returns-then-covers-2-clause-before : goal.returns-then-covers-2-clause-before
returns-then-covers-2-clause-before c = λ n le lt.
    let s = c.args.self.now in
    has_second s n (within_in s.second.from s.second.to n (omega (arith, within_left s.second.from s.second.to c.args.from (sym c.covers-else-covers.ensures ∙ c.if-covers-2.true))) lt)

pub returns-then-covers-2-clause-lost : goal.returns-then-covers-2-clause-lost
returns-then-covers-2-clause-lost c =
    let s = c.args.self.now in
    end_second s (omega (arith, within_left s.second.from s.second.to c.args.from (sym c.covers-else-covers.ensures ∙ c.if-covers-2.true), within_right s.second.from s.second.to c.args.from (sym c.covers-else-covers.ensures ∙ c.if-covers-2.true)))

pub returns-then-covers-3-clause-before : goal.returns-then-covers-3-clause-before
returns-then-covers-3-clause-before c = λ n le lt.
    let s = c.args.self.now in
    has_third s n (within_in s.third.from s.third.to n (omega (arith, within_left s.third.from s.third.to c.args.from (sym c.covers-else-covers-2.ensures ∙ c.if-covers-3.true))) lt)

pub returns-then-covers-3-clause-lost : goal.returns-then-covers-3-clause-lost
returns-then-covers-3-clause-lost c =
    let s = c.args.self.now in
    end_third s (omega (arith, within_left s.third.from s.third.to c.args.from (sym c.covers-else-covers-2.ensures ∙ c.if-covers-3.true), within_right s.third.from s.third.to c.args.from (sym c.covers-else-covers-2.ensures ∙ c.if-covers-3.true)))

pub returns-then-covers-4-clause-before : goal.returns-then-covers-4-clause-before
returns-then-covers-4-clause-before c = λ n le lt.
    let s = c.args.self.now in
    has_fourth s n (within_in s.fourth.from s.fourth.to n (omega (arith, within_left s.fourth.from s.fourth.to c.args.from (sym c.covers-else-covers-3.ensures ∙ c.if-covers-4.true))) lt)

pub returns-then-covers-4-clause-lost : goal.returns-then-covers-4-clause-lost
returns-then-covers-4-clause-lost c =
    let s = c.args.self.now in
    end_fourth s (omega (arith, within_left s.fourth.from s.fourth.to c.args.from (sym c.covers-else-covers-3.ensures ∙ c.if-covers-4.true), within_right s.fourth.from s.fourth.to c.args.from (sym c.covers-else-covers-3.ensures ∙ c.if-covers-4.true)))

pub returns-then-covers-5-clause-before : goal.returns-then-covers-5-clause-before
returns-then-covers-5-clause-before c = λ n le lt.
    let s = c.args.self.now in
    has_fifth s n (within_in s.fifth.from s.fifth.to n (omega (arith, within_left s.fifth.from s.fifth.to c.args.from (sym c.covers-else-covers-4.ensures ∙ c.if-covers-5.true))) lt)

pub returns-then-covers-5-clause-lost : goal.returns-then-covers-5-clause-lost
returns-then-covers-5-clause-lost c =
    let s = c.args.self.now in
    end_fifth s (omega (arith, within_left s.fifth.from s.fifth.to c.args.from (sym c.covers-else-covers-4.ensures ∙ c.if-covers-5.true), within_right s.fifth.from s.fifth.to c.args.from (sym c.covers-else-covers-4.ensures ∙ c.if-covers-5.true)))

pub returns-then-covers-6-clause-before : goal.returns-then-covers-6-clause-before
returns-then-covers-6-clause-before c = λ n le lt.
    let s = c.args.self.now in
    has_sixth s n (within_in s.sixth.from s.sixth.to n (omega (arith, within_left s.sixth.from s.sixth.to c.args.from (sym c.covers-else-covers-5.ensures ∙ c.if-covers-6.true))) lt)

pub returns-then-covers-6-clause-lost : goal.returns-then-covers-6-clause-lost
returns-then-covers-6-clause-lost c =
    let s = c.args.self.now in
    end_sixth s (omega (arith, within_left s.sixth.from s.sixth.to c.args.from (sym c.covers-else-covers-5.ensures ∙ c.if-covers-6.true), within_right s.sixth.from s.sixth.to c.args.from (sym c.covers-else-covers-5.ensures ∙ c.if-covers-6.true)))

pub returns-then-covers-7-clause-before : goal.returns-then-covers-7-clause-before
returns-then-covers-7-clause-before c = λ n le lt.
    let s = c.args.self.now in
    has_seventh s n (within_in s.seventh.from s.seventh.to n (omega (arith, within_left s.seventh.from s.seventh.to c.args.from (sym c.covers-else-covers-6.ensures ∙ c.if-covers-7.true))) lt)

pub returns-then-covers-7-clause-lost : goal.returns-then-covers-7-clause-lost
returns-then-covers-7-clause-lost c =
    let s = c.args.self.now in
    end_seventh s (omega (arith, within_left s.seventh.from s.seventh.to c.args.from (sym c.covers-else-covers-6.ensures ∙ c.if-covers-7.true), within_right s.seventh.from s.seventh.to c.args.from (sym c.covers-else-covers-6.ensures ∙ c.if-covers-7.true)))

pub returns-then-covers-8-clause-before : goal.returns-then-covers-8-clause-before
returns-then-covers-8-clause-before c = λ n le lt.
    let s = c.args.self.now in
    has_eighth s n (within_in s.eighth.from s.eighth.to n (omega (arith, within_left s.eighth.from s.eighth.to c.args.from (sym c.covers-else-covers-7.ensures ∙ c.if-covers-8.true))) lt)

pub returns-then-covers-8-clause-lost : goal.returns-then-covers-8-clause-lost
returns-then-covers-8-clause-lost c =
    let s = c.args.self.now in
    end_eighth s (omega (arith, within_left s.eighth.from s.eighth.to c.args.from (sym c.covers-else-covers-7.ensures ∙ c.if-covers-8.true), within_right s.eighth.from s.eighth.to c.args.from (sym c.covers-else-covers-7.ensures ∙ c.if-covers-8.true)))

pub returns-else-covers-8-clause-lost : goal.returns-else-covers-8-clause-lost
returns-else-covers-8-clause-lost c = has_none c.args.self.now c.args.from (sym c.covers.ensures ∙ c.if-covers.false) (sym c.covers-else-covers.ensures ∙ c.if-covers-2.false) (sym c.covers-else-covers-2.ensures ∙ c.if-covers-3.false) (sym c.covers-else-covers-3.ensures ∙ c.if-covers-4.false) (sym c.covers-else-covers-4.ensures ∙ c.if-covers-5.false) (sym c.covers-else-covers-5.ensures ∙ c.if-covers-6.false) (sym c.covers-else-covers-6.ensures ∙ c.if-covers-7.false) (sym c.covers-else-covers-7.ensures ∙ c.if-covers-8.false)
