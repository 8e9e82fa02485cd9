use Rattle.std.proofs.Common.{◌+◌, sym, subst, arith}
use Rattle.wire_addr.specs.Grammar.{IsNumber}
use Rattle.wire_addr.proofs.Endings.{following_is, ends_at, ends_in, last_in, no_end, none_in}
use Rattle.wire_addr.proofs.ending_text.number_after.Goals as goal

pub returns-in_err-at-clause-value : goal.returns-in_err-at-clause-value
returns-in_err-at-clause-value c =
    let text = c.args.text.now in
    let first = c.saturating_sub-first.result in
    let none = none_in text first c.args.mark c.in_err-at.ensures in
    rw c.from_residual.ensures (no_end c.args.mark c.args.places c.args.most c.requires.apart text first (omega arith) none)

pub returns-in_err-number-clause-value : goal.returns-in_err-number-clause-value
returns-in_err-number-clause-value c =
    let text = c.args.text.now in
    let at = c.saturating_sub-first.result + c.in_ok-at.field-0 in
    let (within, here, last) = last_in text c.saturating_sub-first.result c.args.mark c.in_ok-at.field-0 c.in_ok-at.ensures in
    rw c.from_residual-in_err-number.ensures (λ front n h.
    let (front_is, number) = ends_at c.args.mark c.args.places c.args.most c.requires.apart text front n at h within here last in
    c.in_err-number.ensures.value n (subst (λ t. IsNumber 10 c.args.places c.args.most t n) (sym (following_is text (at + 1))) number))

pub returns-clause-value : goal.returns-clause-value
returns-clause-value c =
    let text = c.args.text.now in
    let at = c.saturating_sub-first.result + c.in_ok-at.field-0 in
    let (within, here, last) = last_in text c.saturating_sub-first.result c.args.mark c.in_ok-at.field-0 c.in_ok-at.ensures in
    let number = subst (λ t. IsNumber 10 c.args.places c.args.most t c.in_ok-number.number) (following_is text (at + 1)) c.in_ok-number.ensures.value in
    ends_in c.args.mark c.args.places c.args.most c.requires.apart text c.in_ok-number.number at within here number
