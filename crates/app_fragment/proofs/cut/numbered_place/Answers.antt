use Rattle.std.proofs.Common.{◌≡◌, ◌≤◌, ◌+◌, ◌-◌, ◌*◌, ◌/◌, ◌∙◌, None, Some, ap, arith, cond, false, nat_le, refl, sym, true}
use Rattle.std.proofs.lemmas.Bool.Decides.{nat_tests}
use Rattle.app_fragment.proofs.Numbers.{numbered-far, numbered-is}
use Rattle.app_fragment.proofs.cut.numbered_place.Goals as goal

pub returns-in_err-before : goal.returns-in_err-before
returns-in_err-before c =
    let past = c.in_err-before.ensures in
    let far : c.args.len ≤ (c.args.number - 1) * (c.args.room / 8 * 8) = omega (arith, past, c.ranges.len.fits) in
    c.from_residual.ensures ∙ sym (numbered-far c.args.room c.args.len c.args.number c.if-number-eq0.false far)

pub returns-then-is_last : goal.returns-then-is_last
returns-then-is_last c =
    let before = c.in_ok-before.before in
    let last : c.args.len - before ≤ c.args.room = c.if-is_last.ensures.0 refl in
    let test : nat_le (c.args.len - before) c.args.room ≡ true = grind (arith, nat_tests, last) in
    sym (numbered-is c.args.room c.args.len c.args.number before c.if-number-eq0.false c.in_ok-before.ensures.1
    ∙ ap (λ t. cond t None (Some (before + c.args.room / 8 * 8))) test)

pub returns-else-is_last : goal.returns-else-is_last
returns-else-is_last c =
    let before = c.in_ok-before.before in
    let more : ¬ (c.args.len - before ≤ c.args.room) = λ last. let is : c.is_last.result ≡ true = c.is_last.ensures.1 last in cc in
    let test : nat_le (c.args.len - before) c.args.room ≡ false = grind (arith, nat_tests, more) in
    sym (numbered-is c.args.room c.args.len c.args.number before c.if-number-eq0.false c.in_ok-before.ensures.1
    ∙ ap (λ t. cond t None (Some (before + c.args.room / 8 * 8))) test)
