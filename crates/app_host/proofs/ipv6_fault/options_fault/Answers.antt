use Rattle.std.proofs.Common.{◌≡◌, ◌∙◌, ◌≤◌, ◌+◌, None, ap, arith, length, refl, subst, sym}
use Rattle.app_host.specs.Ipv6Fault.{option_fault, options_fault}
use Rattle.app_host.proofs.Ipv6Faults.{option_end-later, options-end, options-go, options-stop}
use Rattle.app_host.proofs.ipv6_fault.options_fault.Goals as goal

pub loop-start-init : goal.loop-start-init
loop-start-init c = (length c.args.payload.now, omega arith, refl)

pub loop-start-preserved : goal.loop-start-preserved
loop-start-preserved c =
    let payload = c.args.payload.now in
    let end = c.args.end in
    let (n, few, same) = c.loop-start.invariant in
    let none : option_fault payload c.loop-start.start end ≡ None = sym c.option_fault.ensures ∙ c.in_default.is in
    let (k, fewer, step) = options-go n payload c.loop-start.start end few c.loop-start-test.true none in
    (k, subst (λ s. end ≤ k + s) (sym c.option_end-start.ensures) fewer, ap (λ s. options_fault k payload s end) c.option_end-start.ensures ∙ sym step ∙ same)

pub loop-start-smaller : goal.loop-start-smaller
loop-start-smaller c = omega (arith, c.option_end-start.ensures, option_end-later c.args.payload.now c.loop-start.start, c.loop-start-test.true)

pub returns-in-Some : goal.returns-in-Some
returns-in-Some c =
    let (n, few, same) = c.loop-start.invariant in
    sym (options-stop n c.args.payload.now c.loop-start.start c.args.end c.in-Some.fault few c.loop-start-test.true (sym c.option_fault.ensures ∙ c.in-Some.is)) ∙ same

pub returns : goal.returns
returns c = let (n, few, same) = c.loop-start.invariant in sym (options-end n c.args.payload.now c.loop-start.start c.args.end c.loop-start-test.false) ∙ same
