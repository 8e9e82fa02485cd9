use Rattle.std.proofs.Common.{◌≡◌, ◌∙◌, Some, ap, false, length, subst, sym, true}
use Rattle.std.specs.Prelude.{is_none}
use Rattle.app_host.proofs.Skips.{faulty-skipped, none-skipped, skipped-by}
use Rattle.app_host.specs.Ipv6Fault.{fault_of}
use Rattle.app_host.specs.Skipped.{is_passed}
use Rattle.wire_extensions.specs.Chain.{chain_of}
use Rattle.app_host.proofs.skipped.skipped.Goals as goal

pub returns-then-not-is_extension-clause-value : goal.returns-then-not-is_extension-clause-value
returns-then-not-is_extension-clause-value c = sym (none-skipped c.args.next_header c.args.payload.now (sym c.is_extension.ensures ∙ c.if-not-is_extension.true))

pub returns-in-Some-clause-value : goal.returns-in-Some-clause-value
returns-in-Some-clause-value c =
    sym (faulty-skipped c.args.next_header c.args.payload.now c.in-Some.field-0 (sym c.is_extension.ensures ∙ c.if-not-is_extension.false) (sym c.first_fault.ensures ∙ c.in-Some.is))

pub returns-then-is_passed-clause-value : goal.returns-then-is_passed-clause-value
returns-then-is_passed-clause-value c =
    let number = c.args.next_header in
    let payload = c.args.payload.now in
    let none : is_none (fault_of number payload) ≡ true = ap is_none (sym c.first_fault.ensures ∙ c.in-None.is) in
    let passed : is_passed (chain_of number (length payload) payload) payload ≡ true = subst (λ d. is_passed d payload ≡ true) c.of-chain.ensures.value (sym c.is_passed.ensures ∙ c.if-is_passed.true) in
    ap Some c.of-chain.ensures.value ∙ sym (skipped-by number payload true true (sym c.is_extension.ensures ∙ c.if-not-is_extension.false) none passed)

pub returns-else-is_passed-clause-value : goal.returns-else-is_passed-clause-value
returns-else-is_passed-clause-value c =
    let number = c.args.next_header in
    let payload = c.args.payload.now in
    let none : is_none (fault_of number payload) ≡ true = ap is_none (sym c.first_fault.ensures ∙ c.in-None.is) in
    let stopped : is_passed (chain_of number (length payload) payload) payload ≡ false = subst (λ d. is_passed d payload ≡ false) c.of-chain.ensures.value (sym c.is_passed.ensures ∙ c.if-is_passed.false) in
    sym (skipped-by number payload true false (sym c.is_extension.ensures ∙ c.if-not-is_extension.false) none stopped)
