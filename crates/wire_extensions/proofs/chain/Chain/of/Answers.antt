use Rattle.std.proofs.Common.{◌≤◌, subst, List, ℕ, suc, ◌≡◌, ◌∙◌, ◌+◌, ◌-◌, true, false, ap, arith, length, refl, sym}
use Rattle.wire_extensions.proofs.Steps.{chain-right, chain-walked, walked-end, walked-on}
use Rattle.wire_extensions.specs.Chain.{chain_of, end_of, stepped, walked}
use Rattle.wire_extensions.specs.declared.chain.Chain.{Chain}
use Rattle.wire_extensions.proofs.chain.Chain.of.Goals as goal

ends-within : (protocol len : ℕ) (bytes : List ℕ) (c : Chain) → c ≡ chain_of protocol len bytes → end_of c ≤ length bytes
ends-within protocol len bytes c is = subst (λ (d : Chain). end_of d ≤ length bytes) (sym is) (chain-right protocol len bytes).end

pub loop-init : goal.loop-init
loop-init c =
    let bytes = c.args.bytes.now in
    let len = c.args.len in
    let all : length bytes - 0 ≡ length bytes = omega arith in
    record {
      steps = ap (λ (n : ℕ). walked (suc n) len bytes c.begun-chain.result) all ∙ ap (λ (d : Chain). walked (suc (length bytes)) len bytes d) c.begun-chain.ensures
          ∙ sym (chain-walked c.args.protocol len bytes);
      within = rw c.begun-chain.ensures (omega arith);
      even = rw c.begun-chain.ensures (omega arith);
      part = rw c.begun-chain.ensures tt;
    }

pub loop-preserved : goal.loop-preserved
loop-preserved c =
    let bytes = c.args.bytes.now in
    let len = c.args.len in
    let more = c.loop-test.true in
    let fewer : suc (length bytes - c.loop.counter) ≡ suc (suc (length bytes - (c.loop.counter + 1))) = omega (arith, more) in
    let on : (stepped len bytes c.loop.chain).1 ≡ true = sym c.if-not-step.ensures.goes_on in
    record {
      steps = sym (walked-on (suc (length bytes - c.loop.counter)) (suc (length bytes - (c.loop.counter + 1))) len bytes c.loop.chain c.step.new.self fewer c.step.ensures.chain on)
          ∙ c.loop.invariant.steps;
      within = c.step.ensures.within;
      even = c.step.ensures.even;
      part = c.step.ensures.part;
    }

pub returns-then-not-step-clause-value : goal.returns-then-not-step-clause-value
returns-then-not-step-clause-value c =
    let bytes = c.args.bytes.now in
    let len = c.args.len in
    let off : (stepped len bytes c.loop.chain).1 ≡ false = sym c.if-not-step.ensures.goes_on in
    sym (walked-end (suc (length bytes - c.loop.counter)) (length bytes - c.loop.counter) len bytes c.loop.chain c.step.new.self refl c.step.ensures.chain off)
    ∙ c.loop.invariant.steps

pub returns-else-not-step-clause-value : goal.returns-else-not-step-clause-value
returns-else-not-step-clause-value c =
    let bytes = c.args.bytes.now in
    let len = c.args.len in
    let last = c.loop-test.true in
    let ends = c.loop.auto.counter-end in
    let none : suc (length bytes - c.loop.counter) ≡ suc 0 = omega (arith, last, ends) in
    let on : (stepped len bytes c.loop.chain).1 ≡ true = sym c.if-not-step.ensures.goes_on in
    sym (walked-on (suc (length bytes - c.loop.counter)) 0 len bytes c.loop.chain c.step.new.self none c.step.ensures.chain on) ∙ c.loop.invariant.steps

pub returns-then-not-step-clause-within : goal.returns-then-not-step-clause-within
returns-then-not-step-clause-within c =
    ends-within c.args.protocol c.args.len c.args.bytes.now c.step.new.self (returns-then-not-step-clause-value c)

pub returns-else-not-step-clause-within : goal.returns-else-not-step-clause-within
returns-else-not-step-clause-within c =
    ends-within c.args.protocol c.args.len c.args.bytes.now c.step.new.self (returns-else-not-step-clause-value c)
