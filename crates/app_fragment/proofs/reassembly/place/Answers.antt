use Rattle.std.proofs.Common.{◌≡◌, ◌≢◌, ◌+◌, ◌<◌, ◌≤◌, IsTrue, length, ◌-◌, arith, ◌∙◌, refl, false}
use Rattle.app_fragment.proofs.reassembly.place.Goals as goal
use Rattle.app_fragment.proofs.Ranges.{each_of_part, of_replaced, length_part, part_of_each}

pub returns-then-none_received-clause-fresh : goal.returns-then-none_received-clause-fresh
returns-then-none_received-clause-fresh c =
    λ new i h. let high : i < c.args.first + (c.args.first + c.div_ceil.result - c.args.first) = omega (arith, c.div_ceil.ensures) in
    each_of_part (λ x. x ≡ 0) c.args.received.now c.args.first _ i (omega (arith, c.div_ceil.ensures)) (c.if-none_received.ensures.0 refl) h.0 high

pub returns-then-none_received-clause-marked : goal.returns-then-none_received-clause-marked
returns-then-none_received-clause-marked c =
    λ new i h.
    let fits : c.args.first + (c.args.first + c.div_ceil.result - c.args.first) ≤ length c.args.received.now = omega (arith, c.div_ceil.ensures) in
    let long : length c.mark.new.received ≡ c.args.first + c.div_ceil.result - c.args.first
    = c.mark.auto.received ∙ length_part c.args.received.now c.args.first (c.args.first + c.div_ceil.result - c.args.first) fits in
    let high : i < c.args.first + length c.mark.new.received = omega (arith, c.div_ceil.ensures) in
    let at : i - c.args.first < length c.mark.new.received = omega arith in
    of_replaced c.args.received.now c.mark.new.received _ c.args.first i (omega arith) h.0 high ∙ c.mark.ensures (i - c.args.first) at

pub returns-then-eq-clause-all : goal.returns-then-eq-clause-all
returns-then-eq-clause-all c =
    λ new i h. let high : i < c.args.first + (c.args.first + c.div_ceil.result - c.args.first) = omega (arith, c.div_ceil.ensures) in
    each_of_part (λ x. x ≢ 0) c.args.received.now c.args.first _ i (omega (arith, c.div_ceil.ensures)) (c.if-not-all_received.ensures.0 refl) h.0 high

pub returns-then-not-all_received-clause-some : goal.returns-then-not-all_received-clause-some
returns-then-not-all_received-clause-some c = λ e zero.
    let bad : IsTrue false = c.if-none_received.ensures.1 (part_of_each (λ x. x ≡ 0) c.args.received.now c.args.first (c.args.first + c.div_ceil.result - c.args.first) (omega (arith, c.div_ceil.ensures))
    (λ i low high. zero i (low, omega (arith, c.div_ceil.ensures)))) in cc

pub returns-then-not-all_received-clause-other : goal.returns-then-not-all_received-clause-other
returns-then-not-all_received-clause-other c = λ e all same.
    let bad : IsTrue false = c.if-not-all_received.ensures.1 (part_of_each (λ x. x ≢ 0) c.args.received.now c.args.first (c.args.first + c.div_ceil.result - c.args.first) (omega (arith, c.div_ceil.ensures))
    (λ i low high. all i (low, omega (arith, c.div_ceil.ensures)))) in cc

pub returns-else-eq-clause-some : goal.returns-else-eq-clause-some
returns-else-eq-clause-some c = λ e zero.
    let bad : IsTrue false = c.if-none_received.ensures.1 (part_of_each (λ x. x ≡ 0) c.args.received.now c.args.first (c.args.first + c.div_ceil.result - c.args.first) (omega (arith, c.div_ceil.ensures))
    (λ i low high. zero i (low, omega (arith, c.div_ceil.ensures)))) in cc
