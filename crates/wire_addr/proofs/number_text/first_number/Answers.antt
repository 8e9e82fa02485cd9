use Rattle.std.proofs.Common.{arith, refl}
use Rattle.wire_addr.proofs.NumberTexts.{digit_below, number_small, number_more}
use Rattle.wire_addr.proofs.number_text.first_number.Goals as goal

pub overflow_mul-value : goal.overflow_mul-value
overflow_mul-value c =
    let small = number_small c.args.radix c.loop-len.len c.args.text.now c.requires.low c.requires.high (omega arith) (omega arith) c.loop-len.invariant.digits in
    omega (arith, rw (← c.loop-len.invariant.value) at small)

pub overflow_add-value : goal.overflow_add-value
overflow_add-value c =
    let small = number_small c.args.radix c.loop-len.len c.args.text.now c.requires.low c.requires.high (omega arith) (omega arith) c.loop-len.invariant.digits in
    omega (arith, rw (← c.loop-len.invariant.value) at small, c.if-digit-radix.false, c.requires.high)

pub loop-len-preserved : goal.loop-len-preserved
loop-len-preserved c =
    let h = number_more _ _ c.args.text.now _ _ _ (omega arith) c.loop-len.invariant.digits c.loop-len.invariant.value refl (digit_below c.args.radix _ _ c.requires.high c.hex_digit-digit.ensures c.if-digit-radix.false) in
    record { within = omega arith; digits = h.0; value = h.1 }
