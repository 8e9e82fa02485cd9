use Rattle.std.proofs.Common.{◌≡◌, ◌+◌, ◌-◌, Some, None, drop, arith, sym, ap, ◌∙◌, length-drop}
use Rattle.std.proofs.lemmas.List.{take_rest}
use Rattle.app_fragment.specs.Ipv4Options.{option_len}
use Rattle.app_fragment.proofs.options.replace_options.Goals as goal
use Rattle.app_fragment.proofs.Walk.{walked_all, walked_step}

pub overflow_add-at : goal.overflow_add-at
overflow_add-at c =
    let room = c.in-Some.ensures.within in
    omega (arith, room, length-drop c.loop-len.at c.loop-len.options)

pub overflow_add-at-in-Some : goal.overflow_add-at-in-Some
overflow_add-at-in-Some c =
    let room = c.in-Some.ensures.within in
    omega (arith, room, length-drop c.loop-len.at c.loop-len.options)

pub loop-len-preserved : goal.loop-len-preserved
loop-len-preserved c =
    let xs = c.loop-len.options in
    let at = c.loop-len.at in
    let is : option_len (drop at xs) ≡ Some c.in-Some.len = ap option_len (sym (take_rest xs at)) ∙ sym c.option_len.ensures.value ∙ c.in-Some.is in
    let step = walked_step xs c.replace_option.new.option _ at c.in-Some.len (at + c.in-Some.len - at) (omega arith) c.loop-len.invariant.within is c.replace_option.ensures c.loop-len.invariant.walked in
    record { same = step.0 ∙ c.loop-len.invariant.same; within = step.1; walked = step.2 }

pub returns : goal.returns
returns c =
    let xs = c.loop-len.options in
    let none : option_len (drop c.loop-len.at xs) ≡ None = ap option_len (sym (take_rest xs c.loop-len.at)) ∙ sym c.option_len.ensures.value ∙ c.in_default.is in
    walked_all xs _ c.loop-len.at none c.loop-len.invariant.walked
