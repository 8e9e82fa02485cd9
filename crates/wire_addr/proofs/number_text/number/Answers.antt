use Rattle.std.proofs.Common.{inl, inr}
use Rattle.wire_addr.proofs.First.{IsFirst, no_number}
use Rattle.wire_addr.proofs.number_text.number.Goals.{then-len-eq0-via-then-len-eq0, then-len-eq0-via-else-len-eq0+then-len-text, then-len-eq0-via-else-len-eq0+else-len-text+then-value-most}
use Rattle.wire_addr.proofs.number_text.number.Goals as goal

pub returns-then-len-eq0-clause-value : goal.returns-then-len-eq0-clause-value
returns-then-len-eq0-clause-value c = λ n.
    let read = c.first_number-value.ensures in
    let first : IsFirst c.args.radix c.args.places c.args.text.now c.first_number-value.result.0 c.first_number-value.result.1 = record { digits = read.digits; is = read.value; within = read.within; few = read.places; whole = read.whole } in
    no_number first c.args.most n (elim c.then-len-eq0.branch [
      | then-len-eq0-via-then-len-eq0 w ↦ inl w.if-len-eq0.true
      | then-len-eq0-via-else-len-eq0+then-len-text w ↦ inr (inl w.if-len-text.true)
      | then-len-eq0-via-else-len-eq0+else-len-text+then-value-most w ↦ inr (inr w.if-value-most.true)
    ])
