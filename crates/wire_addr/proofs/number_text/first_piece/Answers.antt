use Rattle.std.proofs.Common.{inl, inr, ap, subst, ◌∷◌, ◌∙◌}
use Rattle.wire_addr.proofs.First.{IsFirst, IsPast, rest_none, rest_some, last_piece, piece_and_more, no_piece}
use Rattle.wire_addr.proofs.number_text.first_piece.Goals.{then-len-eq0-via-then-len-eq0, then-len-eq0-via-else-len-eq0+then-value-most}
use Rattle.wire_addr.proofs.number_text.first_piece.Goals as goal

pub returns-then-len-eq0-clause-reads : goal.returns-then-len-eq0-clause-reads
returns-then-len-eq0-clause-reads c =
    let read = c.first_number-value.ensures in
    let first : IsFirst c.args.radix c.args.places c.args.text.now c.first_number-value.result.0 c.first_number-value.result.1 = record { digits = read.digits; is = read.value; within = read.within; few = read.places; whole = read.whole } in
    no_piece first c.args.mark c.requires.apart c.args.most (elim c.then-len-eq0.branch [
      | then-len-eq0-via-then-len-eq0 w ↦ inl w.if-len-eq0.true
      | then-len-eq0-via-else-len-eq0+then-value-most w ↦ inr (inl w.if-value-most.true)
    ])

pub returns-in-None-clause-reads : goal.returns-in-None-clause-reads
returns-in-None-clause-reads c =
    let read = c.first_number-value.ensures in
    let first : IsFirst c.args.radix c.args.places c.args.text.now c.first_number-value.result.0 c.first_number-value.result.1 = record { digits = read.digits; is = read.value; within = read.within; few = read.places; whole = read.whole } in
    last_piece first c.args.mark c.requires.apart c.args.most c.if-len-eq0.false c.if-value-most.false (rest_none c.args.text.now c.first_number-value.result.1 c.in-None.ensures.cases)

pub returns-in-Some-clause-reads : goal.returns-in-Some-clause-reads
returns-in-Some-clause-reads c =
    let read = c.first_number-value.ensures in
    let first : IsFirst c.args.radix c.args.places c.args.text.now c.first_number-value.result.0 c.first_number-value.result.1 = record { digits = read.digits; is = read.value; within = read.within; few = read.places; whole = read.whole } in
    let following = rest_some c.args.text.now c.first_number-value.result.1 _ _ c.in-Some.ensures.cases.0 in
    piece_and_more first c.args.mark c.requires.apart c.args.most c.if-len-eq0.false c.if-value-most.false c.in-Some.following (following ∙ ap (λ b. b ∷ c.in-Some.following.now) c.if-byte-mark.true)

pub returns-in_default-clause-reads : goal.returns-in_default-clause-reads
returns-in_default-clause-reads c =
    let read = c.first_number-value.ensures in
    let first : IsFirst c.args.radix c.args.places c.args.text.now c.first_number-value.result.0 c.first_number-value.result.1 = record { digits = read.digits; is = read.value; within = read.within; few = read.places; whole = read.whole } in
    let following = rest_some c.args.text.now c.first_number-value.result.1 _ _ c.in-Some.ensures.cases.0 in
    no_piece first c.args.mark c.requires.apart c.args.most (inr (inr (λ marked. c.if-byte-mark.false (subst (IsPast c.args.mark) following marked))))
