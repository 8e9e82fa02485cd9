use Rattle.std.proofs.Common.{◌<◌, Some, length, take, drop, subst, sym, ap, ap₂, ◌∙◌, arith, rules, length-take-le, not, refl, inl, inr, lit≤, ◌∷◌}
use Rattle.std.proofs.lemmas.List.{take_more_set}
use Rattle.wire_addr.specs.Reading.{groups_from, pieces_after}
use Rattle.wire_addr.proofs.First.{IsPast, IsFirst, group_small, last_piece, piece_and_more, rest_none, rest_some}
use Rattle.wire_addr.proofs.Readers.{reads_groups}
use Rattle.wire_addr.proofs.Steps.{inner_none, inner_some, group_more, elided, none_from, at_stop, at_end, still_within}
use Rattle.wire_addr.proofs.groups_text.groups.Goals.{in_default-2-via-in-0-Some+then-byte-eq58+else-is_none, in_default-2-via-in-0-Some+else-byte-eq58, in_default-2-via-in-0+in-None, in_default-2-via-in-1-to-max-Some+then-byte-eq58-2+else-len-lt8, in_default-2-via-in-1-to-max-Some+else-byte-eq58-2, in_default-2-via-in-1-to-max-None+else-len-lt8-2}
use Rattle.wire_addr.proofs.groups_text.groups.Goals as goal

pub returns-in_err-inner : goal.returns-in_err-inner
returns-in_err-inner c = reads_groups c.args.text.now _ (c.from_residual.ensures ∙ sym (inner_none c.args.text.now c.in_err-inner.ensures))

pub loop-rest-init : goal.loop-rest-init
loop-rest-init c = record {
  read = inner_some c.args.text.now _ c.in_ok-inner.ensures;
  size = refl;
  few = omega arith;
  within = tt;
}

pub overflow_cast-group : goal.overflow_cast-group
overflow_cast-group c =
    let read = c.first_group-number.ensures in
    let first : IsFirst 16 4 c.in-Some-rest.more.now c.first_group-number.result.0 c.first_group-number.result.1 = record { digits = read.digits; is = read.value; within = read.within; few = read.places; whole = read.whole } in
    omega (arith, group_small first)

pub loop-rest-preserved-in-0-Some : goal.loop-rest-preserved-in-0-Some
loop-rest-preserved-in-0-Some c =
    let len = length-take-le c.loop-rest.len c.loop-rest.groups (omega (arith, c.loop-rest.invariant.size)) in
    let none = none_from c.loop-rest.before (c.is_none.ensures ∙ ap not c.if-is_none.true) in
    let following = ap (λ n. drop n c.in-Some-rest.more.now) (sym c.in-0-Some.is-0) ∙ rest_some c.in-Some-rest.more.now c.first_group-number.result.1 _ _ c.in-0-Some.ensures.cases.0 ∙ ap (λ b. b ∷ c.in-0-Some.following.now) c.if-byte-eq58.true in
    record {
      read = elided c.loop-rest.before (take c.loop-rest.len c.loop-rest.groups) c.loop-rest.invariant.read c.in-Some-rest.is c.in-0-Some.following none following c.is_empty.result c.is_empty.ensures
          ∙ ap₂ (λ n r. groups_from (Some n) (take c.loop-rest.len c.loop-rest.groups) (pieces_after 58 r)) len (sym c.then_some-rest.ensures);
      size = c.loop-rest.invariant.size;
      few = c.loop-rest.invariant.few;
      within = omega arith;
    }

pub loop-rest-preserved-in-1-to-max-Some : goal.loop-rest-preserved-in-1-to-max-Some
loop-rest-preserved-in-1-to-max-Some c =
    let read = c.first_group-number.ensures in
    let first : IsFirst 16 4 c.in-Some-rest.more.now c.first_group-number.result.0 c.first_group-number.result.1 = record { digits = read.digits; is = read.value; within = read.within; few = read.places; whole = read.whole } in
    let piece = piece_and_more first 58 (lit≤ tt) 0xffff c.in-1-to-max-Some.is-0.1 (group_small first) c.in-1-to-max-Some.following (rest_some c.in-Some-rest.more.now c.first_group-number.result.1 _ _ c.in-1-to-max-Some.ensures.cases.0 ∙ ap (λ b. b ∷ c.in-1-to-max-Some.following.now) c.if-byte-eq58-2.true) in
    let len = length-take-le c.loop-rest.len c.loop-rest.groups (omega (arith, c.loop-rest.invariant.size)) in
    let inside : c.loop-rest.len < length c.loop-rest.groups = omega (arith, c.loop-rest.invariant.size, c.if-len-lt8.true) in
    record {
      read = group_more c.loop-rest.before (take c.loop-rest.len c.loop-rest.groups) c.loop-rest.invariant.read c.in-Some-rest.is piece _ (omega (arith, c.if-len-lt8.true)) (take_more_set c.loop-rest.groups c.loop-rest.len c.first_group-number.result.0 inside);
      size = search rules;
      few = omega (arith, c.if-len-lt8.true);
      within = still_within c.loop-rest.before c.loop-rest.len c.loop-rest.invariant.within;
    }

pub loop-rest-preserved : goal.loop-rest-preserved
loop-rest-preserved c =
    let read = c.first_group-number.ensures in
    let first : IsFirst 16 4 c.in-Some-rest.more.now c.first_group-number.result.0 c.first_group-number.result.1 = record { digits = read.digits; is = read.value; within = read.within; few = read.places; whole = read.whole } in
    let piece = last_piece first 58 (lit≤ tt) 0xffff c.in-1-to-max-None.is-0.1 (group_small first) (rest_none c.in-Some-rest.more.now c.first_group-number.result.1 c.in-1-to-max-None.ensures.cases) in
    let len = length-take-le c.loop-rest.len c.loop-rest.groups (omega (arith, c.loop-rest.invariant.size)) in
    let inside : c.loop-rest.len < length c.loop-rest.groups = omega (arith, c.loop-rest.invariant.size, c.if-len-lt8-2.true) in
    record {
      read = group_more c.loop-rest.before (take c.loop-rest.len c.loop-rest.groups) c.loop-rest.invariant.read c.in-Some-rest.is piece _ (omega (arith, c.if-len-lt8-2.true)) (take_more_set c.loop-rest.groups c.loop-rest.len c.first_group-number.result.0 inside);
      size = search rules;
      few = omega (arith, c.if-len-lt8-2.true);
      within = still_within c.loop-rest.before c.loop-rest.len c.loop-rest.invariant.within;
    }

pub returns-in_default-2 : goal.returns-in_default-2
returns-in_default-2 c =
    let read = c.first_group-number.ensures in
    let first : IsFirst 16 4 c.in-Some-rest.more.now c.first_group-number.result.0 c.first_group-number.result.1 = record { digits = read.digits; is = read.value; within = read.within; few = read.places; whole = read.whole } in
    let len = length-take-le c.loop-rest.len c.loop-rest.groups (omega (arith, c.loop-rest.invariant.size)) in
    let last = at_stop c.loop-rest.before (take c.loop-rest.len c.loop-rest.groups) c.loop-rest.invariant.read c.in-Some-rest.is first (elim c.in_default-2.branch [
      | in_default-2-via-in-0-Some+then-byte-eq58+else-is_none w ↦ inl (w.in-0-Some.is-0, inl (w.is_none.ensures ∙ ap not w.if-is_none.false))
      | in_default-2-via-in-0-Some+else-byte-eq58 w ↦ inr (inl (λ marked. w.if-byte-eq58.false (subst (IsPast 58) (rest_some c.in-Some-rest.more.now c.first_group-number.result.1 _ _ w.in-0-Some.ensures.cases.0) marked)))
      | in_default-2-via-in-0+in-None w ↦ inl (w.in_default-2.is-0, inr (omega (arith, w.in_default-2.is-0, rest_none c.in-Some-rest.more.now c.first_group-number.result.1 w.in_default-2.ensures.cases)))
      | in_default-2-via-in-1-to-max-Some+then-byte-eq58-2+else-len-lt8 w ↦ inr (inr (omega (arith, w.if-len-lt8.false, c.loop-rest.invariant.few), (_, (_, piece_and_more first 58 (lit≤ tt) 0xffff w.in-1-to-max-Some.is-0.1 (group_small first) w.in-1-to-max-Some.following (rest_some c.in-Some-rest.more.now c.first_group-number.result.1 _ _ w.in-1-to-max-Some.ensures.cases.0 ∙ ap (λ b. b ∷ w.in-1-to-max-Some.following.now) w.if-byte-eq58-2.true)))))
      | in_default-2-via-in-1-to-max-Some+else-byte-eq58-2 w ↦ inr (inl (λ marked. w.if-byte-eq58-2.false (subst (IsPast 58) (rest_some c.in-Some-rest.more.now c.first_group-number.result.1 _ _ w.in-1-to-max-Some.ensures.cases.0) marked)))
      | in_default-2-via-in-1-to-max-None+else-len-lt8-2 w ↦ inr (inr (omega (arith, w.if-len-lt8-2.false, c.loop-rest.invariant.few), (_, (_, last_piece first 58 (lit≤ tt) 0xffff w.in-1-to-max-None.is-0.1 (group_small first) (rest_none c.in-Some-rest.more.now c.first_group-number.result.1 w.in-1-to-max-None.ensures.cases)))))
    ]) in
    reads_groups c.args.text.now _ (c.dotted_end.ensures ∙ sym last)

pub returns : goal.returns
returns c = reads_groups c.args.text.now _ (c.all_groups.ensures ∙ sym (c.loop-rest.invariant.read ∙ ap (λ r. groups_from c.loop-rest.before (take c.loop-rest.len c.loop-rest.groups) (pieces_after 58 r)) c.in_default-rest.is ∙ at_end c.loop-rest.before (take c.loop-rest.len c.loop-rest.groups)))
