use Rattle.std.proofs.Common.{◌≡◌, ◌≤◌, ◌+◌, ◌*◌, ◌∙◌, List, arith, inl, inr, length, refl, rules, slice_range, subst, subst₂, sym, ℕ}
use Rattle.std.proofs.lemmas.List.{drop_at, take_at}
use Rattle.app_fragment.specs.Datagram.{Collects, IsFirstWritten, OnePacket}
use Rattle.app_fragment.specs.Partials.{received_of}
use Rattle.app_fragment.proofs.Slots.{longer, no-first}
use Rattle.app_fragment.proofs.partials.Partial.write_first.Goals as goal

pub returns-then-out-lt-LINK_LEN-clause-silent : goal.returns-then-out-lt-LINK_LEN-clause-silent
returns-then-out-lt-LINK_LEN-clause-silent c = λ e ps h. no-first (length c.args.out.now) ps c.if-out-lt-LINK_LEN.true

pub returns-in_err-len-clause-silent : goal.returns-in_err-len-clause-silent
returns-in_err-len-clause-silent c = λ e ps h.
    let d = c.args.self.now.datagram in
    let part = c.args.part.now in
    let room : length c.args.out.now ≤ 14 + length c.split_at_mut-front.result.1.now = omega (arith, c.split_at_mut-front.ensures.back_len) in
    elim (c.in_err-len.ensures.missing refl (received_of part) ps (subst (λ n. Collects d (slice_range part n (9 * n)) (received_of part) ps) (sym c.block_count-blocks.ensures.value) h)) [
      | inl all ↦ inl all
      | inr one ↦ inr (longer (length c.args.out.now) (length c.split_at_mut-front.result.1.now) ps room one)
    ]

pub overflow_add-result : goal.overflow_add-result
overflow_add-result c = omega (arith, c.in_ok-len.ensures.room)

pub returns-clause-frame : goal.returns-clause-frame
returns-clause-frame c =
    let d = c.args.self.now.datagram in
    let part = c.args.part.now in
    let front = c.copy_from_slice.new.self in
    let rest = c.write_first.new.out in
    let long : length c.copy_from_slice.new.self ≡ 14 = search rules in
    record {
      fragment_len = c.in_ok-len.len;
      whole = refl;
      link = take_at front rest 14 long ∙ c.copy_from_slice.ensures.after;
      first = λ ps h. subst₂ (λ (a b : List ℕ). OnePacket (IsFirstWritten c.in_ok-len.len a b) ps) (sym (drop_at front rest 14 long)) c.split_at_mut-front.ensures.back
          (c.in_ok-len.ensures.first (received_of part) ps (subst (λ n. Collects d (slice_range part n (9 * n)) (received_of part) ps) (sym c.block_count-blocks.ensures.value) h));
    }
