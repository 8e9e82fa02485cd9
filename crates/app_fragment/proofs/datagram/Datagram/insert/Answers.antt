use Rattle.std.proofs.Common.{◌≡◌, ◌≤◌, ◌+◌, ◌*◌, ◌∷◌, inl, inr, length, rules, refl, sym, ap, subst, ◌∙◌, arith}
use Rattle.app_fragment.specs.Fragments.{Assembles, IsShaped, end_of}
use Rattle.app_fragment.proofs.Adding.{by_shape, collected, mixed, parsed, same_len, too_long_with, valid_for}
use Rattle.app_fragment.proofs.datagram.Datagram.insert.Goals as goal
use Rattle.app_fragment.proofs.datagram.Datagram.insert.Goals.{then-not-is_same-via-then-not-is_same, then-not-is_same-via-else-not-is_same+then-not-is_shaped, then-not-is_same-via-else-not-is_same+else-not-is_shaped+then-not-fits}
use Rattle.app_fragment.proofs.datagram.Datagram.insert.Goals.{then-is_mixed-via-then-is_mixed, then-is_mixed-via-else-is_mixed+then-is_too_long}

pub returns-in_default-clause-rejected : goal.returns-in_default-clause-rejected
returns-in_default-clause-rejected c = λ e low of shaped fits. c.part_of.ensures.none c.in_default.is c.args.self.now.key of

pub returns-then-not-is_same-clause-rejected : goal.returns-then-not-is_same-clause-rejected
returns-then-not-is_same-clause-rejected c = λ e low of shaped fits.
    let r = c.in-Some.ensures.reads in
    elim c.then-not-is_same.branch [
      | then-not-is_same-via-then-not-is_same w ↦ let yes = c.is_same.ensures.1 (sym r.valid.same ∙ of.same) in absurd (cc)
      | then-not-is_same-via-else-not-is_same+then-not-is_shaped w ↦ let yes = w.is_shaped.ensures.1 (subst IsShaped (sym r.fragment) shaped) in absurd (cc)
      | then-not-is_same-via-else-not-is_same+else-not-is_shaped+then-not-fits w ↦
          let yes = w.fits.ensures.1 (subst (λ f. end_of f ≤ length c.args.buffer.now) (sym r.fragment) fits) in absurd (cc)
    ]

pub returns-then-is_mixed-clause-valid : goal.returns-then-is_mixed-clause-valid
returns-then-is_mixed-clause-valid c = λ e.
    valid_for c.args.self.now.key c.args.packet.now c.in-Some.part (length c.args.buffer.now) c.in-Some.ensures.reads (c.is_same.ensures.0 c.if-not-is_same.false)
    (c.is_shaped.ensures.0 c.if-not-is_shaped.false) (c.fits.ensures.0 c.if-not-fits.false)

pub returns-then-is_mixed-clause-conflict : goal.returns-then-is_mixed-clause-conflict
returns-then-is_mixed-clause-conflict c = λ e ps h.
    let d = c.args.self.now in
    let part = c.in-Some.part in
    let r = c.in-Some.ensures.reads in
    let long : length c.header_with-header.result ≡ 60 = search rules in
    elim c.then-is_mixed.branch [
      | then-is_mixed-via-then-is_mixed w ↦ inr (inl ((mixed d c.args.buffer.now c.args.received.now c.args.packet.now part ps r h).0 (c.is_mixed.ensures.0 w.if-is_mixed.true)))
      | then-is_mixed-via-else-is_mixed+then-is_too_long w ↦
          inr (inr (too_long_with d c.args.buffer.now c.args.received.now c.header_with-header.result c.args.packet.now part ps w.len_with.result r (c.is_same.ensures.0 c.if-not-is_same.false)
          (record { long = long; stored = c.header_with-header.ensures.stored; other = c.header_with-header.ensures.other })
          w.len_with.ensures.more w.len_with.ensures.last (w.is_too_long.ensures.long w.if-is_too_long.true) h))
    ]

pub returns-in-Rejected-clause-rejected : goal.returns-in-Rejected-clause-rejected
returns-in-Rejected-clause-rejected c = λ e low of shaped fits.
    by_shape (parsed c.in-Some.part) (c.is_shaped.ensures.0 c.if-not-is_shaped.false)
    (λ filled whole. c.in-Rejected.ensures.rejected refl low filled whole (c.fits.ensures.0 c.if-not-fits.false))

pub returns-in-Incomplete-clause-collected : goal.returns-in-Incomplete-clause-collected
returns-in-Incomplete-clause-collected c = λ e ps h.
    let d = c.args.self.now in
    let part = c.in-Some.part in
    let header = c.header_with-header.result in
    let long : length c.header_with-header.result ≡ 60 = search rules in
    let len : c.insert.new.ends.len ≡ c.len_with.result =
    same_len part.more c.len_with.result d.ends.len c.insert.new.ends.len (8 * part.first + length part.payload.now) c.len_with.ensures.more c.len_with.ensures.last (c.in-Incomplete.ensures.len (inl refl)) in
    let ends : c.keep.new.self.ends.len ≡ c.insert.new.ends.len = ap (λ x. x.len) c.keep.ensures.ends in
    collected d c.keep.new.self c.args.buffer.now c.args.received.now c.insert.new.buffer c.insert.new.received header c.args.packet.now part ps c.in-Some.ensures.reads
    (c.is_same.ensures.0 c.if-not-is_same.false)
    (record { long = long; stored = c.header_with-header.ensures.stored; other = c.header_with-header.ensures.other })
    (record {
      key = c.keep.ensures.key;
      header = c.keep.ensures.header;
      ecn = record { ce = c.keep.ensures.ce; not_ect = c.keep.ensures.not_ect };
      within = omega (arith, ends, c.in-Incomplete.ensures.within (inl refl));
      same = c.insert.auto.buffer;
      inside = c.fits.ensures.0 c.if-not-fits.false;
      fits = omega (arith, ends, len, c.is_too_long.ensures.fits c.if-is_too_long.false);
      unmixed = λ w. let bad = c.is_mixed.ensures.1 w in absurd (cc);
      assembles = λ fs a. subst (λ x. Assembles c.insert.new.buffer c.insert.new.received x (parsed part ∷ fs)) (sym c.keep.ensures.ends) (c.in-Incomplete.ensures.assembled (inl refl) fs a);
    }) h

pub returns-in-Complete-clause-collected : goal.returns-in-Complete-clause-collected
returns-in-Complete-clause-collected c = λ e ps h.
    let d = c.args.self.now in
    let part = c.in-Some.part in
    let header = c.header_with-header.result in
    let long : length c.header_with-header.result ≡ 60 = search rules in
    let len : c.insert.new.ends.len ≡ c.len_with.result =
    same_len part.more c.len_with.result d.ends.len c.insert.new.ends.len (8 * part.first + length part.payload.now) c.len_with.ensures.more c.len_with.ensures.last (c.in-Complete.ensures.len (inr refl)) in
    let ends : c.keep-in-Complete.new.self.ends.len ≡ c.insert.new.ends.len = ap (λ x. x.len) c.keep-in-Complete.ensures.ends in
    collected d c.keep-in-Complete.new.self c.args.buffer.now c.args.received.now c.insert.new.buffer c.insert.new.received header c.args.packet.now part ps c.in-Some.ensures.reads
    (c.is_same.ensures.0 c.if-not-is_same.false)
    (record { long = long; stored = c.header_with-header.ensures.stored; other = c.header_with-header.ensures.other })
    (record {
      key = c.keep-in-Complete.ensures.key;
      header = c.keep-in-Complete.ensures.header;
      ecn = record { ce = c.keep-in-Complete.ensures.ce; not_ect = c.keep-in-Complete.ensures.not_ect };
      within = omega (arith, ends, c.in-Complete.ensures.within (inr refl));
      same = c.insert.auto.buffer;
      inside = c.fits.ensures.0 c.if-not-fits.false;
      fits = omega (arith, ends, len, c.is_too_long.ensures.fits c.if-is_too_long.false);
      unmixed = λ w. let bad = c.is_mixed.ensures.1 w in absurd (cc);
      assembles = λ fs a. subst (λ x. Assembles c.insert.new.buffer c.insert.new.received x (parsed part ∷ fs)) (sym c.keep-in-Complete.ensures.ends) (c.in-Complete.ensures.assembled (inr refl) fs a);
    }) h

pub returns-in-Incomplete-clause-valid : goal.returns-in-Incomplete-clause-valid
returns-in-Incomplete-clause-valid c = λ e.
    valid_for c.args.self.now.key c.args.packet.now c.in-Some.part (length c.args.buffer.now) c.in-Some.ensures.reads (c.is_same.ensures.0 c.if-not-is_same.false)
    (c.is_shaped.ensures.0 c.if-not-is_shaped.false) (c.fits.ensures.0 c.if-not-fits.false)

pub returns-in-Complete-clause-valid : goal.returns-in-Complete-clause-valid
returns-in-Complete-clause-valid c = λ e.
    valid_for c.args.self.now.key c.args.packet.now c.in-Some.part (length c.args.buffer.now) c.in-Some.ensures.reads (c.is_same.ensures.0 c.if-not-is_same.false)
    (c.is_shaped.ensures.0 c.if-not-is_shaped.false) (c.fits.ensures.0 c.if-not-fits.false)

pub returns-in-Conflict-clause-valid : goal.returns-in-Conflict-clause-valid
returns-in-Conflict-clause-valid c = λ e.
    valid_for c.args.self.now.key c.args.packet.now c.in-Some.part (length c.args.buffer.now) c.in-Some.ensures.reads (c.is_same.ensures.0 c.if-not-is_same.false)
    (c.is_shaped.ensures.0 c.if-not-is_shaped.false) (c.fits.ensures.0 c.if-not-fits.false)
