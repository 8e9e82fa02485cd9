use Rattle.std.proofs.Common.{IsTrue, false, refl, subst, sym}
use Rattle.app_fragment.specs.Fragments.{IsShaped}
use Rattle.app_fragment.specs.Partials.{table}
use Rattle.app_fragment.specs.Partials.Reassembles.{alone, rejected, taken, too_long}
use Rattle.app_fragment.proofs.Slots.{alone-is, alone-parts, too-long}
use Rattle.app_fragment.proofs.partials.reassemble.Goals as goal

pub returns-in_default : goal.returns-in_default
returns-in_default c = rejected (λ key of. absurd (c.in_default.ensures.none refl key of)) refl refl

pub returns-then-is_whole : goal.returns-then-is_whole
returns-then-is_whole c =
    let p = c.in-Some.part in
    let r = c.in-Some.ensures.reads in
    alone p.key r.valid (alone-is c.args.packet.now p.payload.now p.first p.more r.fragment (c.if-is_whole.ensures.0 refl)) refl c.give_back.result c.give_back.ensures

pub returns-then-not-is_shaped : goal.returns-then-not-is_shaped
returns-then-not-is_shaped c =
    let p = c.in-Some.part in
    let r = c.in-Some.ensures.reads in
    rejected (λ key of. (
      (λ is. let bad : IsTrue false = c.if-is_whole.ensures.1 (alone-parts c.args.packet.now p.payload.now p.first p.more r.fragment is) in cc),
      (λ shaped. let bad : IsTrue false = c.if-not-is_shaped.ensures.1 (subst IsShaped (sym r.fragment) shaped) in cc),
    )) refl refl

pub returns-then-not-fits : goal.returns-then-not-fits
returns-then-not-fits c =
    let p = c.in-Some.part in
    let r = c.in-Some.ensures.reads in
    too_long p.key (record {
      of = r.valid;
      part = λ is. let bad : IsTrue false = c.if-is_whole.ensures.1 (alone-parts c.args.packet.now p.payload.now p.first p.more r.fragment is) in cc;
      shaped = subst IsShaped r.fragment (c.if-not-is_shaped.ensures.0 refl);
    })
    (too-long (table c.args.partials.now c.args.memory.now) c.args.packet.now p.payload.now p.first p.more c.block_count.result c.share_len-len.result r.fragment
    c.block_count.ensures.value c.share_len-len.ensures.value (λ fits. let bad : IsTrue false = c.if-not-fits.ensures.1 fits in cc)) refl refl

pub take-requires-clause-fragment : goal.take-requires-clause-fragment
take-requires-clause-fragment c =
    let p = c.in-Some.part in
    let r = c.in-Some.ensures.reads in
    record {
      of = r.valid;
      part = λ is. let bad : IsTrue false = c.if-is_whole.ensures.1 (alone-parts c.args.packet.now p.payload.now p.first p.more r.fragment is) in cc;
      shaped = subst IsShaped r.fragment (c.if-not-is_shaped.ensures.0 refl);
    }

pub returns : goal.returns
returns c = taken c.take.result c.take.ensures
