use Rattle.std.proofs.Common.{◌≡◌, ◌<◌, ◌∙◌, length, refl}
use Rattle.app_fragment.proofs.Slots.{end-step, expired, silent-more}
use Rattle.app_fragment.proofs.partials.expire.Goals as goal

pub returns-in-Some : goal.returns-in-Some
returns-in-Some c =
    let i = c.loop-i.i in
    let same : length c.loop-i.partials ≡ length c.args.partials.now = c.loop-i.auto.partials in
    let low : c.loop-i.i < length c.args.partials.now = c.loop-i-test.true in (
      i,
      expired c.args.partials.now c.loop-i.partials c.args.memory.now c.args.out.now c.loop-i.out c.end_over.new.out c.args.now i c.share_len-len.result c.in-Some.found _ c.end_over.new.self
          c.share_len-len.ensures.value same low c.loop-i.invariant.end c.loop-i.invariant.silent c.loop-i.invariant.same c.in-Some.ensures.ended c.in-Some.ensures.frame,
    )

pub loop-i-preserved : goal.loop-i-preserved
loop-i-preserved c =
    let i = c.loop-i.i in
    let s = c.share_len-len.result in
    let is = c.share_len-len.ensures.value in
    let same : length c.loop-i.partials ≡ length c.args.partials.now = c.loop-i.auto.partials in
    let low : c.loop-i.i < length c.args.partials.now = c.loop-i-test.true in
    record {
      end = end-step c.args.partials.now c.loop-i.partials c.args.memory.now c.args.now i s _ c.end_over.new.self is same low c.loop-i.invariant.end c.in_default.ensures.ended;
      silent = silent-more c.args.partials.now c.loop-i.partials c.args.memory.now c.args.out.now c.loop-i.out c.args.now i s _ is same low c.loop-i.invariant.end c.loop-i.invariant.silent
          c.loop-i.invariant.same (c.in_default.ensures.silent refl);
      same = c.in_default.ensures.unwritten refl ∙ c.loop-i.invariant.same;
    }
