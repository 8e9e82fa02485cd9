use Rattle.std.proofs.Common.{ℕ, ◌≡◌, ◌∙◌, ◌+◌, ◌*◌, ◌%◌, ◌^◌, ◌<◌, ◌≤◌, arith, below_more, length, subst, sym}
use Rattle.app_router.proofs.TableParts.{ends_after}
use Rattle.app_router.specs.Table.{IsClear, IsEntry, half_at, range_at, start_of}
use Rattle.app_router.proofs.table.parts.enter.Goals as goal

pub loop-part-preserved : goal.loop-part-preserved
loop-part-preserved c =
    let ranges = c.args.ranges.now in
    let part = c.loop-part.part in
    let count = 2 * length c.args.parts.now in
    let place = c.last_up_to-place.result in
    let cells = c.set_half.new.cells in
    let (place_within, used, hints_len, parts_len, hints, entries, begins, filled) = c.loop-part.invariant in
    let within : part < count = c.loop-part-test.true in
    let shifted : part * 2 ^ 32 % 2 ^ 64 ≡ part * 2 ^ 32 = omega (arith, within, c.requires.few) in
    let begin : start_of (range_at ranges 0) ≡ 0 → start_of (range_at ranges place) * count ≤ part * 2 ^ 32 =
    λ first. let before = begins first in
    let at = c.last_up_to-place.ensures.begins (omega (arith, before, shifted)) in
    omega (arith, at, shifted) in
    let after : place + 1 < length ranges → part * 2 ^ 32 < start_of (range_at ranges (place + 1)) * count =
    λ more. let last = c.last_up_to-place.ensures.last more in omega (arith, last, shifted) in
    let Filled : ℕ → Type 0 = λ p. IsClear ranges count p → 2 ^ 31 ≤ half_at cells p in (
      c.last_up_to-place.ensures.within.1,
      omega (arith, c.divide-hint.ensures.used, c.divide-hint.ensures.len),
      c.divide-hint.ensures.len ∙ hints_len,
      c.set_half.ensures.len ∙ parts_len,
      c.divide-hint.ensures.hints,
      below_more (λ p. IsEntry ranges count p (half_at cells p)) part
          (λ p less. subst (IsEntry ranges count p) (sym (c.set_half.ensures.others p (λ e. omega (arith, e, less)))) (entries p less))
          (subst (IsEntry ranges count part) (sym c.set_half.ensures.set) c.entry-entry.ensures.entry),
      λ first. let at = begin first in omega (arith, at),
      λ first. below_more Filled part
          (λ p less clear. subst (λ h. 2 ^ 31 ≤ h) (sym (c.set_half.ensures.others p (λ e. omega (arith, e, less)))) (filled first p less clear))
          (λ clear. subst (λ h. 2 ^ 31 ≤ h) (sym c.set_half.ensures.set)
          (c.entry-entry.ensures.filled c.last_up_to-place.ensures.within.1 (begin first) (ends_after ranges count part place within clear after)
          (clear place c.last_up_to-place.ensures.within.1).1)),
    )
