use Rattle.std.proofs.Common.{◌≡◌, subst, sym, true≢false}
use Rattle.app_nat.proofs.Searches.{none_free, none_mapped}
use Rattle.app_nat.specs.Table.{MapsTo}
use Rattle.app_nat.proofs.choice.choose.Goals as goal

pub returns-in-None : goal.returns-in-None
returns-in-None c =
    let own : ¬ MapsTo c.args.nat.now c.args.mappings.now c.args.now c.args.protocol c.args.inside.now.port c.args.inside.now = λ held.
    true≢false (sym (c.if-maps_to.ensures.1 (subst (λ p. MapsTo c.args.nat.now c.args.mappings.now c.args.now c.args.protocol p c.args.inside.now) (sym c.from-own.ensures) held))) in
    let unmapped = none_mapped c.args.nat.now c.args.mappings.now c.args.now c.args.protocol c.args.inside.now own
    (simp (c.ports.ensures, c.spread-start.ensures.start, c.spread-start.ensures.step, c.rows-rows.ensures) at c.in_default.ensures) in
    none_free c.args.nat.now c.args.mappings.now c.args.now c.args.protocol c.args.inside.now unmapped
    (simp (c.ports.ensures, c.spread-start.ensures.start, c.spread-start.ensures.step) at c.in-None.ensures)
