use Rattle.std.proofs.Common.{◌≡◌, ◌∙◌, ◌+◌, ◌*◌, length, max, arith}
use Rattle.app_nat.proofs.Searches.{found-in-rows, next-row, none-in-rows}
use Rattle.app_nat.specs.Table.{MapsTo, ports, row_len}
use Rattle.app_nat.proofs.choice.mapped_port.Goals as goal

pub returns-in-Some : goal.returns-in-Some
returns-in-Some c =
    let count = ports c.args.nat.now (length c.args.mappings.now) in (
      c.in-Some.ensures.0,
      found-in-rows (λ port. MapsTo c.args.nat.now c.args.mappings.now c.args.now c.args.protocol port c.args.inside.now) c.args.nat.now count c.args.start c.args.step c.loop-row.row c.loop-row.first c.args.rows c.in-Some.port
          (omega (arith, c.loop-row-test.true)) c.loop-row.invariant.0 c.loop-row.invariant.1 c.in-Some.ensures.1,
    )

pub loop-row-preserved : goal.loop-row-preserved
loop-row-preserved c =
    let count = ports c.args.nat.now (length c.args.mappings.now) in
    let len = row_len count c.args.step in
    let next : (c.loop-row.row + 1) * len ≡ c.loop-row.row * len + len = omega arith in
    let none = none-in-rows (λ port. MapsTo c.args.nat.now c.args.mappings.now c.args.now c.args.protocol port c.args.inside.now) c.args.nat.now count c.args.start c.args.step c.loop-row.row c.loop-row.first len
    c.loop-row.invariant.0 c.loop-row.invariant.1 (omega arith) c.in_default.ensures in (
      (simp c.ports.ensures at c.next-first.ensures) ∙ next-row c.args.start c.loop-row.row (max 1 count) c.loop-row.first c.loop-row.invariant.0,
      λ rank low. none rank (omega (arith, low, next)),
    )
