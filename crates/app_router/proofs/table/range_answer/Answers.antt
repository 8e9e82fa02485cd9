use Rattle.std.proofs.Common.{◌+◌, ◌-◌, ◌*◌, ◌%◌, ◌^◌, arith, rules}
use Rattle.app_router.proofs.TableParts.{found}
use Rattle.app_router.proofs.table.range_answer.Goals as goal

pub returns-then-passed-lt-FEW : goal.returns-then-passed-lt-FEW
returns-then-passed-lt-FEW c =
    let last = c.from.result * 2 ^ 32 % 2 ^ 64 + (2 ^ 32 - 1) in
    found c.args.ranges.now _ c.args.addr last (search rules) (omega (arith, c.from.ensures, c.ranges.addr.fits)) (search rules) (search rules)
