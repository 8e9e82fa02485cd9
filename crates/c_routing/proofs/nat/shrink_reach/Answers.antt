use Rattle.std.proofs.Common.{◌++◌, drop, rules}
use Rattle.app_nat.specs.Reach.{Shrinks}
use Rattle.app_nat.specs.Table.{IsTable}
use Rattle.c_routing.proofs.Tables.{part-becomes, part-keeps, parts, stays-beyond}
use Rattle.c_routing.proofs.nat.shrink_reach.Goals as goal

pub returns-clause-shrinks : goal.returns-clause-shrinks
returns-clause-shrinks c =
    let old = c.args.mappings.now in
    let part = c.shrink_reach.new.mappings in
    let k = c.usable-count.result in
    part-becomes (λ a b. Shrinks c.args.nat.now a b c.args.now) old part (part ++ drop k old) k (parts old part k c.usable-count.ensures.value (search rules)) c.shrink_reach.ensures.shrinks

pub returns-clause-beyond : goal.returns-clause-beyond
returns-clause-beyond c =
    let old = c.args.mappings.now in
    let part = c.shrink_reach.new.mappings in
    let k = c.usable-count.result in
    stays-beyond old part (part ++ drop k old) k (parts old part k c.usable-count.ensures.value (search rules))

pub returns-clause-keeps : goal.returns-clause-keeps
returns-clause-keeps c =
    let old = c.args.mappings.now in
    let part = c.shrink_reach.new.mappings in
    let k = c.usable-count.result in
    part-keeps (λ l. IsTable c.args.nat.now l c.args.now) old part (part ++ drop k old) k (parts old part k c.usable-count.ensures.value (search rules)) c.shrink_reach.ensures.keeps
