use Rattle.std.proofs.Common.{◌++◌, drop, rules}
use Rattle.app_nat.specs.Table.{IsTable}
use Rattle.c_routing.proofs.NatCalls.{goes-out, long-out, stays-inside}
use Rattle.c_routing.proofs.Tables.{part-keeps, parts}
use Rattle.c_routing.proofs.nat.translate_out.Goals as goal

pub returns-then-frame-gt-MAX_LEN-clause-translates : goal.returns-then-frame-gt-MAX_LEN-clause-translates
returns-then-frame-gt-MAX_LEN-clause-translates c =
    long-out c.args.nat.now c.args.mappings.now c.args.now c.args.frame.now c.code.result (search rules) (search rules) (search rules)

pub returns-in-Ok-clause-translates : goal.returns-in-Ok-clause-translates
returns-in-Ok-clause-translates c =
    let old = c.args.mappings.now in
    let part = c.translate_out.new.mappings in
    let k = c.usable-count.result in
    goes-out c.args.nat.now old part (part ++ drop k old) k c.args.now c.args.frame.now c.translate_out.new.frame
    (parts old part k c.usable-count.ensures.value (search rules)) (search rules) (search rules)

pub returns-in-Ok-clause-keeps : goal.returns-in-Ok-clause-keeps
returns-in-Ok-clause-keeps c =
    let old = c.args.mappings.now in
    let part = c.translate_out.new.mappings in
    let k = c.usable-count.result in
    part-keeps (λ l. IsTable c.args.nat.now l c.args.now) old part (part ++ drop k old) k (parts old part k c.usable-count.ensures.value (search rules)) c.translate_out.ensures.keeps

pub returns-in-Err-clause-translates : goal.returns-in-Err-clause-translates
returns-in-Err-clause-translates c =
    let old = c.args.mappings.now in
    let part = c.translate_out.new.mappings in
    let k = c.usable-count.result in
    stays-inside c.args.nat.now old part (part ++ drop k old) k c.args.now c.args.frame.now c.translate_out.new.frame c.in-Err.reason c.code-in-Err.result
    (parts old part k c.usable-count.ensures.value (search rules)) (search rules) (search rules) (search rules) (search rules) (search rules) (search rules)
