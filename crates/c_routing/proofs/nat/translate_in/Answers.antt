use Rattle.std.proofs.Common.{◌++◌, drop, rules}
use Rattle.app_nat.specs.Table.{IsTable}
use Rattle.c_routing.proofs.NatCalls.{comes-in, long-in, stays-outside}
use Rattle.c_routing.proofs.Tables.{part-after, part-keeps, parts, stays-beyond}
use Rattle.c_routing.proofs.nat.translate_in.Goals as goal

pub returns-then-frame-gt-MAX_LEN-clause-translates : goal.returns-then-frame-gt-MAX_LEN-clause-translates
returns-then-frame-gt-MAX_LEN-clause-translates c =
    long-in c.args.nat.now c.args.mappings.now c.args.now c.args.frame.now c.code.result (search rules) (search rules) (search rules)

pub returns-in-Ok-clause-translates : goal.returns-in-Ok-clause-translates
returns-in-Ok-clause-translates c =
    let old = c.args.mappings.now in
    let part = c.translate_in.new.mappings in
    let k = c.usable-count.result in
    comes-in c.args.nat.now old part (part ++ drop k old) k c.args.now c.args.frame.now c.translate_in.new.frame
    (parts old part k c.usable-count.ensures.value (search rules)) (search rules) (search rules)

pub returns-in-Ok-clause-beyond : goal.returns-in-Ok-clause-beyond
returns-in-Ok-clause-beyond c =
    let old = c.args.mappings.now in
    let part = c.translate_in.new.mappings in
    let k = c.usable-count.result in
    stays-beyond old part (part ++ drop k old) k (parts old part k c.usable-count.ensures.value (search rules))

pub returns-in-Ok-clause-keeps : goal.returns-in-Ok-clause-keeps
returns-in-Ok-clause-keeps c =
    let old = c.args.mappings.now in
    let part = c.translate_in.new.mappings in
    let k = c.usable-count.result in
    part-keeps (λ l. IsTable c.args.nat.now l c.args.now) old part (part ++ drop k old) k (parts old part k c.usable-count.ensures.value (search rules)) c.translate_in.ensures.keeps

pub returns-in-Err-clause-translates : goal.returns-in-Err-clause-translates
returns-in-Err-clause-translates c =
    let old = c.args.mappings.now in
    let part = c.translate_in.new.mappings in
    let k = c.usable-count.result in
    let either = parts old part k c.usable-count.ensures.value (search rules) in
    stays-outside c.args.nat.now old part (part ++ drop k old) k c.args.now c.args.frame.now c.translate_in.new.frame c.in-Err.reason c.code-in-Err.result
    either (part-after old part (part ++ drop k old) k c.usable-count.ensures.value (search rules) either) (search rules) (search rules) (search rules) (search rules) (search rules)

pub returns-in-Err-clause-beyond : goal.returns-in-Err-clause-beyond
returns-in-Err-clause-beyond c =
    let old = c.args.mappings.now in
    let part = c.translate_in.new.mappings in
    let k = c.usable-count.result in
    stays-beyond old part (part ++ drop k old) k (parts old part k c.usable-count.ensures.value (search rules))

pub returns-in-Err-clause-keeps : goal.returns-in-Err-clause-keeps
returns-in-Err-clause-keeps c =
    let old = c.args.mappings.now in
    let part = c.translate_in.new.mappings in
    let k = c.usable-count.result in
    part-keeps (λ l. IsTable c.args.nat.now l c.args.now) old part (part ++ drop k old) k (parts old part k c.usable-count.ensures.value (search rules)) c.translate_in.ensures.keeps
