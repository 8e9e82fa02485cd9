use Rattle.std.proofs.Common.{◌≤◌, ◌∙◌, arith, rules}
use Rattle.app_edit.proofs.ShortSums.{four_bytes, one_byte, two_bytes}
use Rattle.app_edit.proofs.checksums.sum_of.Goals as goal

pub returns-in-len1 : goal.returns-in-len1
returns-in-len1 c =
    let fits : c.word.result ≤ 65535 = search rules in
    one_byte c.args.bytes.now c.word.result (omega (arith, c.in-len1.len_at_least, c.in-len1.len_below)) fits c.word.ensures

pub returns-in-len2 : goal.returns-in-len2
returns-in-len2 c =
    let fits : c.word-in-len2.result ≤ 65535 = search rules in
    two_bytes c.args.bytes.now c.word-in-len2.result (omega (arith, c.in-len2.len_at_least, c.in-len2.len_below)) fits c.word-in-len2.ensures

pub returns-in-len4 : goal.returns-in-len4
returns-in-len4 c =
    c.combine.ensures ∙ four_bytes c.args.bytes.now c.word-in-len4.result c.word-in-len4-2.result (omega (arith, c.in-len4.len_at_least, c.in-len4.len_below)) c.word-in-len4.ensures c.word-in-len4-2.ensures
