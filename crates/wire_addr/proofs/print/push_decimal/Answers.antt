use Rattle.std.proofs.Common.{◌++◌, ap, ◌∙◌, rules}
use Rattle.std.proofs.lemmas.Str.{IsAscii-take}
use Rattle.wire_addr.proofs.Entries.{front_of}
use Rattle.wire_addr.proofs.print.push_decimal.Goals as goal

pub push_front-requires : goal.push_front-requires
push_front-requires g c = (search rules, (IsAscii-take c.decimal_dots.result 3 c.decimal_dots.ensures.ascii, (search rules, search rules)))

pub returns-clause-bytes : goal.returns-clause-bytes
returns-clause-bytes g c =
    c.push_front.ensures.bytes
    ∙ ap (λ digits. c.args.text.now.bytes ++ digits) (front_of c.decimal_dots.result _ c.decimal_len.result c.decimal_dots.ensures.text c.decimal_len.ensures.len c.decimal_len.ensures.most)
