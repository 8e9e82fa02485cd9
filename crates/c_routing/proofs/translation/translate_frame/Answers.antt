use Rattle.std.proofs.Common.{rules}
use Rattle.c_routing.proofs.Translations.{not-translated, too-long}
use Rattle.c_routing.specs.Translated.{side_of}
use Rattle.c_routing.proofs.translation.translate_frame.Goals as goal

pub returns-then-frame-gt-MAX_LEN : goal.returns-then-frame-gt-MAX_LEN
returns-then-frame-gt-MAX_LEN c =
    too-long c.args.frame.now (side_of c.args.side) c.args.end.now c.code-then-frame-gt-MAX_LEN.result
    (search rules) (search rules) (search rules) (search rules)

pub returns-in-Err : goal.returns-in-Err
returns-in-Err c =
    not-translated c.args.frame.now c.translate.new.frame (side_of c.args.side) c.args.end.now c.in-Err.reason c.code-in-Err.result
    (search rules) (search rules) (search rules) (search rules) (search rules) (search rules)
