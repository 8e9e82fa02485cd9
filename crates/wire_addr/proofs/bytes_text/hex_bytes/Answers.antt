use Rattle.std.proofs.Common.{◌≡◌, ◌<◌, ◌∙◌, length, take, take_all, arith, subst}
use Rattle.wire_addr.specs.Grammar.{IsHexText, Reads}
use Rattle.wire_addr.proofs.Pairs.{too_long}
use Rattle.wire_addr.proofs.bytes_text.hex_bytes.Goals as goal

pub returns-then-is_too_long : goal.returns-then-is_too_long
returns-then-is_too_long c = λ octets. too_long c.args.text.now octets (c.is_too_long.ensures.0 c.if-is_too_long.true)

pub returns-else-is_too_long : goal.returns-else-is_too_long
returns-else-is_too_long c =
    let short : ¬ (17 < length c.args.text.now) = λ long. absurd (cc (c.is_too_long.ensures.1 long, c.if-is_too_long.false)) in
    let whole : take 17 c.args.text.now ≡ c.args.text.now = take_all 17 c.args.text.now (omega (arith, short)) in
    subst (λ t. Reads IsHexText t c.pairs.result) (c.in-Some.ensures.cases.same ∙ whole) c.pairs.ensures
