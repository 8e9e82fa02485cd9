use Rattle.std.proofs.Common.{arith, rules}
use Rattle.wire_addr.proofs.Pairs.{by_colons, by_dashes, other_mark}
use Rattle.wire_addr.proofs.bytes_text.pairs.Goals as goal

pub returns-then-text-eq45 : goal.returns-then-text-eq45
returns-then-text-eq45 c =
    by_dashes c.args.text.now _ (λ octets. other_mark 58 c.args.text.now octets (search rules) (omega (arith, c.if-text-eq45.true))) c.six_pairs.ensures

pub returns-else-text-eq45 : goal.returns-else-text-eq45
returns-else-text-eq45 c =
    by_colons c.args.text.now _ (λ octets. other_mark 45 c.args.text.now octets (search rules) (omega (arith, c.if-text-eq45.false))) c.six_pairs-else-text-eq45.ensures
