use Rattle.std.proofs.Common.{refl}
use Rattle.wire_addr.proofs.Pairs.{pair_read}
use Rattle.wire_addr.proofs.bytes_text.two_digits.Goals as goal

pub returns-clause-value : goal.returns-clause-value
returns-clause-value c = λ both. pair_read c.args.high c.args.low _ _ _ c.hex_digit-high.ensures c.hex_digit-low.ensures refl both
