use Rattle.std.proofs.Common.{ap, arith, Some}
use Rattle.wire_addr.proofs.Pairs.{first_found, second_byte, third_byte}
use Rattle.wire_addr.proofs.bytes_text.first_mark.Goals as goal

pub returns-in_default : goal.returns-in_default
returns-in_default c = λ mark octets apart h. absurd (omega (arith, c.in_default.len_below, (first_found mark c.args.text.now octets h).0))

pub returns-then-is_digit : goal.returns-then-is_digit
returns-then-is_digit c = λ mark octets apart h. ap Some (third_byte mark c.args.text.now apart (omega (arith, c.hex_digit-is_digit.ensures, c.if-is_digit.true)) (first_found mark c.args.text.now octets h))

pub returns-else-is_digit : goal.returns-else-is_digit
returns-else-is_digit c = λ mark octets apart h. ap Some (second_byte mark c.args.text.now (omega (arith, c.hex_digit-is_digit.ensures, c.if-is_digit.false)) (first_found mark c.args.text.now octets h))
