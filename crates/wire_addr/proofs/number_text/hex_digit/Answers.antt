use Rattle.std.proofs.Common.{arith, ◌<◌}
use Rattle.wire_addr.proofs.HexDigits.{digit_of}
use Rattle.wire_addr.proofs.number_text.hex_digit.Goals as goal

pub returns : goal.returns
returns c =
    let within : c.args.byte < 256 = omega (arith, c.ranges.byte.fits) in
    search (digit_of, within)
