use Rattle.std.proofs.Common.{arith, ◌<◌}
use Rattle.std.specs.Fmt.{digits}
use Rattle.wire_addr.proofs.Entries.{decimal_text, decimal_ascii}
use Rattle.wire_addr.proofs.tables.decimal_dots.Goals as goal

pub returns-clause-text : goal.returns-clause-text
unfolding digits
returns-clause-text c =
    let within : c.args.octet < 256 = omega (arith, c.ranges.octet.fits) in
    rw c.to_le_bytes.ensures (search (decimal_text, within))

pub returns-clause-ascii : goal.returns-clause-ascii
unfolding digits
returns-clause-ascii c =
    let within : c.args.octet < 256 = omega (arith, c.ranges.octet.fits) in
    rw c.to_le_bytes.ensures (search (decimal_ascii, within))
