use Rattle.std.proofs.Common.{arith, ◌<◌}
use Rattle.wire_addr.proofs.Entries.{pair_at}
use Rattle.wire_addr.proofs.tables.hex_entry.Goals as goal

pub returns : goal.returns
returns c =
    let within : c.args.octet < 256 = omega (arith, c.ranges.octet.fits) in
    search (pair_at, within)
