use Rattle.std.proofs.Common.{rules}
use Rattle.wire_ip.proofs.IpReadsBack.{IsInRange, reads_bytes_of}
use Rattle.wire_ip.proofs.laws.emit_reads_back_ip.Goals as goal

pub returns : goal.returns
returns c =
    let in_range : IsInRange c.args.value = search rules in
    reads_bytes_of c.args.value c.args.rest.now c.args.computed c.args.verified in_range c.requires.payload c.requires.checksum
