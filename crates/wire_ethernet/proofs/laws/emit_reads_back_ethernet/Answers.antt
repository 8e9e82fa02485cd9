use Rattle.std.proofs.Common.{rules}
use Rattle.wire_ethernet.proofs.EthernetEmitted.{reads_bytes_of}
use Rattle.wire_ethernet.proofs.laws.emit_reads_back_ethernet.Goals as goal

pub returns : goal.returns
returns c = reads_bytes_of c.args.value c.args.rest.now (search rules) (search rules) (search rules)
