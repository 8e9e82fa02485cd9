use Rattle.std.proofs.Common.{rules}
use Rattle.net_base.proofs.Readings.{answer_computed}
use Rattle.wire_ethernet.proofs.EthernetComputed.{ethernet_of-Reads}
use Rattle.wire_ethernet.specs.Ethernet.{Reads, ethernet_of}
use Rattle.wire_ethernet.proofs.ethernet.EthernetRepr.parse.Goals as goal

pub returns-in_err-check_len-clause-value : goal.returns-in_err-check_len-clause-value
returns-in_err-check_len-clause-value c =
    let bytes = c.args.frame.now.buffer.now in
    answer_computed (Reads bytes) c.from_residual.result (ethernet_of bytes) (search rules) (ethernet_of-Reads bytes)

pub returns-clause-value : goal.returns-clause-value
returns-clause-value c = (ethernet_of-Reads c.args.frame.now.buffer.now _).1 (search rules)
