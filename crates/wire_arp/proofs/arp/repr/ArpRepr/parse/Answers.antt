use Rattle.std.proofs.Common.{rules, Result, Err}
use Rattle.net_base.proofs.Readings.{answer_computed}
use Rattle.net_base.specs.declared.error.Error.{Error}
use Rattle.wire_arp.proofs.ArpComputed.{arp_of-Reads}
use Rattle.wire_arp.specs.Arp.{Reads, arp_of}
use Rattle.wire_arp.specs.declared.arp.repr.ArpRepr.{ArpRepr}
use Rattle.wire_arp.proofs.arp.repr.ArpRepr.parse.Goals as goal

pub returns-then-bytes-lt-ETHERNET_IPV4_LEN-clause-value : goal.returns-then-bytes-lt-ETHERNET_IPV4_LEN-clause-value
returns-then-bytes-lt-ETHERNET_IPV4_LEN-clause-value c =
    let bytes = c.args.packet.now.buffer.now in
    let rejected : Result ArpRepr Error = Err (record {}) in
    answer_computed (Reads bytes) rejected (arp_of bytes) (search rules) (arp_of-Reads bytes)

pub returns-clause-value : goal.returns-clause-value
returns-clause-value c = (arp_of-Reads c.args.packet.now.buffer.now _).1 (search rules)
