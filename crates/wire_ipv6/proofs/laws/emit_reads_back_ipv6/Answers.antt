use Rattle.std.proofs.Common.{◌<◌, rules}
use Rattle.wire_ipv6.proofs.Ipv6Emitted.{IsInRange}
use Rattle.wire_ipv6.proofs.Ipv6ReadsBack.{reads_bytes_of}
use Rattle.wire_addr.specs.Protocol.{number_of}
use Rattle.wire_ipv6.proofs.laws.emit_reads_back_ipv6.Goals as goal

pub returns : goal.returns
returns c =
    let named : number_of c.args.value.next_header < 256 = search rules in
    let in_range : IsInRange c.args.value = record {
      src_addr = search rules;
      dst_addr = search rules;
      next_header = named;
      payload_len = c.requires.payload_len;
      hop_limit = search rules;
    } in
    reads_bytes_of c.args.value c.args.rest.now in_range c.requires.payload
