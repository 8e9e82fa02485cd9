use Rattle.std.proofs.Common.{rules}
use Rattle.wire_udp.proofs.UdpReadsBack.{IsInRange, reads_bytes_of}
use Rattle.wire_udp.proofs.laws.emit_reads_back_udp.Goals as goal

pub returns : goal.returns
returns c =
    let in_range : IsInRange c.args.value c.args.payload.now c.args.src_addr c.args.dst_addr = record {
      src_port = search rules;
      dst_port = search rules;
      receiver = c.requires.receiver;
      payload_len = c.requires.payload_len;
      src_bytes = search rules;
      dst_bytes = search rules;
    } in
    reads_bytes_of c.args.value c.args.src_addr c.args.dst_addr c.args.payload.now c.args.rest.now c.args.computed c.args.verified in_range c.requires.checksum
