use Rattle.std.proofs.Common.{rules}
use Rattle.wire_icmp.proofs.ReadsBack.{IsInRange, reads_bytes_of}
use Rattle.wire_icmp.proofs.laws.ndisc.emit_reads_back_ndisc.Goals as goal

pub returns : goal.returns
returns c =
    let in_range : IsInRange c.args.value c.args.src_addr c.args.dst_addr = record {
      src_bytes = search rules;
      dst_bytes = search rules;
      target = search rules;
      lladdr = λ address is. search rules;
    } in
    reads_bytes_of c.args.value c.args.src_addr c.args.dst_addr c.args.computed c.args.verified in_range c.requires.allowed c.requires.checksum
