use Rattle.std.proofs.Common.{rules}
use Rattle.wire_icmp.proofs.IcmpReadsBack.{IsInRange, reads_emitted}
use Rattle.wire_icmp.proofs.IcmpSums.{AreWhole}
use Rattle.wire_icmp.specs.Icmp.{header_of}
use Rattle.wire_addr.specs.IpAddress.{version_of}
use Rattle.wire_icmp.proofs.laws.emit_reads_back_icmp.Goals as goal

pub returns : goal.returns
returns c normal is =
    let header = header_of (version_of c.args.src_addr) c.args.value in
    let whole : AreWhole c.args.src_addr c.args.dst_addr = record { src_bytes = search rules; dst_bytes = search rules } in
    let in_range : IsInRange header = record { msg_type = search rules; msg_code = search rules; word = search rules } in
    reads_emitted header c.args.src_addr c.args.dst_addr c.args.payload.now c.args.computed c.args.verified normal whole in_range is c.requires.checksum
