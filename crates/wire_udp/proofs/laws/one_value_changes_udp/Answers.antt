use Rattle.std.proofs.Common.{false, rules}
use Rattle.wire_udp.proofs.UdpChanged.{reads_checksum, reads-dst_port, reads-src_port}
use Rattle.wire_udp.proofs.laws.one_value_changes_udp.Goals as goal

pub returns-clause-src_port : goal.returns-clause-src_port
returns-clause-src_port c = reads-src_port c.args.bytes.now c.args.word c.args.src_addr c.args.dst_addr false false c.args.value c.args.payload.now (search rules) c.requires (λ no. cc)

pub returns-clause-dst_port : goal.returns-clause-dst_port
returns-clause-dst_port c some = reads-dst_port c.args.bytes.now c.args.word c.args.src_addr c.args.dst_addr false false c.args.value c.args.payload.now (search rules) some c.requires (λ no. cc)

pub returns-clause-checksum : goal.returns-clause-checksum
returns-clause-checksum c = reads_checksum c.args.bytes.now c.args.word c.args.src_addr c.args.dst_addr c.args.src_addr c.args.dst_addr false false c.args.value c.args.payload.now c.requires (λ no. cc)
