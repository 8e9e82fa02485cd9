use Rattle.std.proofs.Common.{rules, Err}
use Rattle.net_base.specs.Checksum.{verifies}
use Rattle.wire_udp.proofs.UdpComputed.{answer-udp_of, udp_of-Reads}
use Rattle.wire_udp.proofs.udp.repr.UdpRepr.parse.Goals as goal

pub returns-in_err-check_len-clause-value : goal.returns-in_err-check_len-clause-value
returns-in_err-check_len-clause-value c =
    answer-udp_of c.args.src_addr.now c.args.dst_addr.now (verifies c.args.caps.now.udp) c.args.packet.now.buffer.now c.from_residual.result (search rules)

pub returns-then-dst_port-eq0-clause-value : goal.returns-then-dst_port-eq0-clause-value
returns-then-dst_port-eq0-clause-value c =
    answer-udp_of c.args.src_addr.now c.args.dst_addr.now (verifies c.args.caps.now.udp) c.args.packet.now.buffer.now (Err (record {})) (search rules)

pub returns-then-not-has_valid_checksum-clause-value : goal.returns-then-not-has_valid_checksum-clause-value
returns-then-not-has_valid_checksum-clause-value c =
    answer-udp_of c.args.src_addr.now c.args.dst_addr.now (verifies c.args.caps.now.udp) c.args.packet.now.buffer.now (Err (record {})) (search rules)

pub returns-clause-value : goal.returns-clause-value
returns-clause-value c =
    (udp_of-Reads c.args.src_addr.now c.args.dst_addr.now (verifies c.args.caps.now.udp) c.args.packet.now.buffer.now _).1 (search rules)
