use Rattle.std.proofs.Common.{rules, Err}
use Rattle.net_base.specs.Checksum.{verifies}
use Rattle.wire_tcp.proofs.OptionLens.{header_len-tcp_of}
use Rattle.wire_tcp.proofs.TcpComputed.{answer-tcp_of, tcp_of-Reads}
use Rattle.wire_tcp.proofs.tcp.repr.TcpRepr.parse.Goals as goal

pub returns-in_err-check_len-clause-value : goal.returns-in_err-check_len-clause-value
returns-in_err-check_len-clause-value c =
    answer-tcp_of c.args.src_addr.now c.args.dst_addr.now (verifies c.args.caps.now.tcp) c.args.packet.now.buffer.now c.from_residual.result (search rules) (search rules)

pub returns-then-src_port-eq0-clause-value : goal.returns-then-src_port-eq0-clause-value
returns-then-src_port-eq0-clause-value c =
    answer-tcp_of c.args.src_addr.now c.args.dst_addr.now (verifies c.args.caps.now.tcp) c.args.packet.now.buffer.now (Err (record {})) (search rules) (search rules)

pub returns-in_err-control-clause-value : goal.returns-in_err-control-clause-value
returns-in_err-control-clause-value c =
    answer-tcp_of c.args.src_addr.now c.args.dst_addr.now (verifies c.args.caps.now.tcp) c.args.packet.now.buffer.now c.from_residual-in_err-control.result (search rules) (search rules)

pub returns-then-not-verify_checksum-clause-value :
    goal.returns-then-not-verify_checksum-clause-value
returns-then-not-verify_checksum-clause-value c =
    answer-tcp_of c.args.src_addr.now c.args.dst_addr.now (verifies c.args.caps.now.tcp) c.args.packet.now.buffer.now (Err (record {})) (search rules) (search rules)

pub returns-in_err-options-clause-value : goal.returns-in_err-options-clause-value
returns-in_err-options-clause-value c =
    answer-tcp_of c.args.src_addr.now c.args.dst_addr.now (verifies c.args.caps.now.tcp) c.args.packet.now.buffer.now c.from_residual-in_err-options.result (search rules) (search rules)

pub returns-clause-value : goal.returns-clause-value
returns-clause-value c =
    (tcp_of-Reads c.args.src_addr.now c.args.dst_addr.now (verifies c.args.caps.now.tcp) c.args.packet.now.buffer.now _).1 (search rules)

pub returns-clause-room : goal.returns-clause-room
returns-clause-room c =
    header_len-tcp_of c.args.src_addr.now c.args.dst_addr.now (verifies c.args.caps.now.tcp) c.args.packet.now.buffer.now _ (returns-clause-value c)
