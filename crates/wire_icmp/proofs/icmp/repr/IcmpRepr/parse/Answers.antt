use Rattle.std.proofs.Common.{rules, Err}
use Rattle.net_base.specs.Checksum.{verifies}
use Rattle.wire_addr.specs.IpAddress.{version_of}
use Rattle.wire_icmp.specs.Icmp.{choice_of}
use Rattle.wire_icmp.proofs.IcmpComputed.{answer-icmp_of, icmp_of_Reads}
use Rattle.wire_icmp.proofs.icmp.repr.IcmpRepr.parse.Goals as goal

pub returns-in_err-check_len-clause-value : goal.returns-in_err-check_len-clause-value
returns-in_err-check_len-clause-value c =
    answer-icmp_of c.args.src_addr.now c.args.dst_addr.now (verifies (choice_of (version_of c.args.src_addr.now) c.args.caps.now)) c.args.packet.now.buffer.now c.from_residual.result (search rules)

pub returns-then-not-verify_checksum-clause-value : goal.returns-then-not-verify_checksum-clause-value
returns-then-not-verify_checksum-clause-value c =
    answer-icmp_of c.args.src_addr.now c.args.dst_addr.now (verifies (choice_of (version_of c.args.src_addr.now) c.args.caps.now)) c.args.packet.now.buffer.now (Err (record {})) (search rules)

pub returns-in-Some-clause-value : goal.returns-in-Some-clause-value
returns-in-Some-clause-value c =
    (icmp_of_Reads c.args.src_addr.now c.args.dst_addr.now (verifies (choice_of (version_of c.args.src_addr.now) c.args.caps.now)) c.args.packet.now.buffer.now _).1 (search rules)

pub returns-in-None-clause-value : goal.returns-in-None-clause-value
returns-in-None-clause-value c =
    answer-icmp_of c.args.src_addr.now c.args.dst_addr.now (verifies (choice_of (version_of c.args.src_addr.now) c.args.caps.now)) c.args.packet.now.buffer.now (Err (record {})) (search rules)
