use Rattle.std.proofs.Common.{◌∙◌, true, false, Ok, Err, Result, rules}
use Rattle.net_base.specs.Checksum.{verifies}
use Rattle.net_base.specs.declared.error.Error.{Error}
use Rattle.wire_icmp.proofs.NdiscComputed.{answer-Reads, ndisc_of-allowed, ndisc_of-no_fields, ndisc_of-unsound}
use Rattle.wire_icmp.specs.declared.ndisc.repr.NdiscRepr.{NdiscRepr}
use Rattle.wire_icmp.proofs.ndisc.repr.NdiscRepr.parse.Goals as goal

pub returns-then-not-is_sound-clause-value : goal.returns-then-not-is_sound-clause-value
returns-then-not-is_sound-clause-value c =
    ndisc_of-unsound c.args.src_addr.now c.args.dst_addr.now c.args.hop_limit (verifies c.args.caps.now.icmpv6) c.args.packet.now.buffer.now (search rules)

pub returns-in_err-value-clause-value : goal.returns-in_err-value-clause-value
returns-in_err-value-clause-value c =
    ndisc_of-no_fields c.args.src_addr.now c.args.dst_addr.now c.args.hop_limit (verifies c.args.caps.now.icmpv6) c.args.packet.now.buffer.now (search rules) c.in_err-value.ensures
    ∙ search rules

pub returns-in_err-value-clause-reads : goal.returns-in_err-value-clause-reads
returns-in_err-value-clause-reads c v =
    let none = ndisc_of-no_fields c.args.src_addr.now c.args.dst_addr.now c.args.hop_limit (verifies c.args.caps.now.icmpv6) c.args.packet.now.buffer.now (search rules) c.in_err-value.ensures in
    answer-Reads c.args.src_addr.now c.args.dst_addr.now c.args.hop_limit (verifies c.args.caps.now.icmpv6) c.args.packet.now.buffer.now c.from_residual.result (none ∙ search rules) v

pub returns-then-not-is_allowed-clause-value : goal.returns-then-not-is_allowed-clause-value
returns-then-not-is_allowed-clause-value c =
    ndisc_of-allowed c.args.src_addr.now c.args.dst_addr.now c.args.hop_limit (verifies c.args.caps.now.icmpv6) c.args.packet.now.buffer.now c.in_ok-value.value false (search rules) c.in_ok-value.ensures (search rules)

pub returns-then-not-is_allowed-clause-reads : goal.returns-then-not-is_allowed-clause-reads
returns-then-not-is_allowed-clause-reads c v =
    let rejected : Result NdiscRepr Error = Err (record {}) in
    let none = ndisc_of-allowed c.args.src_addr.now c.args.dst_addr.now c.args.hop_limit (verifies c.args.caps.now.icmpv6) c.args.packet.now.buffer.now c.in_ok-value.value false (search rules) c.in_ok-value.ensures (search rules) in
    answer-Reads c.args.src_addr.now c.args.dst_addr.now c.args.hop_limit (verifies c.args.caps.now.icmpv6) c.args.packet.now.buffer.now rejected none v

pub returns-clause-value : goal.returns-clause-value
returns-clause-value c =
    ndisc_of-allowed c.args.src_addr.now c.args.dst_addr.now c.args.hop_limit (verifies c.args.caps.now.icmpv6) c.args.packet.now.buffer.now c.in_ok-value.value true (search rules) c.in_ok-value.ensures (search rules)

pub returns-clause-reads : goal.returns-clause-reads
returns-clause-reads c v =
    let answer : Result NdiscRepr Error = Ok c.in_ok-value.value in
    let some = ndisc_of-allowed c.args.src_addr.now c.args.dst_addr.now c.args.hop_limit (verifies c.args.caps.now.icmpv6) c.args.packet.now.buffer.now c.in_ok-value.value true (search rules) c.in_ok-value.ensures (search rules) in
    answer-Reads c.args.src_addr.now c.args.dst_addr.now c.args.hop_limit (verifies c.args.caps.now.icmpv6) c.args.packet.now.buffer.now answer some v
