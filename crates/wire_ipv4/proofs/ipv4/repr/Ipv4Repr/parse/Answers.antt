use Rattle.std.proofs.Common.{rules, Result, Err}
use Rattle.net_base.specs.Checksum.{verifies}
use Rattle.net_base.proofs.Readings.{answer_computed}
use Rattle.net_base.specs.declared.error.Error.{Error}
use Rattle.wire_ipv4.proofs.Ipv4Computed.{ipv4_of-Reads}
use Rattle.wire_ipv4.specs.Ipv4.{Reads, ipv4_of}
use Rattle.wire_ipv4.specs.declared.ipv4.repr.Ipv4Repr.{Ipv4Repr}
use Rattle.wire_ipv4.proofs.ipv4.repr.Ipv4Repr.parse.Goals as goal

pub returns-in_err-check_len-clause-value : goal.returns-in_err-check_len-clause-value
returns-in_err-check_len-clause-value c =
    let bytes = c.args.packet.now.buffer.now in
    let verified = verifies c.args.caps.now.ipv4 in
    answer_computed (Reads bytes verified) c.from_residual.result (ipv4_of verified bytes) (search rules) (ipv4_of-Reads verified bytes)

pub returns-then-version-ne4-clause-value : goal.returns-then-version-ne4-clause-value
returns-then-version-ne4-clause-value c =
    let bytes = c.args.packet.now.buffer.now in
    let verified = verifies c.args.caps.now.ipv4 in
    let rejected : Result Ipv4Repr Error = Err (record {}) in
    answer_computed (Reads bytes verified) rejected (ipv4_of verified bytes) (search rules) (ipv4_of-Reads verified bytes)

pub returns-then-not-verify_checksum-clause-value : goal.returns-then-not-verify_checksum-clause-value
returns-then-not-verify_checksum-clause-value c =
    let bytes = c.args.packet.now.buffer.now in
    let verified = verifies c.args.caps.now.ipv4 in
    let rejected : Result Ipv4Repr Error = Err (record {}) in
    answer_computed (Reads bytes verified) rejected (ipv4_of verified bytes) (search rules) (ipv4_of-Reads verified bytes)

pub returns-clause-value : goal.returns-clause-value
returns-clause-value c = (ipv4_of-Reads (verifies c.args.caps.now.ipv4) c.args.packet.now.buffer.now _).1 (search rules)
